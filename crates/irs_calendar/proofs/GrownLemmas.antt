-- Runs that grow by one run after another.
use Rattle.std.proofs.Common.{◌≡◌, ◌⊎◌, inl, inr, ℕ, zero, suc, ◌+◌, ◌<◌, ◌≤◌, Bool, true, false, ◌||◌, List, [], ◌∷◌}
use Rattle.std.proofs.Common.{◌++◌, slice_get, Some, arith, refl, sym, subst, ℤ, pos, ◌+ℤ◌, ◌-ℤ◌, ◌≤ℤ◌, ◌<ℤ◌}
use Rattle.std.proofs.lemmas.Bool.{or_cases}
use Rattle.std.specs.List.{list_any}
use Rattle.std.specs.Ordering.{int_cmp, is_le}
use Rattle.jiff_core.proofs.SignedLemmas.{signed_arith, one_part, unsigned_abs-parts}
use Rattle.std.specs.Prelude.{unsigned_abs}
use Rattle.irs_calendar.specs.declared.runs.Run.{Run}
use Rattle.irs_calendar.specs.GoodDays.{CoveredRuns, holds_day}
use Rattle.irs_calendar.specs.Private.Closed.{Represents}
use Rattle.std.proofs.lemmas.Option.{same_Some}
use Rattle.irs_base.proofs.Orders.{le_true, true_le, both_true}
use Rattle.irs_calendar.proofs.ClosedLemmas.{Turn}

-- the day lies in one of the runs
abbrev pub Holds : ℤ → List Run → Type 0
Holds x [] = ⊥
Holds x (r ∷ rs) = ((r.first ≤ℤ x) × (x ≤ℤ r.last)) ⊎ Holds x rs

-- the runs rise from a day on, with a gap after each, and the gaps end before another day
abbrev pub Rise : ℤ → ℤ → List Run → Type 0
Rise from next [] = Unit {0}
Rise from next (r ∷ rs) =
    (from ≤ℤ r.first) × (r.first ≤ℤ r.last) × ((r.last +ℤ pos 1) <ℤ next) × Rise (r.last +ℤ pos 2) next rs

rise_later : (rs : List Run) (from next later : ℤ) → next ≤ℤ later → Rise from next rs → Rise from later rs
rise_later [] from next later h rise = tt
rise_later (r ∷ rs) from next later h rise =
    (rise.0, rise.1, omega (arith, signed_arith, rise.2, h), rise_later rs (r.last +ℤ pos 2) next later h rise.3)

rise_with : (rs : List Run) (from next later : ℤ) (r : Run) → Rise from next rs → from ≤ℤ r.first → next ≤ℤ r.first
    → next ≤ℤ later → r.first ≤ℤ r.last → (r.last +ℤ pos 1) <ℤ later → Rise from later (rs ++ r ∷ [])
rise_with [] from next later r rise low after order filled high = (low, filled, high, tt)
rise_with (s ∷ rs) from next later r rise low after order filled high = (
  rise.0,
  rise.1,
  omega (arith, signed_arith, rise.2, order),
  rise_with rs (s.last +ℤ pos 2) next later r rise.3
      (omega (arith, signed_arith, rise.2, after)) after order filled high,
)

with_sound : (rs : List Run) (r : Run) (x : ℤ) → Holds x (rs ++ r ∷ []) → Holds x rs ⊎ ((r.first ≤ℤ x) × (x ≤ℤ r.last))
with_sound [] r x h = elim h [ inl here ↦ inr here | inr never ↦ absurd never ]
with_sound (s ∷ rs) r x h = elim h [
  | inl here ↦ inl (inl here)
  | inr rest ↦ elim (with_sound rs r x rest) [ inl old ↦ inl (inr old) | inr new ↦ inr new ]
]

with_old : (rs : List Run) (r : Run) (x : ℤ) → Holds x rs → Holds x (rs ++ r ∷ [])
with_old [] r x h = absurd h
with_old (s ∷ rs) r x h = elim h [ inl here ↦ inl here | inr rest ↦ inr (with_old rs r x rest) ]

with_new : (rs : List Run) (r : Run) (x : ℤ) → r.first ≤ℤ x → x ≤ℤ r.last → Holds x (rs ++ r ∷ [])
with_new [] r x low high = inl (low, high)
with_new (s ∷ rs) r x low high = inr (with_new rs r x low high)

-- a day from first on is some days after it
offset : (first x : ℤ) → first ≤ℤ x → (i : ℕ) × (x ≡ first +ℤ pos i)
offset first x h =
    (unsigned_abs (x -ℤ first), omega (arith, signed_arith, h, unsigned_abs-parts (x -ℤ first), one_part (x -ℤ first)))

-- the runs of the first k days, none of which goes beyond the limit; the day before k is closed, or there is none
pub record Among (test : ℤ → Bool) (first : ℤ) (limit k : ℕ) (rs : List Run) : Type 0 where
  pub rise : Rise first (first +ℤ pos k) rs
  pub inside : Rise first (first +ℤ pos (limit + 1)) rs
  pub sound : (x : ℤ) → Holds x rs → test x ≡ true
  pub complete : (i : ℕ) → i < k → i < limit → test (first +ℤ pos i) ≡ true → Holds (first +ℤ pos i) rs

-- before the first day there are no runs
pub among_none : (test : ℤ → Bool) (first : ℤ) (limit k : ℕ) (rs : List Run) → k ≡ 0 → rs ≡ []
    → Among test first limit k rs
among_none test first limit k rs none empty = subst (Among test first limit k) (sym empty) (record {
  rise = tt;
  inside = tt;
  sound = λ x h. absurd h;
  complete = λ i low high h. absurd (omega (arith, none, low));
})

-- nothing is open
pub among_more : (test : ℤ → Bool) (first : ℤ) (limit k end next : ℕ) (rs : List Run) → Among test first limit k rs
    → Turn test first limit k end next → end ≤ k → Among test first limit next rs
among_more test first limit k end next rs a t none = record {
  rise = rise_later rs first (first +ℤ pos k) (first +ℤ pos next)
      (omega (arith, signed_arith, t.later, none, t.after)) a.rise;
  inside = a.inside;
  sound = a.sound;
  complete = λ i low high h. elim (cases_lt i k) [
    | inl old ↦ a.complete i old high h
    | inr new ↦ absurd (let f = t.fails i (omega (arith, new, none)) low high in cc (f, h))
  ];
}
  where
    cases_lt : (i k : ℕ) → (i < k) ⊎ (k ≤ i)
    cases_lt i k = grind arith

-- a run more
pub among_with : (test : ℤ → Bool) (first : ℤ) (limit k end next : ℕ) (rs : List Run) (r : Run)
    → Among test first limit k rs → Turn test first limit k end next → k < end → r.first ≡ first +ℤ pos k
    → r.last +ℤ pos 1 ≡ first +ℤ pos end → Among test first limit next (rs ++ r ∷ [])
among_with test first limit k end next rs r a t some from to = record {
  rise = rise_with rs first (first +ℤ pos k) (first +ℤ pos next) r a.rise (omega (arith, signed_arith, from))
      (omega (arith, signed_arith, from)) (omega (arith, signed_arith, t.later, some)) filled
      (omega (arith, signed_arith, to, t.later));
  inside = rise_with rs first (first +ℤ pos k) (first +ℤ pos (limit + 1)) r a.rise (omega (arith, signed_arith, from))
      (omega (arith, signed_arith, from)) (omega (arith, signed_arith, t.within, some)) filled
      (omega (arith, signed_arith, to, t.within));
  sound = λ x h. elim (with_sound rs r x h) [
    | inl old ↦ a.sound x old
    | inr new ↦
        let i = offset first x (omega (arith, signed_arith, new.0, from)) in
        subst (λ (z : ℤ). test z ≡ true) (sym i.1)
        (t.passes i.0 (omega (arith, signed_arith, new.0, from, i.1)) (omega (arith, signed_arith, new.1, to, i.1)))
  ];
  complete = λ i low high h. elim (cases_lt i k) [
    | inl old ↦ with_old rs r (first +ℤ pos i) (a.complete i old high h)
    | inr past ↦ elim (cases_lt i end) [
      | inl new ↦ with_new rs r (first +ℤ pos i) (omega (arith, signed_arith, from, past))
          (omega (arith, signed_arith, to, new))
      | inr later ↦ absurd (let f = t.fails i later low high in cc (f, h))
    ]
  ];
}
  where
    cases_lt : (i k : ℕ) → (i < k) ⊎ (k ≤ i)
    cases_lt i k = grind arith

    filled : r.first ≤ℤ r.last
    filled = omega (arith, signed_arith, from, to, some)

-- the runs by their places
rise_at : (rs : List Run) (from next : ℤ) (i : ℕ) (r : Run) → Rise from next rs → slice_get rs i ≡ Some r
    → (from ≤ℤ r.first) × (r.first ≤ℤ r.last) × ((r.last +ℤ pos 1) <ℤ next)
rise_at [] from next i r rise at = absurd (cc)
rise_at (s ∷ rs) from next zero r rise at =
    subst (λ (z : Run). (from ≤ℤ z.first) × (z.first ≤ℤ z.last)
    × ((z.last +ℤ pos 1) <ℤ next)) (same_Some s r at) (rise.0, rise.1, rise.2)
rise_at (s ∷ rs) from next (suc i) r rise at =
    let h = rise_at rs (s.last +ℤ pos 2) next i r rise.3 at in
    (omega (arith, signed_arith, h.0, rise.0, rise.1), h.1, h.2)

rise_apart : (rs : List Run) (from next : ℤ) (i j : ℕ) (r s : Run) → Rise from next rs → i < j → slice_get rs i ≡ Some r
    → slice_get rs j ≡ Some s → (r.last +ℤ pos 1) <ℤ s.first
rise_apart [] from next i j r s rise lower atr ats = absurd (cc)
rise_apart (t ∷ rs) from next i zero r s rise lower atr ats = absurd (omega (arith, lower))
rise_apart (t ∷ rs) from next zero (suc j) r s rise lower atr ats =
    let h = rise_at rs (t.last +ℤ pos 2) next j s rise.3 ats in
    subst (λ (z : Run). (z.last +ℤ pos 1) <ℤ s.first) (same_Some t r atr) (omega (arith, signed_arith, h.0))
rise_apart (t ∷ rs) from next (suc i) (suc j) r s rise lower atr ats =
    rise_apart rs (t.last +ℤ pos 2) next i j r s rise.3 (omega (arith, lower)) atr ats

holds_any : (rs : List Run) (x : ℤ) → Holds x rs → list_any (holds_day x) rs ≡ true
holds_any [] x h = absurd h
holds_any (r ∷ rs) x h = elim h [
  | inl here ↦ rw (true_le r.first x here.0, true_le x r.last here.1) refl
  | inr rest ↦ or_right (holds_day x r) (list_any (holds_day x) rs) (holds_any rs x rest)
]
  where
    or_right : (a b : Bool) → b ≡ true → (a || b) ≡ true
    or_right true b h = refl
    or_right false b h = h

any_holds : (rs : List Run) (x : ℤ) → list_any (holds_day x) rs ≡ true → Holds x rs
any_holds [] x h = absurd (cc)
any_holds (r ∷ rs) x h = elim (or_cases (holds_day x r) (list_any (holds_day x) rs) h) [
  | inl here ↦ let b = both_true (is_le (int_cmp r.first x)) (is_le (int_cmp x r.last)) here in
      inl (le_true r.first x b.0, le_true x r.last b.1)
  | inr rest ↦ inr (any_holds rs x rest)
]

-- runs up to the last day of the cover are the days that pass the test
pub represents : (test : ℤ → Bool) (c : CoveredRuns) (limit k : ℕ) → c.last +ℤ pos 1 ≡ c.first +ℤ pos limit → limit ≤ k
    → Among test c.first limit k c.runs → Represents test c
represents test c limit k end all a = record {
  are = record {
    filled = λ i r at. (rise_at c.runs c.first (c.first +ℤ pos k) i r a.rise at).1;
    from = λ i r at. (rise_at c.runs c.first (c.first +ℤ pos k) i r a.rise at).0;
    to = λ i r at. omega (
      arith,
      signed_arith,
      (rise_at c.runs c.first (c.first +ℤ pos (limit + 1)) i r a.inside at).2,
      end,
    );
    apart = λ i j r s lower atr ats. rise_apart c.runs c.first (c.first +ℤ pos k) i j r s a.rise lower atr ats;
  };
  good = λ d. (
    (λ g. (g.inside, a.sound d (any_holds c.runs d g.passes))),
    (λ p.
        let i = offset c.first d p.0.from in
        let below : i.0 < limit = omega (arith, signed_arith, p.0.to, end, i.1) in
        record {
          inside = p.0;
          passes = holds_any c.runs d
              (subst (λ (z : ℤ). Holds z c.runs) (sym i.1)
              (a.complete i.0 (omega (arith, below, all)) below (subst (λ (z : ℤ). test z ≡ true) i.1 p.1)));
        }),
  );
}

-- where the cover is empty there is no run
pub represents_none : (test : ℤ → Bool) (c : CoveredRuns) → c.last <ℤ c.first → c.runs ≡ [] → Represents test c
represents_none test c empty is = record {
  are = record {
    filled = λ i r at. absurd (none i r at);
    from = λ i r at. absurd (none i r at);
    to = λ i r at. absurd (none i r at);
    apart = λ i j r s lower atr ats. absurd (none i r atr);
  };
  good = λ d. (
    (λ g. absurd (omega (arith, signed_arith, g.inside.from, g.inside.to, empty))),
    (λ p. absurd (omega (arith, signed_arith, p.0.from, p.0.to, empty))),
  );
}
  where
    none : (i : ℕ) (r : Run) → slice_get c.runs i ≡ Some r → ⊥
    none i r at = let h = subst (λ (rs : List Run). slice_get rs i ≡ Some r) is at in cc h
