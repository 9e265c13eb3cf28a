-- Business days and the runs that hold them.
use Rattle.std.proofs.Common.{◌≡◌, ◌⊎◌, inl, inr, ℕ, zero, suc, ◌+◌, ◌*◌, ◌^◌, ◌<◌, Bool, true, false, ◌||◌, List, []}
use Rattle.std.proofs.Common.{◌∷◌, length, slice_get, Some, arith, refl, sym, ◌∙◌, ap, subst, ℤ, pos, ◌+ℤ◌, ◌≤ℤ◌, ◌<ℤ◌}
use Rattle.std.proofs.lemmas.Bool.{or_cases}
use Rattle.std.specs.List.{list_any}
use Rattle.std.specs.Ordering.{int_cmp, is_le, is_lt}
use Rattle.std.proofs.lemmas.Option.{slice_get_within, same_Some}
use Rattle.jiff_core.proofs.SignedLemmas.{signed_arith}
use Rattle.irs_base.specs.Days.{IsDay}
use Rattle.irs_base.proofs.Orders.{le_true, le_false, true_le, lt_true, lt_false, true_lt, both_true}
use Rattle.irs_calendar.specs.declared.runs.Run.{Run}
use Rattle.irs_calendar.specs.declared.search.End.TheVariants.{First, Last}
use Rattle.irs_calendar.specs.GoodDays.{DaySet, InCover, IsGood, Next, Prev, CoveredRuns, AreRuns, holds_day}
use Rattle.irs_calendar.specs.GoodDays.{set_of_runs}
use Rattle.irs_calendar.specs.Private.Closed.{begins_or_ends_before, IsDownward, Splits}

-- what passes a test somewhere in a list has a place in it
pub any_place : {A : Type 0} (p : A → Bool) (xs : List A) → list_any p xs ≡ true
    → (i : ℕ) × (x : A) × (slice_get xs i ≡ Some x) × (p x ≡ true)
any_place p [] h = absurd (cc)
any_place p (x ∷ xs) h = elim (or_cases (p x) (list_any p xs) h) [
  | inl first ↦ (0, x, refl, first)
  | inr later ↦ let r = any_place p xs later in (suc r.0, r.1, r.2, r.3)
]

-- a list with an element that passes a test has one
pub place_any : {A : Type 0} (p : A → Bool) (xs : List A) (i : ℕ) (x : A) → slice_get xs i ≡ Some x → p x ≡ true
    → list_any p xs ≡ true
place_any p [] i x at passes = absurd (cc)
place_any p (y ∷ ys) zero x at passes =
    or_left (p y) (list_any p ys) (subst (λ z. p z ≡ true) (sym (same_Some y x at)) passes)
  where
    or_left : (a b : Bool) → a ≡ true → (a || b) ≡ true
    or_left true b h = refl
    or_left false b h = absurd (cc)
place_any p (y ∷ ys) (suc i) x at passes = or_right (p y) (list_any p ys) (place_any p ys i x at passes)
  where
    or_right : (a b : Bool) → b ≡ true → (a || b) ≡ true
    or_right true b h = refl
    or_right false b h = h

-- where a business day lies
pub record Held (c : CoveredRuns) (d : ℤ) : Type 0 where
  pub index : ℕ
  pub run : Run
  pub at : slice_get c.runs index ≡ Some run
  pub from : run.first ≤ℤ d
  pub to : d ≤ℤ run.last

-- a run holds each business day
pub held : (c : CoveredRuns) (d : ℤ) → IsGood (set_of_runs c) d → Held c d
held c d good =
    let p = any_place (holds_day d) c.runs good.passes in
    let ends = both_true (is_le (int_cmp p.1.first d)) (is_le (int_cmp d p.1.last)) p.3 in
    record { index = p.0; run = p.1; at = p.2; from = le_true p.1.first d ends.0; to = le_true d p.1.last ends.1 }

-- each day of a run is a business day
pub good_held : (c : CoveredRuns) (d : ℤ) (i : ℕ) (r : Run) → AreRuns c → slice_get c.runs i ≡ Some r → r.first ≤ℤ d
    → d ≤ℤ r.last → IsGood (set_of_runs c) d
good_held c d i r are at from to =
    let low = are.from i r at in
    let high = are.to i r at in
    record {
      inside = record { from = omega (arith, signed_arith, low, from); to = omega (arith, signed_arith, high, to) };
      passes = place_any (holds_day d) c.runs i r at (rw (true_le r.first d from, true_le d r.last to) refl);
    }

-- what ends before a day comes first, and likewise what begins by it
pub ends_downward : (c : CoveredRuns) (d : ℤ) → AreRuns c → IsDownward (begins_or_ends_before Last d) c.runs
ends_downward c d are i j r s lower atr ats passes =
    let gap = are.apart i j r s lower atr ats in
    let full = are.filled j s ats in
    true_lt r.last d (omega (arith, signed_arith, gap, full, lt_true s.last d passes))

-- once a run begins after a day, so do all later ones
pub begins_downward : (c : CoveredRuns) (d : ℤ) → AreRuns c → IsDownward (begins_or_ends_before First d) c.runs
begins_downward c d are i j r s lower atr ats passes =
    let gap = are.apart i j r s lower atr ats in
    let full = are.filled i r atr in
    true_le r.first d (omega (arith, signed_arith, gap, full, le_true s.first d passes))

-- where the run at the place of the cut can lie, against any other
place_cases : (i k : ℕ) → (i < k) ⊎ ((i ≡ k) ⊎ (k < i))
place_cases i k = grind arith

same_run : (c : CoveredRuns) (i k : ℕ) (r s : Run) → i ≡ k → slice_get c.runs k ≡ Some r
    → slice_get c.runs i ≡ Some s → r ≡ s
same_run c i k r s e atr ats = same_Some r s (sym atr ∙ subst (λ n. slice_get c.runs n ≡ Some s) e ats)

-- no business day lies between d and the first run that doesn't end before it
none_to_run : (c : CoveredRuns) (d : ℤ) (k : ℕ) (r : Run) → AreRuns c → Splits (begins_or_ends_before Last d) c.runs k
    → slice_get c.runs k ≡ Some r → (x : ℤ) → d ≤ℤ x → x <ℤ r.first → IsGood (set_of_runs c) x → ⊥
none_to_run c d k r are cut at x low high good =
    let h = held c x good in
    elim (place_cases h.index k) [
      | inl front ↦ omega (arith, signed_arith, lt_true h.run.last d (cut.below h.index h.run front h.at), h.to, low)
      | inr rest ↦ elim rest [
        | inl here ↦
            let same = ap (λ (z : Run). z.first) (same_run c h.index k r h.run here at h.at) in
            omega (arith, signed_arith, same, h.from, high)
        | inr back ↦
            omega (arith, signed_arith, are.apart k h.index r h.run back at h.at, are.filled k r at, h.from, high)
      ]
    ]

-- where the first run that ends at or after a day begins after it, its first day is next
pub next_run : (c : CoveredRuns) (d : ℤ) (k : ℕ) (r : Run) → AreRuns c → InCover (set_of_runs c) d
    → Splits (begins_or_ends_before Last d) c.runs k → slice_get c.runs k ≡ Some r → d <ℤ r.first
    → Next (set_of_runs c) d r.first
next_run c d k r are inside cut at before = record {
  starts = inside;
  after = omega (arith, signed_arith, before);
  good = good_held c r.first k r are at (omega (arith, signed_arith)) (are.filled k r at);
  none_before = none_to_run c d k r are cut at;
}

-- where that run has begun, the day is its own next one
pub next_here : (c : CoveredRuns) (d : ℤ) (k : ℕ) (r : Run) → AreRuns c → InCover (set_of_runs c) d
    → Splits (begins_or_ends_before Last d) c.runs k → slice_get c.runs k ≡ Some r → r.first ≤ℤ d → Next (set_of_runs c) d d
next_here c d k r are inside cut at from = record {
  starts = inside;
  after = omega (arith, signed_arith);
  good = good_held c d k r are at from (lt_false r.last d (cut.above k r (omega arith) at));
  none_before = λ x low high g. omega (arith, signed_arith, low, high);
}

-- where no run ends at or after a day, there is no next one
pub none_next : (c : CoveredRuns) (d : ℤ) (k : ℕ) → Splits (begins_or_ends_before Last d) c.runs k → k ≡ length c.runs → (x : ℤ)
    → Next (set_of_runs c) d x → ⊥
none_next c d k cut all x next =
    let h = held c x next.good in
    let front : h.index < k = omega (arith, all, slice_get_within c.runs h.index h.run h.at) in
    omega (arith, signed_arith, lt_true h.run.last d (cut.below h.index h.run front h.at), h.to, next.after)

-- no business day lies between d and the last run that begins by it
none_from_run : (c : CoveredRuns) (d : ℤ) (k : ℕ) (r : Run) → AreRuns c → Splits (begins_or_ends_before First d) c.runs (k + 1)
    → slice_get c.runs k ≡ Some r → (x : ℤ) → r.last <ℤ x → x ≤ℤ d → IsGood (set_of_runs c) x → ⊥
none_from_run c d k r are cut at x low high good =
    let h = held c x good in
    elim (place_cases h.index k) [
      | inl front ↦ omega (arith, signed_arith, are.apart h.index k h.run r front h.at at, are.filled k r at, h.to, low)
      | inr rest ↦ elim rest [
        | inl here ↦
            let same = ap (λ (z : Run). z.last) (same_run c h.index k r h.run here at h.at) in
            omega (arith, signed_arith, same, h.to, low)
        | inr back ↦
            omega (
              arith,
              signed_arith,
              le_false h.run.first d (cut.above h.index h.run (omega (arith, back)) h.at),
              h.from,
              high,
            )
      ]
    ]

-- where the last run that begins by a day ends before it, its last day is the previous one
pub prev_run : (c : CoveredRuns) (d : ℤ) (k : ℕ) (r : Run) → AreRuns c → InCover (set_of_runs c) d
    → Splits (begins_or_ends_before First d) c.runs (k + 1) → slice_get c.runs k ≡ Some r → r.last <ℤ d
    → Prev (set_of_runs c) d r.last
prev_run c d k r are inside cut at before = record {
  starts = inside;
  before = omega (arith, signed_arith, before);
  good = good_held c r.last k r are at (are.filled k r at) (omega (arith, signed_arith));
  none_after = none_from_run c d k r are cut at;
}

-- where that run goes on, the day is its own previous one
pub prev_here : (c : CoveredRuns) (d : ℤ) (k : ℕ) (r : Run) → AreRuns c → InCover (set_of_runs c) d
    → Splits (begins_or_ends_before First d) c.runs (k + 1) → slice_get c.runs k ≡ Some r → d ≤ℤ r.last
    → Prev (set_of_runs c) d d
prev_here c d k r are inside cut at to = record {
  starts = inside;
  before = omega (arith, signed_arith);
  good = good_held c d k r are at (le_true r.first d (cut.below k r (omega arith) at)) to;
  none_after = λ x low high g. omega (arith, signed_arith, low, high);
}

-- where no run begins by a day, there is no previous one
pub none_prev : (c : CoveredRuns) (d : ℤ) → Splits (begins_or_ends_before First d) c.runs 0 → (x : ℤ)
    → Prev (set_of_runs c) d x → ⊥
none_prev c d cut x prev =
    let h = held c x prev.good in
    omega (
      arith,
      signed_arith,
      le_false h.run.first d (cut.above h.index h.run (omega arith) h.at),
      h.from,
      prev.before,
    )

-- one run over the whole range
pub one_run : (c : CoveredRuns) (r : Run) → c.runs ≡ r ∷ [] → r.first ≡ c.first → r.last ≡ c.last → c.first ≤ℤ c.last
    → AreRuns c
one_run c r is from to order = record {
  filled = λ i s at. let e = only i s (subst (λ (rs : List Run). slice_get rs i ≡ Some s) is at) in
      subst (λ (z : Run). z.first ≤ℤ z.last) e.1 (omega (arith, signed_arith, from, to, order));
  from = λ i s at. let e = only i s (subst (λ (rs : List Run). slice_get rs i ≡ Some s) is at) in
      subst (λ (z : Run). c.first ≤ℤ z.first) e.1 (omega (arith, signed_arith, from));
  to = λ i s at. let e = only i s (subst (λ (rs : List Run). slice_get rs i ≡ Some s) is at) in
      subst (λ (z : Run). z.last ≤ℤ c.last) e.1 (omega (arith, signed_arith, to));
  apart = λ i j s t lower ats att.
      let e = only j t (subst (λ (rs : List Run). slice_get rs j ≡ Some t) is att) in
      absurd (omega (arith, e.0, lower));
}
  where
    only : (i : ℕ) (s : Run) → slice_get (r ∷ []) i ≡ Some s → (i ≡ 0) × (r ≡ s)
    only zero s at = (refl, same_Some r s at)
    only (suc i) s at = absurd (cc)

-- each run takes a day and a gap, so there are few
pub begins_late : (c : CoveredRuns) → AreRuns c → (i : ℕ) (r : Run) → slice_get c.runs i ≡ Some r
    → (c.first +ℤ pos (2 * i)) ≤ℤ r.first
begins_late c are zero r at = omega (arith, signed_arith, are.from 0 r at)
begins_late c are (suc i) r at =
    let s = before_it c.runs i r at in
    omega (
      arith,
      signed_arith,
      begins_late c are i s.0 s.1,
      are.filled i s.0 s.1,
      are.apart i (suc i) s.0 r (omega arith) s.1 at,
    )
  where
    before_it : (rs : List Run) (i : ℕ) (r : Run) → slice_get rs (suc i) ≡ Some r
        → (s : Run) × (slice_get rs i ≡ Some s)
    before_it [] i r at = absurd (cc)
    before_it (x ∷ xs) zero r at = (x, refl)
    before_it (x ∷ xs) (suc i) r at = before_it xs i r at

-- a set has fewer than 2^32 runs
pub few_runs : (c : CoveredRuns) (n : ℕ) → AreRuns c → IsDay c.first → IsDay c.last → n ≡ length c.runs → n < 2 ^ 32
few_runs c zero are low high all = omega arith
few_runs c (suc n) are low high all =
    let r = in_place c.runs n (omega (arith, all)) in
    omega (arith, signed_arith, low, high, begins_late c are n r.0 r.1, are.filled n r.0 r.1, are.to n r.0 r.1)
  where
    in_place : (rs : List Run) (i : ℕ) → i < length rs → (r : Run) × (slice_get rs i ≡ Some r)
    in_place [] i h = absurd (omega (arith, h))
    in_place (x ∷ xs) zero h = (x, refl)
    in_place (x ∷ xs) (suc i) h = in_place xs i (omega (arith, h))

-- the day lies in the cover
pub in_cover : (c : CoveredRuns) (d : ℤ) → false ≡ is_lt (int_cmp d c.first) → false ≡ is_lt (int_cmp c.last d)
    → InCover (set_of_runs c) d
in_cover c d low high = record { from = lt_false d c.first (sym low); to = lt_false c.last d (sym high) }

-- a business day is the next one from itself on
pub next_of_good : (c : CoveredRuns) (d r : ℤ) → Next (set_of_runs c) d r → IsGood (set_of_runs c) d → r ≡ d
next_of_good c d r next good = elim (cases_ltz d r) [
  | inl later ↦ absurd (next.none_before d (omega (arith, signed_arith)) later good)
  | inr now ↦ omega (arith, signed_arith, now, next.after)
]
  where
    cases_ltz : (a b : ℤ) → (a <ℤ b) ⊎ (b ≤ℤ a)
    cases_ltz a b = grind (arith, signed_arith)

-- a business day is its own next one
pub next_is_self : (s : DaySet) (d : ℤ) → IsGood s d → Next s d d
next_is_self s d good = record {
  starts = good.inside;
  after = omega (arith, signed_arith);
  good = good;
  none_before = λ x low high g. omega (arith, signed_arith, low, high);
}
