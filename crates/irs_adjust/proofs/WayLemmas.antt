-- Business days on one side of a day, in the same way on both sides.
use Rattle.std.proofs.Common.{◌≡◌, inl, inr, ℕ, zero, suc, ◌+◌, ◌-◌, ◌<◌, ◌≤◌, arith, refl, sym, ◌∙◌, ap, subst, ℤ}
use Rattle.std.proofs.Common.{pos, ◌+ℤ◌, ◌-ℤ◌, ◌≤ℤ◌, Bool, true, false}
use Rattle.jiff_core.proofs.SignedLemmas.{signed_arith}
use Rattle.std.proofs.lemmas.Bool.{cases_lt}
use Rattle.std.proofs.lemmas.Bool.{cases_Bool}
use borrow.Author.Differences.{up, down}
use Rattle.irs_calendar.specs.GoodDays.{DaySet, InCover, IsGood}
use Rattle.irs_adjust.specs.declared.ways.Way.{Way}
use Rattle.irs_adjust.specs.declared.ways.Way.TheVariants.{Ahead, Back}
use Rattle.irs_adjust.specs.MovedDays.{away, good_days, MovesOn}
use Rattle.irs_adjust.specs.Private.MovedDays.{IsNextOn}

-- the facts on which the sides differ

-- no days away from a day is the day itself
pub away_here : (way : Way) (d : ℤ) → away way d 0 ≡ d
away_here Ahead d = omega (arith, signed_arith)
away_here Back d = omega (arith, signed_arith)

-- steps in one direction add up
pub away_on : (way : Way) (d : ℤ) (a b : ℕ) → away way (away way d a) b ≡ away way d (a + b)
away_on Ahead d a b = omega (arith, signed_arith)
away_on Back d a b = omega (arith, signed_arith)

-- days between two days of the cover lie in it
pub between : (way : Way) (s : DaySet) (d : ℤ) (a b : ℕ) → a ≤ b → InCover s d → InCover s (away way d b)
    → InCover s (away way d a)
between Ahead s d a b h near far =
    record { from = omega (arith, signed_arith, near.from); to = omega (arith, signed_arith, far.to, h) }
between Back s d a b h near far =
    record { from = omega (arith, signed_arith, far.from, h); to = omega (arith, signed_arith, near.to) }

-- y is the first business day after x on that side: none of the days between is one
pub record Gap (way : Way) (s : DaySet) (x y : ℤ) : Type 0 where
  pub starts : InCover s (away way x 1)
  pub span : ℕ
  pub is : y ≡ away way x (suc span)
  pub good : IsGood s y
  pub none : (j : ℕ) → j < span → IsGood s (away way x (suc j)) → ⊥

apart : (a b : ℤ) → a ≤ℤ b → (n : ℕ) × (b ≡ a +ℤ pos n)
apart a b h = (up b + down a - (down b + up a), omega (arith, signed_arith, h))

-- between a day and the nearest business day on that side there is none
pub gap_of : (way : Way) (s : DaySet) (x y : ℤ) → IsNextOn way s x y → Gap way s x y
gap_of Ahead s x y next =
    let n = apart (x +ℤ pos 1) y next.after in
    record {
      starts = next.starts;
      span = n.0;
      is = omega (arith, signed_arith, n.1);
      good = next.good;
      none = λ j h g. next.none_before (x +ℤ pos (suc j)) (omega (arith, signed_arith))
          (omega (arith, signed_arith, n.1, h)) g;
    }
gap_of Back s x y prev =
    let n = apart y (x -ℤ pos 1) prev.before in
    record {
      starts = prev.starts;
      span = n.0;
      is = omega (arith, signed_arith, n.1);
      good = prev.good;
      none = λ j h g. prev.none_after (x -ℤ pos (suc j)) (omega (arith, signed_arith, n.1, h))
          (omega (arith, signed_arith)) g;
    }

-- the first business day after others on that side is the nearest one
pub next_of : (way : Way) (s : DaySet) (x y : ℤ) → Gap way s x y → IsNextOn way s x y
next_of Ahead s x y gap = record {
  starts = gap.starts;
  after = omega (arith, signed_arith, gap.is);
  good = gap.good;
  none_before = λ z low high g.
      let n = apart (x +ℤ pos 1) z low in
      let e : z ≡ x +ℤ pos (suc n.0) = omega (arith, signed_arith, n.1) in
      gap.none n.0 (omega (arith, signed_arith, e, gap.is, high)) (subst (IsGood s) e g);
}
next_of Back s x y gap = record {
  starts = gap.starts;
  before = omega (arith, signed_arith, gap.is);
  good = gap.good;
  none_after = λ z low high g.
      let n = apart z (x -ℤ pos 1) high in
      let e : z ≡ x -ℤ pos (suc n.0) = omega (arith, signed_arith, n.1) in
      gap.none n.0 (omega (arith, signed_arith, e, gap.is, low)) (subst (IsGood s) e g);
}

-- counts of business days

-- the count over two stretches is the sum of theirs
pub good_days-add : (way : Way) (s : DaySet) (d : ℤ) (a b : ℕ)
    → good_days way s d (a + b) ≡ good_days way s d a + good_days way s (away way d a) b
good_days-add way s d a zero = let e : a + 0 ≡ a = omega arith in rw e (omega arith)
good_days-add way s d a (suc b) =
    let e : a + suc b ≡ suc (a + b) = omega arith in
    let same : away way (away way d a) (suc b) ≡ away way d (suc (a + b)) =
    subst (λ (n : ℕ). away way (away way d a) (suc b) ≡ away way d n) e (away_on way d a (suc b)) in
    rw (e, same) (omega (arith, good_days-add way s d a b))

none_counted : (way : Way) (s : DaySet) (d : ℤ) (n : ℕ) → ((j : ℕ) → j < n → s.test (away way d (suc j)) ≡ false)
    → good_days way s d n ≡ 0
none_counted way s d zero none = refl
none_counted way s d (suc n) none =
    let last = none n (omega arith) in
    let before = none_counted way s d n (λ j h. none j (omega arith)) in
    rw last (omega (arith, before))

not_good : (s : DaySet) (x : ℤ) → InCover s x → (IsGood s x → ⊥) → s.test x ≡ false
not_good s x inside bad = elim (cases_Bool (s.test x)) [
  | inl passes ↦ absurd (bad (record { inside = inside; passes = passes }))
  | inr fails ↦ fails
]

-- up to the nearest business day there is one
one_counted : (way : Way) (s : DaySet) (x y : ℤ) (gap : Gap way s x y) → InCover s x
    → good_days way s x (suc gap.span) ≡ 1
one_counted way s x y gap here =
    let far : InCover s (away way x (suc gap.span)) = subst (InCover s) gap.is gap.good.inside in
    let none : (j : ℕ) → j < gap.span → s.test (away way x (suc j)) ≡ false = λ j h.
    not_good s (away way x (suc j)) (between way s x (suc j) (suc gap.span) (omega (arith, h)) here far)
    (gap.none j h) in
    let hit : s.test (away way x (suc gap.span)) ≡ true = subst (λ (z : ℤ). s.test z ≡ true) gap.is gap.good.passes in
    rw hit (omega (arith, none_counted way s x gap.span none))

-- the first place at which a test holds
record FirstPlace (t : ℕ → Bool) (n : ℕ) : Type 0 where
  place : ℕ
  within : place ≤ n
  holds : t place ≡ true
  none : (j : ℕ) → j < place → t j ≡ false

first_place : (t : ℕ → Bool) (n : ℕ) → t n ≡ true → FirstPlace t n
first_place t zero holds =
    record { place = 0; within = omega arith; holds = holds; none = λ j h. absurd (omega (arith, h)) }
first_place t (suc n) holds = elim (cases_Bool (t 0)) [
  | inl at ↦ record { place = 0; within = omega arith; holds = at; none = λ j h. absurd (omega (arith, h)) }
  | inr fails ↦
      let rest = first_place (λ i. t (suc i)) n holds in
      record {
        place = suc rest.place;
        within = omega (arith, rest.within);
        holds = rest.holds;
        none =
            below t rest.place fails rest.none;
      }
]
  where
    below : (t : ℕ → Bool) (k : ℕ) → t 0 ≡ false → ((j : ℕ) → j < k → t (suc j) ≡ false) → (j : ℕ) → j < suc k
        → t j ≡ false
    below t k fails rest zero h = fails
    below t k fails rest (suc j) h = rest j (omega (arith, h))

-- x is d, or lies on that side of it with n business days on the way
pub record Reached (way : Way) (s : DaySet) (d : ℤ) (n : ℕ) (x : ℤ) : Type 0 where
  pub starts : InCover s d
  pub inside : InCover s x
  pub span : ℕ
  pub is : x ≡ away way d span
  pub count : good_days way s d span ≡ n

-- before any step the day itself is reached
pub reached_none : (way : Way) (s : DaySet) (d : ℤ) → InCover s d → Reached way s d 0 d
reached_none way s d starts = record {
  starts = starts;
  inside = starts;
  span = 0;
  is = sym (away_here way d);
  count = refl;
}

-- from the n-th business day the nearest one on that side is the next in number
pub reached_more : (way : Way) (s : DaySet) (d : ℤ) (n : ℕ) (x y : ℤ) → Reached way s d n x → IsNextOn way s x y
    → Reached way s d (suc n) y
reached_more way s d n x y r next =
    let gap = gap_of way s x y next in
    let one = one_counted way s x y gap r.inside in
    let one' = subst (λ (z : ℤ). good_days way s z (suc gap.span) ≡ 1) r.is one in
    let is : y ≡ away way (away way d r.span) (suc gap.span) =
    subst (λ (z : ℤ). y ≡ away way z (suc gap.span)) r.is gap.is in
    record {
      starts = r.starts;
      inside = gap.good.inside;
      span = r.span + suc gap.span;
      is = is ∙ away_on way d r.span (suc gap.span);
      count = omega (arith, good_days-add way s d r.span (suc gap.span), one', r.count);
    }

-- a business day that is reached after n business days is the n-th
pub moved : (way : Way) (s : DaySet) (d : ℤ) (n : ℕ) (x : ℤ) → 0 < n → Reached way s d n x → IsGood s x
    → MovesOn way s d n x
moved way s d n x some r good = from_span r.span refl
  where
    from_span : (k : ℕ) → k ≡ r.span → MovesOn way s d n x
    from_span zero e = absurd (nothing (subst (λ (i : ℕ). good_days way s d i ≡ n) (sym e) r.count))
      where
        nothing : 0 ≡ n → ⊥
        nothing h = omega (arith, some, h)
    from_span (suc k) e = record {
      starts = r.starts;
      good = good;
      span = k;
      is = subst (λ (i : ℕ). x ≡ away way d i) (sym e) r.is;
      count = subst (λ (i : ℕ). good_days way s d i ≡ n) (sym e) r.count;
    }

-- where a business day lies on that side, there is a nearest one
exists_next : (way : Way) (s : DaySet) (x r : ℤ) (n : ℕ) → InCover s x → r ≡ away way x (suc n) → IsGood s r
    → (y : ℤ) × IsNextOn way s x y
exists_next way s x r n here is good =
    let far : InCover s (away way x (suc n)) = subst (InCover s) is good.inside in
    let inside : (j : ℕ) → j ≤ suc n → InCover s (away way x j) = λ j h. between way s x j (suc n) h here far in
    let first = first_place (λ i. s.test (away way x (suc i))) n (subst (λ (z : ℤ). s.test z ≡ true) is good.passes) in
    let k = first.place in
    let gap : Gap way s x (away way x (suc k)) = record {
      starts = inside 1 (omega arith);
      span = k;
      is = refl;
      good = record { inside = inside (suc k) (omega (arith, first.within)); passes = first.holds };
      none = λ j h g. differ (s.test (away way x (suc j))) g.passes (first.none j h);
    } in
    (away way x (suc k), next_of way s x (away way x (suc k)) gap)
  where
    differ : (b : Bool) → b ≡ true → b ≡ false → ⊥
    differ b t f = cc (t, f)

-- where there is no next business day, no more of them can be counted
pub none_moved : (way : Way) (s : DaySet) (d : ℤ) (n more : ℕ) (x : ℤ) → n < more → Reached way s d n x
    → ((y : ℤ) → IsNextOn way s x y → ⊥) → (r : ℤ) → MovesOn way s d more r → ⊥
none_moved way s d n more x fewer reached none r m = elim (cases_lt reached.span (suc m.span)) [
  | inl beyond ↦
      let q : ℕ = m.span - reached.span in
      let e : reached.span + suc q ≡ suc m.span = omega (arith, beyond) in
      let on : away way x (suc q) ≡ away way d (reached.span + suc q) =
      subst (λ (z : ℤ). away way z (suc q) ≡ away way d (reached.span + suc q)) (sym reached.is)
      (away_on way d reached.span (suc q)) in
      let is : r ≡ away way x (suc q) = m.is ∙ ap (away way d) (sym e) ∙ sym on in
      let y = exists_next way s x r q reached.inside is m.good in
      none y.0 y.1
  | inr within ↦
      let b : ℕ = reached.span - suc m.span in
      let e : suc m.span + b ≡ reached.span = omega arith in
      let sum = good_days-add way s d (suc m.span) b in
      let sum' = subst (λ (i : ℕ). good_days way s d i
      ≡ good_days way s d (suc m.span) + good_days way s (away way d (suc m.span)) b) e sum in
      omega (arith, sum', m.count, reached.count)
]

at_least_one : (way : Way) (s : DaySet) (x : ℤ) (m : ℕ) → s.test (away way x (suc m)) ≡ true
    → 1 ≤ good_days way s x (suc m)
at_least_one way s x m hit = rw hit (omega arith)

no_two : (way : Way) (s : DaySet) (d : ℤ) (n p q : ℕ) → p < q → good_days way s d (suc p) ≡ n
    → good_days way s d (suc q) ≡ n → s.test (away way d (suc q)) ≡ true → ⊥
no_two way s d n p q below first second hit =
    let m : ℕ = q - suc p in
    let e : suc p + suc m ≡ suc q = omega (arith, below) in
    let place : away way d (suc q) ≡ away way (away way d (suc p)) (suc m) =
    ap (away way d) (sym e) ∙ sym (away_on way d (suc p) (suc m)) in
    let one = at_least_one way s (away way d (suc p)) m (subst (λ (z : ℤ). s.test z ≡ true) place hit) in
    let sum = subst (λ (i : ℕ). good_days way s d i
    ≡ good_days way s d (suc p) + good_days way s (away way d (suc p)) (suc m)) e
    (good_days-add way s d (suc p) (suc m)) in
    omega (arith, sum, one, first, second)

-- the n-th business day on one side is one day
pub one_moves : (way : Way) (s : DaySet) (d : ℤ) (n : ℕ) (r t : ℤ) → MovesOn way s d n r → MovesOn way s d n t → r ≡ t
one_moves way s d n r t a b = elim (cases_lt a.span b.span) [
  | inl low ↦ absurd (no_two way s d n a.span b.span low a.count b.count
      (subst (λ (z : ℤ). s.test z ≡ true) b.is b.good.passes))
  | inr rest ↦ elim (cases_lt b.span a.span) [
    | inl high ↦
        absurd (no_two way s d n b.span a.span high b.count a.count
        (subst (λ (z : ℤ). s.test z ≡ true) a.is a.good.passes))
    | inr other ↦ let e : a.span ≡ b.span = omega (arith, rest, other) in
        a.is ∙ ap (λ (k : ℕ). away way d (suc k)) e ∙ sym b.is
  ]
]
