-- K33 or K34 is the first rule that adjusted boundaries break, or they break none.
use Rattle.std.proofs.Common.{◌≡◌, ◌⊎◌, inl, inr, ℕ, zero, suc, ◌-◌, ◌<◌, List, [], ◌∷◌, length, Result, Ok, Err, IfOk}
use Rattle.std.proofs.Common.{ℤ, ◌≤ℤ◌, ◌<ℤ◌, false, refl, sym, subst, arith}
use Rattle.jiff_core.proofs.SignedLemmas.{signed_arith}
use Rattle.irs_base.specs.declared.stopped.Stopped.{Stopped}
use Rattle.std.proofs.lemmas.Bool.{cases_lt}
use Rattle.irs_base.specs.Lists.{AreDays, AllAfter, IsRising, day_at}
use Rattle.irs_base.specs.Outcomes.{First}
use Rattle.irs_terms.specs.Faults.{comes_before}
use Rattle.irs_base.specs.Private.Order.{IsDecided}
use Rattle.irs_terms.specs.declared.places.Fault.{Fault}
use Rattle.irs_terms.proofs.FaultOrder.{one_fault}
use Rattle.irs_terms.specs.declared.stream.Stream.{Stream}
use Rattle.irs_adjust.proofs.FoundDays.{InRange, IsFound, decides_adjusts, decides_le}
use Rattle.irs_periods.specs.Boundaries.{AdjustedList, AdjustsAt, BoundaryDays, BreaksAdjusted, DoesNotRise}
use Rattle.irs_periods.specs.Boundaries.{MissesResult, NoResult, NotAfter, code_at, boundary_days_at, last_of}
use Rattle.irs_periods.specs.Boundaries.{no_result_at, not_after_at}
use Rattle.irs_periods.specs.Private.Spans.{FirstNoResult, FirstNotAfter}
use Rattle.irs_periods.proofs.AdjustedBoundaries.{day_of_days, days_range, adjusted_there}
use Rattle.irs_periods.proofs.AdjustedLemmas.{one_adjusted, rising_of}
use Rattle.irs_periods.proofs.FirstAmong.{Among, first_among}

-- at most one rule of the adjusted boundaries is the first that is broken
pub one_adjusted_rule : (s : Stream) (sets : BoundaryDays) (b : List ℤ) (f g : Fault)
    → First comes_before (BreaksAdjusted s sets b) f → First comes_before (BreaksAdjusted s sets b) g → f ≡ g
one_adjusted_rule s sets b f g p q = one_fault (BreaksAdjusted s sets b) f g p q

module _ (s : Stream) (sets : BoundaryDays) (b : List ℤ) where
  -- where K33 isn't broken each boundary has its adjusted day
  pub none_misses : ((f : Fault) → MissesResult s sets b f → ⊥) → (i : ℕ) → NoResult s sets b i → ⊥
  none_misses kept i misses = kept (no_result_at s (last_of b) i) (record { number = i; misses = misses; is = refl })

  -- where each has one K33 isn't broken
  pub results_unbroken : (a : List ℤ) → AdjustedList s sets b a → (f : Fault) → MissesResult s sets b f → ⊥
  results_unbroken a adjusted f h = h.misses.none (day_at a h.number) (adjusted.each h.number h.misses.within)

  -- where neither K33 nor K34 is broken the adjusted days rise
  pub adjusted_rises : ((f : Fault) → BreaksAdjusted s sets b f → ⊥) → (a : List ℤ) → AdjustedList s sets b a
      → IsRising a
  adjusted_rises kept a adjusted =
      rising_of a (λ i flat.
      kept (not_after_at i) (inr (record { list = a; adjusted = adjusted; number = i; flat = flat; is = refl })))

  -- where the adjusted days rise neither is broken
  pub adjusted_unbroken : (a : List ℤ) → AdjustedList s sets b a → ((i : ℕ) → NotAfter a i → ⊥) → (f : Fault)
      → BreaksAdjusted s sets b f → ⊥
  adjusted_unbroken a adjusted rises f (inl h) = results_unbroken a adjusted f h
  adjusted_unbroken a adjusted rises f (inr h) =
      rises h.number (subst (λ (xs : List ℤ). NotAfter xs h.number)
      (one_adjusted s sets b h.list a h.adjusted adjusted) h.flat)

  -- the first K33 comes before every K34
  first_of_results : (f : Fault) → First comes_before (MissesResult s sets b) f
      → First comes_before (BreaksAdjusted s sets b) f
  first_of_results f first = (inl first.0, none_before)
    where
      later : (g : Fault) → DoesNotRise s sets b g → comes_before g f ≡ false
      later g h = subst (λ (x : Fault). comes_before g x ≡ false) (sym first.0.is)
          (subst (λ (x : Fault). comes_before x (no_result_at s (last_of b) first.0.number) ≡ false) (sym h.is) refl)

      none_before : (g : Fault) → BreaksAdjusted s sets b g → comes_before g f ≡ false
      none_before g (inl h) = first.1 g h
      none_before g (inr h) = later g h

  -- the boundary that is named first
  pub first_no_result : (i : ℕ) → FirstNoResult s sets b i
      → First comes_before (BreaksAdjusted s sets b) (no_result_at s (last_of b) i)
  first_no_result i first =
      first_of_results (no_result_at s (last_of b) i) (record { number = i; misses = first.0; is = refl }, none_before)
    where
      none_before : (g : Fault) → MissesResult s sets b g → comes_before g (no_result_at s (last_of b) i) ≡ false
      none_before g h =
          subst (λ (x : Fault). comes_before x (no_result_at s (last_of b) i) ≡ false) (sym h.is)
          (first.1 h.number h.misses)

  -- the first adjusted day that isn't after the one before it
  pub first_not_after : (a : List ℤ) → AdjustedList s sets b a → (i : ℕ) → FirstNotAfter a i
      → First comes_before (BreaksAdjusted s sets b) (not_after_at i)
  first_not_after a adjusted i first =
      (inr (record { list = a; adjusted = adjusted; number = i; flat = first.0; is = refl }), none_before)
    where
      none_before : (g : Fault) → BreaksAdjusted s sets b g → comes_before g (not_after_at i) ≡ false
      none_before g (inl h) = absurd (results_unbroken a adjusted g h)
      none_before g (inr h) =
          let flat : NotAfter a h.number =
          subst (λ (xs : List ℤ). NotAfter xs h.number)
          (one_adjusted s sets b h.list a h.adjusted adjusted) h.flat in
          subst (λ (x : Fault). comes_before x (not_after_at i) ≡ false) (sym h.is) (first.1 h.number flat)

-- a day is after the one before it, or it isn't
decides_not_after : (a : List ℤ) (i : ℕ) → i < length a → IsDecided (NotAfter a i)
decides_not_after a i within = elim (cases_lt 0 i) [
  | inr zeroth ↦ inr (λ h. let some = h.some in omega (arith, some, zeroth))
  | inl some ↦ elim (decides_le (day_at a i) (day_at a (i - 1))) [
    | inl flat ↦ inl (record { some = some; within = within; flat = flat })
    | inr after ↦ inr (λ h. after h.flat)
  ]
]

module _ (s : Stream) (sets : BoundaryDays) (b : List ℤ) (days : AreDays b) (start : InRange sets.start)
    (last : InRange sets.end) (middle : InRange sets.middle) where
  result_or_none : (i : ℕ) → i < length b → IsFound (AdjustsAt s sets (last_of b) i (day_at b i))
      → IsDecided (NoResult s sets b i)
  result_or_none i within (inl found) = inr (λ h. h.none found.0 found.1)
  result_or_none i within (inr none) = inl (record { within = within; none = none })

  decides_no_result : (i : ℕ) → i < length b → IsDecided (NoResult s sets b i)
  decides_no_result i within = result_or_none i within
      (decides_adjusts (code_at s (last_of b) i) (boundary_days_at sets (last_of b) i) (day_at b i) (day_of_days b i days within)
      (days_range s sets b days start last middle (last_of b) i))

  -- the fault of a boundary that has no adjusted day
  abbrev AmongResults : Fault → Type 0
  AmongResults = Among (no_result_at s (last_of b)) (NoResult s sets b) (length b)

  results_decided : ((f : Fault) × First comes_before (MissesResult s sets b) f)
      ⊎ ((f : Fault) → MissesResult s sets b f → ⊥)
  results_decided = elim (first_among (no_result_at s (last_of b)) (NoResult s sets b) (length b) decides_no_result) [
    | inl found ↦ inl (found.0, (from_among found.0 found.1.0, λ g h. found.1.1 g (to_among g h)))
    | inr none ↦ inr (λ f h. none f (to_among f h))
  ]
    where
      from_among : (f : Fault) → AmongResults f → MissesResult s sets b f
      from_among f h = record { number = h.number; misses = h.holds; is = h.is }

      to_among : (f : Fault) → MissesResult s sets b f → AmongResults f
      to_among f h = record { number = h.number; within = h.misses.within; holds = h.misses; is = h.is }

  by_list : (a : List ℤ) → AdjustedList s sets b a
      → ((f : Fault) × First comes_before (BreaksAdjusted s sets b) f) ⊎ ((f : Fault) → BreaksAdjusted s sets b f → ⊥)
  by_list a adjusted = elim (first_among not_after_at (NotAfter a) (length a) (decides_not_after a)) [
    | inl found ↦ inl (found.0, (inr (from_among found.0 found.1.0), none_before found.0 found.1))
    | inr none ↦
        inr (adjusted_unbroken s sets b a adjusted
        (λ i flat. none (not_after_at i) (record { number = i; within = flat.within; holds = flat; is = refl })))
  ]
    where
      from_among : (f : Fault) → Among not_after_at (NotAfter a) (length a) f → DoesNotRise s sets b f
      from_among f h = record { list = a; adjusted = adjusted; number = h.number; flat = h.holds; is = h.is }

      to_among : (f : Fault) → DoesNotRise s sets b f → Among not_after_at (NotAfter a) (length a) f
      to_among f h =
          let flat : NotAfter a h.number =
          subst (λ (xs : List ℤ). NotAfter xs h.number)
          (one_adjusted s sets b h.list a h.adjusted adjusted) h.flat in
          record { number = h.number; within = flat.within; holds = flat; is = h.is }

      none_before : (f : Fault) → First comes_before (Among not_after_at (NotAfter a) (length a)) f → (g : Fault)
          → BreaksAdjusted s sets b g → comes_before g f ≡ false
      none_before f first g (inl h) = absurd (results_unbroken s sets b a adjusted g h)
      none_before f first g (inr h) = first.1 g (to_among g h)

  -- a rule of the adjusted boundaries is the first that is broken, or none is broken
  pub adjusted_decided : ((f : Fault) × First comes_before (BreaksAdjusted s sets b) f)
      ⊎ ((f : Fault) → BreaksAdjusted s sets b f → ⊥)
  adjusted_decided = elim results_decided [
    | inl found ↦ inl (found.0, first_of_results s sets b found.0 found.1)
    | inr none ↦ let list = adjusted_there s sets b days start last middle (none_misses s sets b none) in
        by_list list.0 list.1
  ]

  -- where neither K33 nor K34 is broken there is a list of adjusted boundaries that rises
  pub rising_there : ((f : Fault) → BreaksAdjusted s sets b f → ⊥) → (a : List ℤ) × AdjustedList s sets b a × IsRising a
  rising_there kept =
      let list = adjusted_there s sets b days start last middle (none_misses s sets b (λ f h. kept f (inl h))) in
      (list.0, list.1, adjusted_rises s sets b kept list.0 list.1)

-- days that rise have none that isn't after the one before it
rising_after : (x : ℤ) (xs : List ℤ) (i : ℕ) → AllAfter x xs → i < length xs → x <ℤ day_at xs i
rising_after x [] i after within = absurd (omega (arith, within))
rising_after x (y ∷ ys) zero after within = after.0
rising_after x (y ∷ ys) (suc i) after within = rising_after x ys i after.1 (omega (arith, within))

step_up : (xs : List ℤ) (i : ℕ) → IsRising xs → suc i < length xs → day_at xs i <ℤ day_at xs (suc i)
step_up [] i rising within = absurd (omega (arith, within))
step_up (x ∷ xs) zero rising within = rising_after x xs zero rising.0 (omega (arith, within))
step_up (x ∷ xs) (suc i) rising within = step_up xs i rising.1 (omega (arith, within))

-- days that rise have none that isn't after the one before it
pub none_flat : (xs : List ℤ) → IsRising xs → (i : ℕ) → NotAfter xs i → ⊥
none_flat xs rising zero h = let some = h.some in omega (arith, some)
none_flat xs rising (suc i) h =
    let place : suc i - 1 ≡ i = omega arith in
    let flat : day_at xs (suc i) ≤ℤ day_at xs i = subst (λ (n : ℕ). day_at xs (suc i) ≤ℤ day_at xs n) place h.flat in
    let up = step_up xs i rising h.within in
    omega (arith, signed_arith, flat, up)

-- an answer of adjusted days that rise breaks no rule
pub answer_unbroken : (s : Stream) (sets : BoundaryDays) (b : List ℤ) (r : Result (List ℤ) (Stopped Fault))
    → IfOk r (AdjustedList s sets b) → IfOk r IsRising → IfOk r (λ _. (f : Fault) → BreaksAdjusted s sets b f → ⊥)
answer_unbroken s sets b (Ok a) adjusted rising = adjusted_unbroken s sets b a adjusted (none_flat a rising)
answer_unbroken s sets b (Err e) adjusted rising = tt
