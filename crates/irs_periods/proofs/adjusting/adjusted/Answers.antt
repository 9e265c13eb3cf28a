use Rattle.std.proofs.Common.{◌≡◌, ◌-◌, ◌∙◌, List, length, ℕ, ℤ, arith, ap, sym, subst}
use Rattle.irs_base.specs.Lists.{IsRising}
use Rattle.irs_base.specs.Outcomes.{First}
use Rattle.irs_terms.specs.Faults.{comes_before}
use Rattle.irs_terms.specs.declared.places.Fault.{Fault}
use Rattle.irs_periods.specs.Boundaries.{AdjustedList, BreaksAdjusted, MissesResult, boundary_days_by, last_of}
use Rattle.irs_periods.specs.Boundaries.{no_result_at}
use Rattle.irs_periods.specs.Private.Spans.{FirstNoResult, FirstNotAfter}
use Rattle.irs_periods.proofs.AdjustedDecided.{adjusted_unbroken, first_no_result, first_not_after, none_flat, results_unbroken}
use Rattle.irs_periods.proofs.AdjustedLemmas.{adjusted_exists, two_boundaries, few_days, rising_of}
use Rattle.irs_periods.proofs.TermOrder.{begins_before_end}
use Rattle.irs_periods.proofs.adjusting.adjusted.Goals as goal

pub first_without-requires : goal.first_without-requires
first_without-requires g c =
    let two = two_boundaries c.args.s.now c.requires.listed.0 c.args.unadjusted.now
    (begins_before_end c.args.s.now c.requires.dates) c.requires.listed.1 in
    omega (arith, two, ap length c.as_slice-days.ensures.value)

pub adjust_each-requires : goal.adjust_each-requires
adjust_each-requires g c =
    let two = two_boundaries c.args.s.now c.requires.listed.0 c.args.unadjusted.now
    (begins_before_end c.args.s.now c.requires.dates) c.requires.listed.1 in
    omega (arith, two, ap length c.as_slice-days.ensures.value)

pub no_result-requires : goal.no_result-requires
no_result-requires g c =
    let few = few_days c.args.unadjusted.now c.requires.listed.1.rising c.as_slice-days.ensures.days in
    omega (arith, few, ap length c.as_slice-days.ensures.value, c.in-Some-first_without.ensures.some.0.within)

pub not_after-requires : goal.not_after-requires
not_after-requires g c =
    let few = few_days c.args.unadjusted.now c.requires.listed.1.rising c.as_slice-days.ensures.days in
    omega (
      arith,
      few,
      ap length c.as_slice-days.ensures.value,
      ap length c.as_slice.ensures.value,
      c.in-Some.ensures.same_length,
      c.in-Some-first_not_after.ensures.some.0.within,
    )

pub returns-in-Some-first_without-clause-meets : goal.returns-in-Some-first_without-clause-meets
returns-in-Some-first_without-clause-meets g c =
    let s = c.args.s.now in
    let b = c.args.unadjusted.now in
    let days = g.G.GoodDays.days in
    let sets = boundary_days_by days c.args.start.now c.args.end.now c.args.middle.now in
    let i = c.in-Some-first_without.number in
    let first : FirstNoResult s sets b i =
    subst (λ (xs : List ℤ). FirstNoResult s sets xs i) c.as_slice-days.ensures.value c.in-Some-first_without.ensures.some in
    let last : length c.as_slice-days.result.now - 1 ≡ last_of b =
    ap (λ (xs : List ℤ). last_of xs) c.as_slice-days.ensures.value in
    let is : c.no_result.result ≡ no_result_at s (last_of b) i =
    c.no_result.ensures ∙ ap (λ (n : ℕ). no_result_at s n i) last in
    subst (First comes_before (BreaksAdjusted s sets b)) (sym is) (first_no_result s sets b i first)

pub returns-in-None-clause-memory : goal.returns-in-None-clause-memory
returns-in-None-clause-memory g c =
    let s = c.args.s.now in
    let b = c.args.unadjusted.now in
    let days = g.G.GoodDays.days in
    let sets = boundary_days_by days c.args.start.now c.args.end.now c.args.middle.now in
    let list = adjusted_exists s sets c.as_slice-days.result.now c.in-None.ensures.none in
    let unbroken =
    subst (λ (xs : List ℤ). (f : Fault) → MissesResult s sets xs f
    → ⊥) c.as_slice-days.ensures.value (results_unbroken s sets c.as_slice-days.result.now list.0 list.1) in
    unbroken

pub returns-in-Some-first_not_after-clause-meets : goal.returns-in-Some-first_not_after-clause-meets
returns-in-Some-first_not_after-clause-meets g c =
    let s = c.args.s.now in
    let b = c.args.unadjusted.now in
    let days = g.G.GoodDays.days in
    let sets = boundary_days_by days c.args.start.now c.args.end.now c.args.middle.now in
    let list = c.in-Some.list in
    let i = c.in-Some-first_not_after.number in
    let first : FirstNotAfter list i =
    subst (λ (xs : List ℤ). FirstNotAfter xs i) c.as_slice.ensures.value c.in-Some-first_not_after.ensures.some in
    let adjusted : AdjustedList s sets b list =
    subst (λ (xs : List ℤ). AdjustedList s sets xs list) c.as_slice-days.ensures.value c.in-Some.ensures in
    subst (First comes_before (BreaksAdjusted s sets b)) (sym c.not_after.ensures)
    (first_not_after s sets b list adjusted i first)

pub returns-in-None-first_not_after-clause-meets : goal.returns-in-None-first_not_after-clause-meets
returns-in-None-first_not_after-clause-meets g c =
    let s = c.args.s.now in
    let b = c.args.unadjusted.now in
    let days = g.G.GoodDays.days in
    let sets = boundary_days_by days c.args.start.now c.args.end.now c.args.middle.now in
    let list = c.in-Some.list in
    let adjusted : AdjustedList s sets b list =
    subst (λ (xs : List ℤ). AdjustedList s sets xs list) c.as_slice-days.ensures.value c.in-Some.ensures in
    let rising : IsRising list = rising_of list (rw c.as_slice.ensures.value at c.in-None-first_not_after.ensures.none) in
    (adjusted_unbroken s sets b list adjusted (none_flat list rising), record { adjusted = adjusted; rising = rising })
