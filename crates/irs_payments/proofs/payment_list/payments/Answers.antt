use Rattle.std.proofs.Common.{List, ℤ, length, arith, sym, subst, ap}
use Rattle.irs_base.specs.Lists.{RunsFromTo}
use Rattle.irs_base.specs.Outcomes.{Meets}
use Rattle.irs_terms.specs.declared.places.Fault.{Fault}
use Rattle.irs_base.proofs.Outcomes.{if_memory}
use Rattle.irs_terms.specs.TermDates.{first_day_of}
use Rattle.irs_payments.specs.Private.Dating.{AreCuts, paid_at}
use Rattle.irs_payments.specs.Payments.{BreaksGrouping}
use Rattle.irs_payments.proofs.CutLemmas.{two_boundaries}
use Rattle.irs_payments.proofs.Outcomes.{paid_meets}
use Rattle.irs_payments.proofs.PaymentLemmas.{cuts_places, few_places, some_cuts}
use Rattle.irs_payments.proofs.PlaceLemmas.{few_days}
use Rattle.irs_payments.proofs.payment_list.payments.Goals as goal

pub check_grouping-requires-clause-some : goal.check_grouping-requires-clause-some
check_grouping-requires-clause-some g c =
    let s = c.args.s.now in
    let value = c.as_slice-boundaries.ensures.value in
    rw value (two_boundaries (first_day_of s) s.termination.day c.args.unadjusted.now c.requires.term
    c.requires.boundaries)

pub payment_places-requires-clause-some : goal.payment_places-requires-clause-some
payment_places-requires-clause-some g c =
    let s = c.args.s.now in
    let value = c.as_slice-boundaries.ensures.value in
    rw value (two_boundaries (first_day_of s) s.termination.day c.args.unadjusted.now c.requires.term
    c.requires.boundaries)

pub returns-in_err-places-clause-memory : goal.returns-in_err-places-clause-memory
returns-in_err-places-clause-memory g c =
    let none = subst (λ (b : List ℤ). (f : Fault) → BreaksGrouping c.args.s.now b f → ⊥)
    c.as_slice-boundaries.ensures.value c.in_default.ensures in
    if_memory _ c.from_residual.result none

pub payments_at-requires-clause-places : goal.payments_at-requires-clause-places
payments_at-requires-clause-places g c =
    let s = c.args.s.now in
    let b = c.as_slice-boundaries.result.now in
    let run : RunsFromTo (first_day_of s) s.termination.day b =
    subst (RunsFromTo (first_day_of s) s.termination.day) (sym c.as_slice-boundaries.ensures.value)
    c.requires.boundaries in
    let are : AreCuts s b (length b) c.deref.result.now =
    subst (AreCuts s b (length b)) (sym c.deref.ensures.value) (c.in_ok-places.ensures {u = tt}) in
    cuts_places s b c.deref.result.now run are

pub payments_at-requires-clause-few : goal.payments_at-requires-clause-few
payments_at-requires-clause-few g c =
    let few = few_days c.args.unadjusted.now c.requires.boundaries.rising c.as_slice-boundaries.ensures.days in
    omega (arith, few, ap length c.as_slice-boundaries.ensures.value)

pub payments_at-requires-clause-some : goal.payments_at-requires-clause-some
payments_at-requires-clause-some g c =
    let s = c.args.s.now in
    let b = c.as_slice-boundaries.result.now in
    let are : AreCuts s b (length b) c.deref.result.now =
    subst (AreCuts s b (length b)) (sym c.deref.ensures.value) (c.in_ok-places.ensures {u = tt}) in
    some_cuts s b c.deref.result.now are

pub payments_at-requires-clause-short : goal.payments_at-requires-clause-short
payments_at-requires-clause-short g c =
    let s = c.args.s.now in
    let b = c.as_slice-boundaries.result.now in
    let run : RunsFromTo (first_day_of s) s.termination.day b =
    subst (RunsFromTo (first_day_of s) s.termination.day) (sym c.as_slice-boundaries.ensures.value)
    c.requires.boundaries in
    let are : AreCuts s b (length b) c.deref.result.now =
    subst (AreCuts s b (length b)) (sym c.deref.ensures.value) (c.in_ok-places.ensures {u = tt}) in
    let few = few_days c.args.unadjusted.now c.requires.boundaries.rising c.as_slice-boundaries.ensures.days in
    omega (
      arith,
      few,
      ap length c.as_slice-boundaries.ensures.value,
      few_places b c.deref.result.now (cuts_places s b c.deref.result.now run are)
          (some_cuts s b c.deref.result.now are),
    )

pub returns-clause-meets : goal.returns-clause-meets
returns-clause-meets g c =
    let s = c.args.s.now in
    let set = g.G.GoodDays.days c.args.days.now in
    let b = c.args.unadjusted.now in
    let a = c.args.adjusted.now in
    let cuts = c.deref.result.now in
    let r = c.payments_at.result in
    let slice = c.as_slice-boundaries.result.now in
    let value = c.as_slice-boundaries.ensures.value in
    let cut : AreCuts s slice (length slice) cuts =
    subst (AreCuts s slice (length slice)) (sym c.deref.ensures.value) (c.in_ok-places.ensures {u = tt}) in
    let are = subst (λ (xs : List ℤ). AreCuts s xs (length xs) cuts) value cut in
    let none = subst (λ (xs : List ℤ). (f : Fault) → BreaksGrouping s xs f → ⊥) value c.in_default.ensures in
    let paid = subst (λ (xs : List ℤ). Meets (paid_at s set xs c.as_slice.result.now cuts) r) value
    c.payments_at.ensures in
    paid_meets s set b a cuts c.requires.boundaries are c.requires.adjusted none r
    (subst (λ (xs : List ℤ). Meets (paid_at s set b xs cuts) r) c.as_slice.ensures.value paid)

pub returns-clause-memory : goal.returns-clause-memory
returns-clause-memory g c =
    let none = subst (λ (b : List ℤ). (f : Fault) → BreaksGrouping c.args.s.now b f → ⊥)
    c.as_slice-boundaries.ensures.value c.in_default.ensures in
    if_memory _ c.payments_at.result none
