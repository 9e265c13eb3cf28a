use Rattle.std.proofs.Common.{rules, pos, sym, arith, FitsSigned, to_z}
use Rattle.std.specs.Int.{w128}
use Rattle.std.proofs.lemmas.Int.{to_z-of_z}
use Rattle.irs_observed.specs.ObservedRates.{DailyRates, rates_by, AddsBy}
use Rattle.irs_observed.proofs.ThroughLemmas.{through_more, total_first, total_more, weight_at}
use Rattle.irs_observed.proofs.averages.summed.Goals as goal

pub added-requires-clause-sum : goal.added-requires-clause-sum
added-requires-clause-sum c =
    let few = c.requires.weights.few in
    let size = c.loop-o.invariant.size in
    let first = total_first c.args.observations.now c.loop-o.o-index in
    omega (arith, few, size, first)

pub added-requires-clause-weight : goal.added-requires-clause-weight
added-requires-clause-weight c =
    let few = c.requires.weights.few in
    let at = weight_at c.args.observations.now c.loop-o.o-index c.o-item.result c.loop-o-test.true (sym c.o-item.is) in
    omega (arith, few, at)

pub loop-o-preserved : goal.loop-o-preserved
loop-o-preserved c =
    let daily : DailyRates = rates_by c.args.daily.now in
    let fits : FitsSigned w128 c.in-Some.next = search rules in
    let before = c.loop-o.invariant.size in
    let size = c.in-Some.ensures.size in
    let more = total_more c.args.observations.now c.loop-o.o-index c.o-item.result c.loop-o-test.true (sym c.o-item.is) in
    simp to_z-of_z (record {
      sums = through_more (AddsBy daily) c.args.observations.now c.loop-o.o-index c.o-item.result (pos 0)
          (to_z w128 c.loop-o.sum-bits) c.in-Some.next c.loop-o-test.true (sym c.o-item.is) c.loop-o.invariant.sums
          c.in-Some.ensures.some;
      size = omega (arith, before, size, more);
    })
