use Rattle.std.proofs.Common.{◌≡◌, ◌+◌, ◌*◌, ◌<◌, ◌≤◌, length, rules, arith, FitsSigned, to_z, ◌+ℤ◌, unsigned_abs, ◌∙◌}
use Rattle.std.specs.Int.{w128}
use Rattle.std.proofs.lemmas.Int.{to_z-of_z}
use Rattle.irs_bulk.specs.BulkRuns.{known_or_zero}
use Rattle.irs_bulk.specs.Private.BulkRuns.{most_stated_amount}
use Rattle.irs_audit.proofs.BoundLemmas.{payments_few}
use Rattle.irs_bulk.proofs.SumLemmas.{paid_more}
use Rattle.irs_bulk.proofs.summing.paid.Goals as goal

pub sum-total-requires : goal.sum-total-requires
sum-total-requires c =
    let fb : FitsSigned w128 c.args.before = c.ranges.before in
    let fk : FitsSigned w128 c.known_or_zero.result = search rules in
    let few = payments_few c.args.part.now c.payments-y-items.ensures.bounds in
    let count = (c.payments-y-items.ensures.bounds).few in
    let low : c.loop-y.y-index < length c.args.part.now.payments =
    rw (← c.payments-y-items.ensures.value) c.loop-y-test.true in
    let so_far : unsigned_abs (to_z w128 c.loop-y.total-bits)
    ≤ unsigned_abs c.args.before + c.loop-y.y-index * most_stated_amount = simp to_z-of_z at c.loop-y.invariant.size in
    let one : unsigned_abs c.known_or_zero.result ≤ most_stated_amount = c.known_or_zero.ensures.size in
    simp to_z-of_z (omega (arith, few, count, low, so_far, c.requires, one))

pub loop-y-preserved : goal.loop-y-preserved
loop-y-preserved c =
    let fb : FitsSigned w128 c.args.before = c.ranges.before in
    let fk : FitsSigned w128 c.known_or_zero.result = search rules in
    let fs : FitsSigned w128 c.sum-total.result = search rules in
    let so_far : unsigned_abs (to_z w128 c.loop-y.total-bits)
    ≤ unsigned_abs c.args.before + c.loop-y.y-index * most_stated_amount = simp to_z-of_z at c.loop-y.invariant.size in
    let one : unsigned_abs c.known_or_zero.result ≤ most_stated_amount = c.known_or_zero.ensures.size in
    let size : unsigned_abs c.sum-total.result ≤ unsigned_abs (to_z w128 c.loop-y.total-bits)
    + unsigned_abs c.known_or_zero.result = simp to_z-of_z at c.sum-total.ensures.size in
    let known : c.known_or_zero.result ≡ known_or_zero c.y-item.result.amount = c.known_or_zero.ensures.value in
    let value : c.sum-total.result ≡ to_z w128 c.loop-y.total-bits +ℤ known_or_zero c.y-item.result.amount =
    rw (← known) (simp to_z-of_z at c.sum-total.ensures.value) in
    record {
      rest = simp to_z-of_z
          (rw value (paid_more (to_z w128 c.loop-y.total-bits) c.payments-y-items.result.now c.loop-y.y-index
          c.y-item.result c.loop-y-test.true c.y-item.is ∙ (simp to_z-of_z at c.loop-y.invariant.rest)));
      size = simp to_z-of_z (omega (arith, so_far, one, size));
    }

pub returns-clause-size : goal.returns-clause-size
returns-clause-size c =
    let fb : FitsSigned w128 c.args.before = c.ranges.before in
    let few = payments_few c.args.part.now c.payments-y-items.ensures.bounds in
    let count = (c.payments-y-items.ensures.bounds).few in
    let within : c.loop-y.y-index ≤ length c.args.part.now.payments =
    rw (← c.payments-y-items.ensures.value) c.loop-y.auto.y-index-end in
    let so_far : unsigned_abs (to_z w128 c.loop-y.total-bits)
    ≤ unsigned_abs c.args.before + c.loop-y.y-index * most_stated_amount = simp to_z-of_z at c.loop-y.invariant.size in
    omega (arith, few, count, within, so_far)
