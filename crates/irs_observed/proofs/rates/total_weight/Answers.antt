use Rattle.std.proofs.Common.{◌+◌, sym, arith}
use Rattle.irs_observed.proofs.ThroughLemmas.{total_first, total_more}
use Rattle.irs_observed.proofs.rates.total_weight.Goals as goal

pub overflow_add-total : goal.overflow_add-total
overflow_add-total c =
    let few = c.requires.few in
    let so_far = c.loop-o.invariant in
    let more = total_more c.args.observations.now c.loop-o.o-index c.o-item.result c.loop-o-test.true (sym c.o-item.is) in
    let first = total_first c.args.observations.now (c.loop-o.o-index + 1) in
    omega (arith, few, so_far, more, first)

pub loop-o-preserved : goal.loop-o-preserved
loop-o-preserved c =
    let so_far = c.loop-o.invariant in
    let more = total_more c.args.observations.now c.loop-o.o-index c.o-item.result c.loop-o-test.true (sym c.o-item.is) in
    omega (arith, so_far, more)
