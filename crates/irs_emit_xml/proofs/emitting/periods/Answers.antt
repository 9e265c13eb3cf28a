use Rattle.irs_emit_xml.proofs.emitting.periods.Goals as goal
use Rattle.irs_emit_xml.proofs.Walks.{all_periods, next_period, no_periods}
use Rattle.std.proofs.Common.{arith}

pub loop-place-init : goal.loop-place-init
loop-place-init c =
    no_periods c.args.part.now c.args.first c.args.out.now.items

pub loop-place-preserved : goal.loop-place-preserved
loop-place-preserved c =
    next_period c.args.part.now c.args.first c.loop-place.place c.args.out.now.items c.loop-place.out.items
    c.one_period.new.out.items (omega arith)
    c.loop-place.invariant c.in_ok-one_period.ensures

pub returns : goal.returns
returns c =
    all_periods c.args.part.now c.args.first c.args.last c.loop-place.place c.args.out.now.items c.loop-place.out.items
    (omega arith) (omega arith)
    c.loop-place.invariant
