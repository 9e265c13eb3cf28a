use Rattle.irs_emit.proofs.emitting.periods.Goals as goal
use Rattle.irs_emit.proofs.Pieces.{all_periods, next_period, no_periods}
use Rattle.std.proofs.Common.{arith}

pub loop-place-init : goal.loop-place-init
loop-place-init c = no_periods c.args.part.now c.args.first c.args.out.now.items

pub loop-place-preserved : goal.loop-place-preserved
loop-place-preserved c =
    next_period c.args.part.now c.args.first c.loop-place.place c.loop-place.later _
    c.args.out.now.items c.loop-place.out.items c.one_period.new.out.items (omega arith) c.loop-place.invariant.0
    c.loop-place.invariant.1 c.in_ok-later.ensures.text c.in_ok-later.ensures.later

pub returns : goal.returns
returns c =
    all_periods c.args.part.now c.args.first c.args.last c.loop-place.place c.args.out.now.items c.loop-place.out.items
    (omega arith) (omega arith) c.loop-place.invariant.0
