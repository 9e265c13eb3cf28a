use Rattle.irs_emit.proofs.emitting.streams.Goals as goal
use Rattle.irs_emit.proofs.Pieces.{mapped_all, mapped_more}
use Rattle.irs_emit.specs.Emitted.{stream_value}

pub loop-j-preserved : goal.loop-j-preserved
loop-j-preserved c =
    mapped_more stream_value c.args.parts.now c.loop-j.j c.index-parts-j.result c.loop-j.later c.args.out.now.items
    c.loop-j.out.items c.comma.new.out.items c.stream.new.out.items c.loop-j-test.true c.index-parts-j.is
    c.loop-j.invariant.0
    c.loop-j.invariant.1 c.in_ok-comma.ensures c.in_ok-stream.ensures

pub returns : goal.returns
returns c =
    mapped_all stream_value c.args.parts.now c.loop-j.j c.args.out.now.items c.loop-j.out.items c.loop-j-test.false
    c.loop-j.invariant.0
