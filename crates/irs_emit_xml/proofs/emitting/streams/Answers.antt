use Rattle.irs_emit_xml.proofs.emitting.streams.Goals as goal
use Rattle.irs_emit_xml.specs.Flows.{stream_node}
use Rattle.irs_emit_xml.proofs.Walks.{mapped_all, mapped_more}

pub loop-j-preserved : goal.loop-j-preserved
loop-j-preserved c =
    mapped_more 1 stream_node c.args.parts.now c.loop-j.j c.index-parts-j.result c.args.out.now.items c.loop-j.out.items
    c.stream.new.out.items c.loop-j-test.true c.index-parts-j.is c.loop-j.invariant c.in_ok-stream.ensures

pub returns : goal.returns
returns c =
    let done = mapped_all 1 stream_node c.args.parts.now c.loop-j.j c.args.out.now.items c.loop-j.out.items
    c.loop-j-test.false
    c.loop-j.invariant in
    done
