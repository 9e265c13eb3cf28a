use Rattle.irs_emit_xml.proofs.writer.indent.Goals as goal
use Rattle.irs_emit_xml.proofs.Lines.{indent_more}

pub loop-k-preserved : goal.loop-k-preserved
loop-k-preserved c =
    indent_more c.loop-k.k c.args.out.now.items c.loop-k.out.items c.extend_from_slice.new.self.items c.loop-k.invariant
    c.in_ok-extend_from_slice.ensures.items
