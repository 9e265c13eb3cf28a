use Rattle.irs_emit_xml.proofs.writer.open_tag.Goals as goal
use Rattle.irs_emit_xml.proofs.Lines.{open_pieces}

pub returns : goal.returns
returns c =
    open_pieces c.args.level c.args.name.now c.as_bytes.result.now c.args.out.now.items c.indent.new.out.items
    c.extend_from_slice.new.self.items c.extend_from_slice-2.new.self.items c.extend_from_slice-3.new.self.items
    c.in_ok-indent.ensures c.in_ok-extend_from_slice.ensures.items
    c.in_ok-extend_from_slice-2.ensures.items c.as_bytes.ensures.value c.in_ok-extend_from_slice-3.ensures.items
