use Rattle.irs_emit_xml.proofs.writer.leaf.Goals as goal
use Rattle.irs_emit_xml.proofs.Lines.{leaf_pieces}

pub returns : goal.returns
returns c =
    leaf_pieces c.args.level c.args.name.now c.as_bytes.result.now c.args.text.now c.args.out.now.items
    c.indent.new.out.items
    c.extend_from_slice.new.self.items c.extend_from_slice-2.new.self.items c.extend_from_slice-3.new.self.items
    c.extend_from_slice-4.new.self.items c.end_tag.new.out.items c.in_ok-indent.ensures
    c.in_ok-extend_from_slice.ensures.items
    c.in_ok-extend_from_slice-2.ensures.items c.as_bytes.ensures.value c.in_ok-extend_from_slice-3.ensures.items
    c.in_ok-extend_from_slice-4.ensures.items c.in_ok-end_tag.ensures
