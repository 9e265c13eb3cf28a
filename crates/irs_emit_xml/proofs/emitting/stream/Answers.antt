use Rattle.irs_emit_xml.proofs.emitting.stream.Goals as goal
use Rattle.irs_emit_xml.specs.Flows.{cashflows_node, stream_node}
use Rattle.irs_emit_xml.proofs.Lines.{element_lines, one_line}
use Rattle.std.proofs.Common.{◌∷◌, [], codes}

pub returns : goal.returns
unfolding stream_node
returns c =
    let p = c.args.part.now in
    element_lines 1 (codes "swapStream") (cashflows_node p ∷ []) c.args.out.now.items c.open_tag.new.out.items
    c.cashflows.new.out.items
    c.close_tag.new.out.items c.in_ok-open_tag.ensures
    (one_line 2 (cashflows_node p) c.open_tag.new.out.items c.cashflows.new.out.items c.in_ok-cashflows.ensures)
    c.in_ok-close_tag.ensures
