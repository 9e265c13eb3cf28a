use Rattle.irs_emit_xml.proofs.emitting.cashflows.Goals as goal
use Rattle.irs_emit_xml.specs.Flows.{cashflows_fields, cashflows_node, exchange_node, payment_node}
use Rattle.irs_emit_xml.proofs.Lines.{element_lines, lines_append, then_lines}
use Rattle.irs_emit_xml.specs.Trees.{leaf}
use Rattle.std.proofs.Common.{◌++◌, codes, map}

pub returns : goal.returns
unfolding cashflows_node
returns c =
    let p = c.args.part.now in
    let xs = map exchange_node p.exchanges in
    let ys = map (payment_node p) p.payments in
    element_lines 2 (codes "cashflows") (cashflows_fields p) c.args.out.now.items c.open_tag.new.out.items
    c.payments.new.out.items
    c.close_tag.new.out.items c.in_ok-open_tag.ensures
    (then_lines 3 (leaf (codes "cashflowsMatchParameters") (codes "true")) (xs ++ ys) c.open_tag.new.out.items
    c.leaf.new.out.items
    c.payments.new.out.items c.in_ok-leaf.ensures
    (lines_append 3 xs ys c.leaf.new.out.items c.exchanges.new.out.items c.payments.new.out.items
    c.in_ok-exchanges.ensures
    c.in_ok-payments.ensures)) c.in_ok-close_tag.ensures
