use Rattle.irs_emit_xml.proofs.rows.exchange.Goals as goal
use Rattle.irs_emit_xml.specs.Flows.{amount_node, day_node, exchange_content, exchange_node}
use Rattle.irs_emit_xml.proofs.Lines.{element_lines, one_line, then_lines}
use Rattle.std.proofs.Common.{◌∷◌, [], codes}

pub returns : goal.returns
unfolding exchange_node
returns c =
    let x = c.args.x.now in
    let adjusted = day_node (codes "adjustedPrincipalExchangeDate") x.adjusted in
    let amount = amount_node (codes "principalExchangeAmount") x.amount in
    element_lines 3 (codes "principalExchange") (exchange_content x) c.args.out.now.items c.open_tag.new.out.items
    c.amount.new.out.items c.close_tag.new.out.items
    c.in_ok-open_tag.ensures
    (then_lines 4 (day_node (codes "unadjustedPrincipalExchangeDate") x.unadjusted) (adjusted ∷ amount ∷ [])
    c.open_tag.new.out.items
    c.day.new.out.items c.amount.new.out.items c.in_ok-day.ensures
    (then_lines 4 adjusted (amount ∷ []) c.day.new.out.items c.day-2.new.out.items c.amount.new.out.items
    c.in_ok-day-2.ensures
    (one_line 4 amount c.day-2.new.out.items c.amount.new.out.items c.in_ok-amount.ensures))) c.in_ok-close_tag.ensures
