use Rattle.irs_emit_xml.proofs.rows.forecast.Goals as goal
use Rattle.irs_emit_xml.specs.Flows.{amount_node, currency_node, forecast_fields, forecast_node, known}
use Rattle.irs_emit_xml.proofs.Lines.{element_lines, then_lines}
use Rattle.std.proofs.Common.{codes}

pub returns : goal.returns
unfolding forecast_node
returns c =
    let y = c.args.y.now in
    element_lines 4 (codes "forecastPaymentAmount") (forecast_fields c.args.of y) c.args.out.now.items
    c.open_tag.new.out.items
    c.known_amount.new.out.items c.close_tag.new.out.items c.in_ok-open_tag.ensures
    (then_lines 5 (currency_node (codes "currency") c.args.of) (known (amount_node (codes "amount")) y.amount)
    c.open_tag.new.out.items
    c.currency.new.out.items c.known_amount.new.out.items c.in_ok-currency.ensures c.in_ok-known_amount.ensures)
    c.in_ok-close_tag.ensures
