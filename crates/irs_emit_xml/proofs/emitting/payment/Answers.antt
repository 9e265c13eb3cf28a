use Rattle.irs_emit_xml.proofs.emitting.payment.Goals as goal
use Rattle.irs_emit_xml.specs.Flows.{day_node, forecast_node, payment_content, payment_node, period_nodes}
use Rattle.irs_emit_xml.proofs.Lines.{element_lines, lines_append, one_line, then_lines}
use Rattle.irs_emit_xml.proofs.Walks.{in_currency, periods_paid}
use Rattle.std.proofs.Common.{◌-◌, ◌+◌, ◌∷◌, ◌++◌, [], codes, refl}

pub returns : goal.returns
unfolding payment_node
returns c =
    let p = c.args.part.now in
    let y = c.args.y.now in
    let adjusted = day_node (codes "adjustedPaymentDate") y.adjusted in
    let forecast = forecast_node p.currency y in
    let periods = period_nodes p (y.first_period - 1) (y.last_period + 1 - y.first_period) in
    element_lines 3 (codes "paymentCalculationPeriod") (payment_content p y) c.args.out.now.items
    c.open_tag.new.out.items c.forecast.new.out.items
    c.close_tag.new.out.items c.in_ok-open_tag.ensures
    (then_lines 4 (day_node (codes "unadjustedPaymentDate") y.unadjusted) (adjusted ∷ (periods ++ forecast ∷ []))
    c.open_tag.new.out.items
    c.day.new.out.items c.forecast.new.out.items c.in_ok-day.ensures
    (then_lines 4 adjusted (periods ++ forecast ∷ []) c.day.new.out.items c.day-2.new.out.items c.forecast.new.out.items
    c.in_ok-day-2.ensures
    (lines_append 4 periods (forecast ∷ []) c.day-2.new.out.items c.periods.new.out.items c.forecast.new.out.items
    (periods_paid p y _ _ c.day-2.new.out.items c.periods.new.out.items c.requires refl refl c.in_ok-periods.ensures)
    (one_line 4 forecast c.periods.new.out.items c.forecast.new.out.items
    (in_currency y c.currency.result p.currency c.periods.new.out.items c.forecast.new.out.items c.currency.ensures
    c.in_ok-forecast.ensures)))))
    c.in_ok-close_tag.ensures
