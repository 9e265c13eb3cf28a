use Rattle.irs_emit.proofs.emitting.payment.Goals as goal
use Rattle.irs_emit.proofs.Pieces.{in_currency, periods_paid, twice}
use Rattle.std.proofs.Common.{◌+◌, ◌-◌, ◌++◌, false, codes, ap, ◌∙◌, refl}
use Rattle.serde_json.specs.Written.{compact_text}
use Rattle.irs_emit.proofs.RowTexts.{payment_text}
use Rattle.irs_emit.specs.Emitted.{forecast_value, period_values, day_leaf}
use Rattle.irs_emit.specs.Private.Texts.{listed_text}

pub returns : goal.returns
returns c =
    let p = c.args.part.now in
    let y = c.args.y.now in
    let periods = periods_paid p y _ _ c.extend_from_slice-2.new.self.items c.periods.new.out.items c.requires.paid refl
    refl
    c.in_ok-periods.ensures in
    let forecast = in_currency y c.currency.result p.currency c.extend_from_slice-3.new.self.items
    c.forecast.new.out.items
    c.currency.ensures c.in_ok-forecast.ensures in
    twice c.args.out.now.items c.extend_from_slice.new.self.items c.extend_from_slice-5.new.self.items
    (codes "{\"adjustedPaymentDate\":") _ c.in_ok-extend_from_slice.ensures.items
    (twice c.extend_from_slice.new.self.items c.day.new.out.items c.extend_from_slice-5.new.self.items
    (compact_text (day_leaf y.adjusted)) _ c.in_ok-day.ensures
    (twice c.day.new.out.items c.extend_from_slice-2.new.self.items c.extend_from_slice-5.new.self.items
    (codes ",\"calculationPeriod\":[") _ c.in_ok-extend_from_slice-2.ensures.items
    (twice c.extend_from_slice-2.new.self.items c.periods.new.out.items c.extend_from_slice-5.new.self.items
    (listed_text false (period_values p (y.first_period - 1) (y.last_period + 1 - y.first_period))) _ periods
    (twice c.periods.new.out.items c.extend_from_slice-3.new.self.items c.extend_from_slice-5.new.self.items
    (codes "],\"forecastPaymentAmount\":") _ c.in_ok-extend_from_slice-3.ensures.items
    (twice c.extend_from_slice-3.new.self.items c.forecast.new.out.items c.extend_from_slice-5.new.self.items
    (compact_text (forecast_value p.currency y)) _ forecast
    (twice c.forecast.new.out.items c.extend_from_slice-4.new.self.items c.extend_from_slice-5.new.self.items
    (codes ",\"unadjustedPaymentDate\":") _ c.in_ok-extend_from_slice-4.ensures.items
    (twice c.extend_from_slice-4.new.self.items c.day-2.new.out.items c.extend_from_slice-5.new.self.items
    (compact_text (day_leaf y.unadjusted)) (codes "}") c.in_ok-day-2.ensures
    c.in_ok-extend_from_slice-5.ensures.items)))))))
    ∙ ap (λ t. c.args.out.now.items ++ t) (payment_text p y)
