use Rattle.irs_emit.proofs.emitting.cashflows.Goals as goal
use Rattle.irs_emit.proofs.Pieces.{twice}
use Rattle.std.proofs.Common.{◌++◌, false, map, codes, ap, ◌∙◌}
use Rattle.irs_emit.proofs.RowTexts.{cashflows_text}
use Rattle.irs_emit.specs.Emitted.{payment_value}
use Rattle.irs_emit.specs.Private.Texts.{exchanges_text, listed_text}

pub returns : goal.returns
returns c =
    let p = c.args.part.now in
    twice c.args.out.now.items c.extend_from_slice.new.self.items c.extend_from_slice-3.new.self.items
    (codes "{\"cashflowsMatchParameters\":\"true\",\"paymentCalculationPeriod\":[") _
    c.in_ok-extend_from_slice.ensures.items
    (twice c.extend_from_slice.new.self.items c.payments.new.out.items c.extend_from_slice-3.new.self.items
    (listed_text false (map (payment_value p) p.payments)) _ c.in_ok-payments.ensures
    (twice c.payments.new.out.items c.extend_from_slice-2.new.self.items c.extend_from_slice-3.new.self.items
    (codes "]") _ c.in_ok-extend_from_slice-2.ensures.items
    (twice c.extend_from_slice-2.new.self.items c.exchanges.new.out.items c.extend_from_slice-3.new.self.items
    (exchanges_text p.exchanges) (codes "}") c.in_ok-exchanges.ensures c.in_ok-extend_from_slice-3.ensures.items)))
    ∙ ap (λ t. c.args.out.now.items ++ t) (cashflows_text p)
