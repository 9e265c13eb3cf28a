use Rattle.irs_emit.proofs.rows.forecast.Goals as goal
use Rattle.irs_emit.proofs.Pieces.{twice}
use Rattle.std.proofs.Common.{◌++◌, codes, option_map, ap, ◌∙◌}
use Rattle.serde_json.specs.Written.{compact_text}
use Rattle.irs_emit.proofs.RowTexts.{forecast_text}
use Rattle.irs_emit.specs.Emitted.{amount_leaf, currency_leaf}
use Rattle.irs_emit.specs.Private.Texts.{known_text}

pub returns : goal.returns
returns c =
    let y = c.args.y.now in
    twice c.args.out.now.items c.extend_from_slice.new.self.items c.extend_from_slice-3.new.self.items
    (codes "{") _ c.in_ok-extend_from_slice.ensures.items
    (twice c.extend_from_slice.new.self.items c.known_amount.new.out.items c.extend_from_slice-3.new.self.items
    (known_text (codes "\"amount\":") (option_map amount_leaf y.amount)) _ c.in_ok-known_amount.ensures
    (twice c.known_amount.new.out.items c.extend_from_slice-2.new.self.items c.extend_from_slice-3.new.self.items
    (codes "\"currency\":") _ c.in_ok-extend_from_slice-2.ensures.items
    (twice c.extend_from_slice-2.new.self.items c.currency.new.out.items c.extend_from_slice-3.new.self.items
    (compact_text (currency_leaf c.args.of)) (codes "}") c.in_ok-currency.ensures
    c.in_ok-extend_from_slice-3.ensures.items)))
    ∙ ap (λ t. c.args.out.now.items ++ t) (forecast_text c.args.of y)
