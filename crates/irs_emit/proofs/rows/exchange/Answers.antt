use Rattle.irs_emit.proofs.rows.exchange.Goals as goal
use Rattle.irs_emit.proofs.Pieces.{twice}
use Rattle.std.proofs.Common.{codes}
use Rattle.serde_json.specs.Written.{compact_text}
use Rattle.irs_emit.specs.Emitted.{exchange_value, amount_leaf, day_leaf}
use Rattle.json.specs.Print.{escape_byte}

pub returns : goal.returns
unfolding exchange_value escape_byte
returns c =
    let x = c.args.x.now in
    twice c.args.out.now.items c.extend_from_slice.new.self.items c.extend_from_slice-4.new.self.items
    (codes "{\"adjustedPrincipalExchangeDate\":") _ c.in_ok-extend_from_slice.ensures.items
    (twice c.extend_from_slice.new.self.items c.day.new.out.items c.extend_from_slice-4.new.self.items
    (compact_text (day_leaf x.adjusted)) _ c.in_ok-day.ensures
    (twice c.day.new.out.items c.extend_from_slice-2.new.self.items c.extend_from_slice-4.new.self.items
    (codes ",\"principalExchangeAmount\":") _ c.in_ok-extend_from_slice-2.ensures.items
    (twice c.extend_from_slice-2.new.self.items c.amount.new.out.items c.extend_from_slice-4.new.self.items
    (compact_text (amount_leaf x.amount)) _ c.in_ok-amount.ensures
    (twice c.amount.new.out.items c.extend_from_slice-3.new.self.items c.extend_from_slice-4.new.self.items
    (codes ",\"unadjustedPrincipalExchangeDate\":") _ c.in_ok-extend_from_slice-3.ensures.items
    (twice c.extend_from_slice-3.new.self.items c.day-2.new.out.items c.extend_from_slice-4.new.self.items
    (compact_text (day_leaf x.unadjusted)) (codes "}") c.in_ok-day-2.ensures
    c.in_ok-extend_from_slice-4.ensures.items)))))
