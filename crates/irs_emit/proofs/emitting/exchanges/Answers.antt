use Rattle.irs_emit.proofs.emitting.exchanges.Goals as goal
use Rattle.irs_emit.proofs.Pieces.{nothing_more, twice}
use Rattle.irs_emit.proofs.RowTexts.{exchanges_pieces, no_exchanges}
use Rattle.irs_emit.specs.Emitted.{exchange_value}
use Rattle.irs_emit.specs.Private.Texts.{listed_text}
use Rattle.std.proofs.Common.{◌++◌, ◌∙◌, ◌==◌, ap, codes, false, length, map, sym}

pub returns-then-is_empty : goal.returns-then-is_empty
returns-then-is_empty c =
    let a = c.args.out.now.items in
    let none = ap (λ xs. length xs == 0) (sym c.exchanges.ensures.value) ∙ sym c.is_empty.ensures
    ∙ c.if-is_empty.true in
    nothing_more a ∙ ap (λ t. a ++ t) (no_exchanges c.args.part.now.exchanges none)

pub returns : goal.returns
returns c =
    let a = c.args.out.now.items in
    let xs = c.args.part.now.exchanges in
    let some = ap (λ ys. length ys == 0) (sym c.exchanges.ensures.value) ∙ sym c.is_empty.ensures
    ∙ c.if-is_empty.false in
    twice a c.extend_from_slice.new.self.items c.extend_from_slice-2.new.self.items
    (codes ",\"principalExchange\":[") _ c.in_ok-extend_from_slice.ensures.items
    (twice c.extend_from_slice.new.self.items c.listed_exchanges.new.out.items c.extend_from_slice-2.new.self.items
    (listed_text false (map exchange_value xs)) (codes "]") c.in_ok-listed_exchanges.ensures
    c.in_ok-extend_from_slice-2.ensures.items)
    ∙ ap (λ t. a ++ t) (exchanges_pieces xs some)
