use Rattle.irs_emit.proofs.emitting.stream.Goals as goal
use Rattle.irs_emit.proofs.Pieces.{twice}
use Rattle.std.proofs.Common.{◌++◌, codes, ap, ◌∙◌}
use Rattle.serde_json.specs.Written.{compact_text}
use Rattle.irs_emit.proofs.RowTexts.{stream_text}
use Rattle.irs_emit.specs.Emitted.{cashflows_value}

pub returns : goal.returns
returns c =
    twice c.args.out.now.items c.extend_from_slice.new.self.items c.extend_from_slice-2.new.self.items
    (codes "{\"cashflows\":") _ c.in_ok-extend_from_slice.ensures.items
    (twice c.extend_from_slice.new.self.items c.cashflows.new.out.items c.extend_from_slice-2.new.self.items
    (compact_text (cashflows_value c.args.part.now)) (codes "}") c.in_ok-cashflows.ensures
    c.in_ok-extend_from_slice-2.ensures.items)
    ∙ ap (λ t. c.args.out.now.items ++ t) (stream_text c.args.part.now)
