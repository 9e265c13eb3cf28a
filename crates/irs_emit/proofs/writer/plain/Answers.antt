use Rattle.irs_emit.proofs.Pieces.{twice}
use Rattle.irs_emit.proofs.PlainTexts.{plain_escape}
use Rattle.irs_emit.proofs.writer.plain.Goals as goal
use Rattle.std.proofs.Common.{[], ◌∷◌, ◌++◌, ◌∙◌, ap, sym}

pub returns : goal.returns
returns c =
    let a = c.args.out.now.items in
    let text = c.args.text.now in
    twice a c.push.new.self.items c.push-2.new.self.items (34 ∷ []) (text ++ 34 ∷ []) c.in_ok-push.ensures.items
    (twice c.push.new.self.items c.extend_from_slice.new.self.items c.push-2.new.self.items text (34 ∷ [])
    c.in_ok-extend_from_slice.ensures.items c.in_ok-push-2.ensures.items)
    ∙ ap (λ t. a ++ 34 ∷ (t ++ 34 ∷ [])) (sym (plain_escape text c.requires))
