use Rattle.irs_emit.proofs.Pieces.{twice}
use Rattle.irs_emit.proofs.leaves.known_amount.Goals as goal
use Rattle.irs_emit.specs.Emitted.{amount_leaf}
use Rattle.irs_emit.specs.Private.Texts.{known_text}
use Rattle.serde_json.specs.Written.{compact_text}
use Rattle.std.proofs.Common.{[], ◌∷◌, ◌++◌, ◌∙◌, ap, option_map, sym}

pub returns-in_ok-push-in-Some : goal.returns-in_ok-push-in-Some
returns-in_ok-push-in-Some c =
    let d = compact_text (amount_leaf c.in-Some.v) in
    twice c.args.out.now.items c.extend_from_slice.new.self.items c.push.new.self.items c.args.start.now (d ++ 44 ∷ [])
    c.in_ok-extend_from_slice-in-Some.ensures.items
    (twice c.extend_from_slice.new.self.items c.amount.new.out.items c.push.new.self.items d (44 ∷ [])
    c.in_ok-amount-in-Some.ensures c.in_ok-push-in-Some.ensures.items)
    ∙ ap (λ o. c.args.out.now.items ++ known_text c.args.start.now (option_map amount_leaf o)) (sym c.in-Some.is)
