use Rattle.irs_emit.proofs.Pieces.{twice}
use Rattle.irs_emit.proofs.leaves.known_rate.Goals as goal
use Rattle.irs_emit.specs.Emitted.{rate_leaf}
use Rattle.irs_emit.specs.Private.Texts.{known_text}
use Rattle.serde_json.specs.Written.{compact_text}
use Rattle.std.proofs.Common.{rules, ◌≡◌, [], ◌∷◌, ◌++◌, ◌∙◌, FitsSigned, ap, option_map, sym}
use Rattle.std.proofs.lemmas.Int.{to_z-of_z}
use Rattle.std.specs.Int.{w64}

pub returns-in_ok-push-in-Some : goal.returns-in_ok-push-in-Some
returns-in_ok-push-in-Some c =
    let d = compact_text (rate_leaf c.in-Some.units) in
    let fits : FitsSigned w64 c.in-Some.units = search rules in
    let rate : c.rate.new.out.items ≡ c.extend_from_slice.new.self.items ++ d =
    simp to_z-of_z at c.in_ok-rate-in-Some.ensures in
    twice c.args.out.now.items c.extend_from_slice.new.self.items c.push.new.self.items c.args.start.now (d ++ 44 ∷ [])
    c.in_ok-extend_from_slice-in-Some.ensures.items
    (twice c.extend_from_slice.new.self.items c.rate.new.out.items c.push.new.self.items d (44 ∷ [])
    rate c.in_ok-push-in-Some.ensures.items)
    ∙ ap (λ o. c.args.out.now.items ++ known_text c.args.start.now (option_map rate_leaf o)) (sym c.in-Some.is)
