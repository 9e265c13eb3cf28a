use Rattle.irs_emit.proofs.Pieces.{twice}
use Rattle.irs_emit.proofs.rows.rate.Goals as goal
use Rattle.irs_emit.specs.Emitted.{definition_value}
use Rattle.irs_emit.specs.Private.Texts.{rate_text}
use Rattle.irs_terms.specs.declared.results.Reset.{Reset}
use Rattle.serde_json.specs.Written.{compact_text}
use Rattle.std.proofs.Common.{[], ◌∷◌, ◌++◌, ◌∙◌, ap, codes, option_map, sym, Bor, Option}

pub returns-in_ok-extend_from_slice-in-Some-2 : goal.returns-in_ok-extend_from_slice-in-Some-2
returns-in_ok-extend_from_slice-in-Some-2 c =
    let x = c.args.x.now in
    let d = compact_text (definition_value x c.in-Some.r.now) in
    twice c.args.out.now.items c.extend_from_slice.new.self.items c.extend_from_slice-in-Some.new.self.items
    (codes "\"floatingRateDefinition\":") (d ++ 44 ∷ []) c.in_ok-extend_from_slice-in-Some.ensures.items
    (twice c.extend_from_slice.new.self.items c.definition.new.out.items c.extend_from_slice-in-Some.new.self.items d
    (44 ∷ [])
    c.in_ok-definition-in-Some.ensures c.in_ok-extend_from_slice-in-Some-2.ensures.items)
    ∙ ap (λ (o : Option (Bor Reset)). c.args.out.now.items ++ rate_text x (option_map (λ r. r.now) o))
    (sym c.in-Some.is)
