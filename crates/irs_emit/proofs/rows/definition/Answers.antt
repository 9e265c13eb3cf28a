use Rattle.irs_emit.proofs.rows.definition.Goals as goal
use Rattle.irs_emit.proofs.Pieces.{twice}
use Rattle.std.proofs.Common.{◌++◌, codes, option_map, ap, ◌∙◌}
use Rattle.serde_json.specs.Written.{compact_text}
use Rattle.irs_emit.proofs.RowTexts.{definition_text}
use Rattle.irs_emit.specs.Emitted.{observation_value, rate_leaf}
use Rattle.irs_emit.specs.Private.Texts.{known_text}

pub returns : goal.returns
returns c =
    let x = c.args.x.now in
    twice c.args.out.now.items c.extend_from_slice.new.self.items c.extend_from_slice-3.new.self.items
    (codes "{") _ c.in_ok-extend_from_slice.ensures.items
    (twice c.extend_from_slice.new.self.items c.known_rate.new.out.items c.extend_from_slice-3.new.self.items
    (known_text (codes "\"calculatedRate\":") (option_map rate_leaf x.rate)) _ c.in_ok-known_rate.ensures
    (twice c.known_rate.new.out.items c.extend_from_slice-2.new.self.items c.extend_from_slice-3.new.self.items
    (codes "\"rateObservation\":") _ c.in_ok-extend_from_slice-2.ensures.items
    (twice c.extend_from_slice-2.new.self.items c.observation.new.out.items c.extend_from_slice-3.new.self.items
    (compact_text (observation_value c.args.r.now)) (codes "}") c.in_ok-observation.ensures
    c.in_ok-extend_from_slice-3.ensures.items)))
    ∙ ap (λ t. c.args.out.now.items ++ t) (definition_text x c.args.r.now)
