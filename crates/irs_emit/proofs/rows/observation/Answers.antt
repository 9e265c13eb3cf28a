use Rattle.irs_emit.proofs.rows.observation.Goals as goal
use Rattle.irs_emit.proofs.Pieces.{twice}
use Rattle.std.proofs.Common.{◌++◌, codes, option_map, ap, ◌∙◌}
use Rattle.serde_json.specs.Written.{compact_text}
use Rattle.irs_emit.proofs.RowTexts.{observation_text}
use Rattle.irs_emit.specs.Emitted.{day_leaf, rate_leaf}
use Rattle.irs_emit.specs.Private.Texts.{known_text}

pub returns : goal.returns
returns c =
    let r = c.args.r.now in
    twice c.args.out.now.items c.extend_from_slice.new.self.items c.extend_from_slice-4.new.self.items
    (codes "{\"adjustedFixingDate\":") _ c.in_ok-extend_from_slice.ensures.items
    (twice c.extend_from_slice.new.self.items c.day.new.out.items c.extend_from_slice-4.new.self.items
    (compact_text (day_leaf r.fixing)) _ c.in_ok-day.ensures
    (twice c.day.new.out.items c.extend_from_slice-2.new.self.items c.extend_from_slice-4.new.self.items
    (codes ",") _ c.in_ok-extend_from_slice-2.ensures.items
    (twice c.extend_from_slice-2.new.self.items c.known_rate.new.out.items c.extend_from_slice-4.new.self.items
    (known_text (codes "\"observedRate\":") (option_map rate_leaf r.observed)) _ c.in_ok-known_rate.ensures
    (twice c.known_rate.new.out.items c.extend_from_slice-3.new.self.items c.extend_from_slice-4.new.self.items
    (codes "\"resetDate\":") _ c.in_ok-extend_from_slice-3.ensures.items
    (twice c.extend_from_slice-3.new.self.items c.day-2.new.out.items c.extend_from_slice-4.new.self.items
    (compact_text (day_leaf r.reset)) (codes "}") c.in_ok-day-2.ensures c.in_ok-extend_from_slice-4.ensures.items)))))
    ∙ ap (λ t. c.args.out.now.items ++ t) (observation_text r)
