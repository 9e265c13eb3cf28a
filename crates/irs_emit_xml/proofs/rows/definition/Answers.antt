use Rattle.irs_emit_xml.proofs.rows.definition.Goals as goal
use Rattle.irs_emit_xml.specs.Flows.{definition_fields, definition_node, known, observation_node, rate_node}
use Rattle.irs_emit_xml.proofs.Lines.{element_lines, lines_append, one_line}
use Rattle.std.proofs.Common.{◌∷◌, [], codes}

pub returns : goal.returns
unfolding definition_node
returns c =
    let x = c.args.x.now in
    let r = c.args.r.now in
    let rate = known (rate_node (codes "calculatedRate")) x.rate in
    element_lines 5 (codes "floatingRateDefinition") (definition_fields x r) c.args.out.now.items
    c.open_tag.new.out.items c.observation.new.out.items
    c.close_tag.new.out.items c.in_ok-open_tag.ensures
    (lines_append 6 rate (observation_node r ∷ []) c.open_tag.new.out.items c.known_rate.new.out.items
    c.observation.new.out.items
    c.in_ok-known_rate.ensures (one_line 6 (observation_node r) c.known_rate.new.out.items c.observation.new.out.items
    c.in_ok-observation.ensures))
    c.in_ok-close_tag.ensures
