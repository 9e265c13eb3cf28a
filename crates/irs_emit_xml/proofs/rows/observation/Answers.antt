use Rattle.irs_emit_xml.proofs.rows.observation.Goals as goal
use Rattle.irs_emit_xml.specs.Flows.{day_node, known, observation_fields, observation_node, rate_node}
use Rattle.irs_emit_xml.proofs.Lines.{element_lines, then_lines}
use Rattle.std.proofs.Common.{◌∷◌, codes}

pub returns : goal.returns
unfolding observation_node
returns c =
    let r = c.args.r.now in
    let fixing = day_node (codes "adjustedFixingDate") r.fixing in
    let rate = known (rate_node (codes "observedRate")) r.observed in
    element_lines 6 (codes "rateObservation") (observation_fields r) c.args.out.now.items c.open_tag.new.out.items
    c.known_rate.new.out.items
    c.close_tag.new.out.items c.in_ok-open_tag.ensures
    (then_lines 7 (day_node (codes "resetDate") r.reset) (fixing ∷ rate) c.open_tag.new.out.items c.day.new.out.items
    c.known_rate.new.out.items c.in_ok-day.ensures
    (then_lines 7 fixing rate c.day.new.out.items c.day-2.new.out.items c.known_rate.new.out.items c.in_ok-day-2.ensures
    c.in_ok-known_rate.ensures)) c.in_ok-close_tag.ensures
