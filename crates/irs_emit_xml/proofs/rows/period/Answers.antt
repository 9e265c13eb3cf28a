use Rattle.irs_emit_xml.proofs.rows.period.Goals as goal
use Rattle.irs_emit_xml.specs.Flows.{fraction_node, period_content, front_content, period_node, rate_content}
use Rattle.irs_emit_xml.proofs.Lines.{element_lines, lines_append, one_line}
use Rattle.std.proofs.Common.{◌∷◌, ◌++◌, [], codes, option_map}

pub returns : goal.returns
unfolding period_node
returns c =
    let x = c.args.x.now in
    let rate = rate_content x (option_map (λ r. r.now) c.args.reset) in
    let fraction = fraction_node (codes "dayCountYearFraction") x.frac in
    element_lines 4 (codes "calculationPeriod") (period_content x (option_map (λ r. r.now) c.args.reset))
    c.args.out.now.items
    c.open_tag.new.out.items c.fraction.new.out.items c.close_tag.new.out.items c.in_ok-open_tag.ensures
    (lines_append 5 (front_content x) (rate ++ fraction ∷ []) c.open_tag.new.out.items c.front.new.out.items
    c.fraction.new.out.items
    c.in_ok-front.ensures
    (lines_append 5 rate (fraction ∷ []) c.front.new.out.items c.rate.new.out.items c.fraction.new.out.items
    c.in_ok-rate.ensures
    (one_line 5 fraction c.rate.new.out.items c.fraction.new.out.items c.in_ok-fraction.ensures)))
    c.in_ok-close_tag.ensures
