use Rattle.irs_emit_xml.proofs.rows.front.Goals as goal
use Rattle.irs_emit_xml.specs.Flows.{count_node, day_node, notional_node}
use Rattle.irs_emit_xml.proofs.Lines.{one_line, then_lines}
use Rattle.irs_emit_xml.specs.Trees.{node_text}
use Rattle.std.proofs.Common.{rules, ◌≡◌, ◌∷◌, ◌++◌, [], codes, FitsSigned}
use Rattle.std.proofs.lemmas.Int.{to_z-of_z}
use Rattle.std.specs.Int.{w64, w128}

pub returns : goal.returns
returns c =
    let x = c.args.x.now in
    let ending = day_node (codes "unadjustedEndDate") x.«end» in
    let adjusted_start = day_node (codes "adjustedStartDate") x.adjusted_start in
    let adjusted_end = day_node (codes "adjustedEndDate") x.adjusted_end in
    let days = count_node (codes "calculationPeriodNumberOfDays") x.days in
    let notional = notional_node (codes "notionalAmount") x.notional in
    let days_fit : FitsSigned w64 x.days = search rules in
    let notional_fits : FitsSigned w128 x.notional = search rules in
    let days_line : c.count.new.out.items ≡ c.day-4.new.out.items ++ node_text 5 days =
    simp to_z-of_z at c.in_ok-count.ensures in
    let notional_line : c.notional.new.out.items ≡ c.count.new.out.items ++ node_text 5 notional =
    simp to_z-of_z at c.in_ok-notional.ensures in
    then_lines 5 (day_node (codes "unadjustedStartDate") x.start) (ending ∷ adjusted_start ∷ adjusted_end ∷ days
    ∷ notional ∷ []) c.args.out.now.items
    c.day.new.out.items c.notional.new.out.items c.in_ok-day.ensures
    (then_lines 5 ending (adjusted_start ∷ adjusted_end ∷ days ∷ notional ∷ []) c.day.new.out.items
    c.day-2.new.out.items
    c.notional.new.out.items c.in_ok-day-2.ensures
    (then_lines 5 adjusted_start (adjusted_end ∷ days ∷ notional ∷ []) c.day-2.new.out.items c.day-3.new.out.items
    c.notional.new.out.items
    c.in_ok-day-3.ensures
    (then_lines 5 adjusted_end (days ∷ notional ∷ []) c.day-3.new.out.items c.day-4.new.out.items
    c.notional.new.out.items c.in_ok-day-4.ensures
    (then_lines 5 days (notional ∷ []) c.day-4.new.out.items c.count.new.out.items c.notional.new.out.items days_line
    (one_line 5 notional c.count.new.out.items c.notional.new.out.items notional_line)))))
