use Rattle.std.proofs.Common.{length, arith}
use Rattle.irs_calendar.proofs.Halving.{few_steps, some_more}
use Rattle.irs_calendar.proofs.search.count_near.Goals as goal

pub returns-then-is_cut-clause-cost : goal.returns-then-is_cut-clause-cost
returns-then-is_cut-clause-cost g c =
    few_steps c.args.steps.now c.is_cut.new.steps (length c.args.runs.now) (omega (arith, c.is_cut.ensures.few))

pub returns-then-is_cut-2-clause-cost : goal.returns-then-is_cut-2-clause-cost
returns-then-is_cut-2-clause-cost g c =
    few_steps c.args.steps.now c.is_cut-2.new.steps (length c.args.runs.now)
    (omega (arith, c.is_cut.ensures.few, c.is_cut-2.ensures.few))

pub returns-clause-cost : goal.returns-clause-cost
returns-clause-cost g c =
    some_more c.args.steps.now c.is_cut-2.new.steps c.count_before.new.steps (length c.args.runs.now)
    (omega (arith, c.is_cut.ensures.rises, c.is_cut-2.ensures.rises))
    (omega (arith, c.is_cut.ensures.few, c.is_cut-2.ensures.few)) c.count_before.ensures.rises
    c.count_before.ensures.cost
