use Rattle.std.proofs.Common.{sym, ◌∙◌, arith}
use Rattle.irs_calendar.specs.Private.Closed.{begins_or_ends_before}
use Rattle.irs_calendar.proofs.Halving.{cut_here, false_from_not}
use Rattle.irs_calendar.proofs.search.is_cut.Goals as goal

pub returns-then-is_before-clause-place : goal.returns-then-is_before-clause-place
returns-then-is_before-clause-place g c = λ is.
    cut_here (begins_or_ends_before c.args.end c.args.d) c.args.runs.now c.args.place c.read-before.result c.read-run.result
    c.requires (omega arith) c.read-before.ensures.run c.read-run.ensures.run
    (sym c.is_before.ensures ∙ c.if-is_before.true)
    (sym c.is_before-then-is_before.ensures ∙ false_from_not c.is_before-then-is_before.result is)
