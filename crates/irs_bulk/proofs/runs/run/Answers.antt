use Rattle.std.proofs.Common.{inl, inr, arith}
use Rattle.irs_answers.specs.Due.{Ends}
use Rattle.irs_answers.proofs.StepLemmas.{answered_by, refusal_ends}
use Rattle.irs_bulk.specs.BulkRuns.{DueBulk, totals_to}
use Rattle.irs_bulk.proofs.runs.run.Goals as goal

pub returns-in_err-totals : goal.returns-in_err-totals
returns-in_err-totals c =
    let made = c.from_residual in
    let n = c.args.n in
    let e = c.in_err-totals.field-0.0 in
    answered_by made.result e (Ends (DueBulk n)) made.ensures.0 made.ensures.1
    (refusal_ends e (totals_to n).Refuses (DueBulk n) (λ status text k. inr (inl k)) c.in_err-totals.ensures.meets)

pub returns : goal.returns
returns c =
    let text = c.in_ok-line.ensures in
    record {
      due = inl (c.in_ok-totals.totals, c.in_ok-totals.ensures.meets, (λ i. (0, text i)));
      verdict = omega arith;
    }
