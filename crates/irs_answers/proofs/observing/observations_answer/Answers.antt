use Rattle.irs_answers.specs.Tasks.{Accruing, accruing, DailyStream}
use Rattle.irs_answers.specs.Private.Outcomes.{daily_stream}
use Rattle.irs_answers.proofs.ObservedLemmas.{only_rows}
use Rattle.irs_answers.proofs.observing.observations_answer.Goals as goal

pub returns-clause-meets : goal.returns-clause-meets
returns-clause-meets c =
    let f = c.args.found.now in
    let x : Accruing = accruing f.swap f.calendars.now f.fixings.now in
    let y : DailyStream =
    daily_stream c.in_ok-stream.stream.now c.in_ok-stream.float.now c.in_ok-stream.parameters.now in
    let only = only_rows c.args.number x f.schedule y c.in_ok-rows.rows c.in_ok-rows.ensures in
    (y, c.in_ok-stream.ensures.some, (c.in_ok-rows.rows, only, (λ i. (0, c.in_ok-text.ensures i))))
