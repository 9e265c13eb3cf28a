use Rattle.std.proofs.Common.{List, inl, refl, ap, subst, ◌∙◌}
use Rattle.irs_calendar.specs.GoodDays.{DaySet}
use Rattle.irs_schedule.specs.DaySets.{reset_days}
use Rattle.irs_overnight.specs.Texts.{file_text}
use Rattle.irs_overnight.specs.Overnight.{asked}
use Rattle.irs_average.specs.Averages.{IsAverage, IsFirstOfAverage, averaged}
use Rattle.irs_average.proofs.AverageLemmas.{one_average}
use Rattle.irs_answers.specs.Derived.{FloatingStream, average_of, averaged_of}
use Rattle.irs_overnight.specs.declared.derived.DerivedRow.{DerivedRow}
use Rattle.irs_answers.specs.Due.{of_stopped}
use Rattle.irs_answers.specs.Messages.{broken_rule}
use Rattle.irs_answers.proofs.DerivedLemmas.{float_lawful, overnight_asked, printed_by, refuse_stopped, stream_kept}
use Rattle.irs_answers.proofs.StepLemmas.{replied_by}
use Rattle.irs_answers.proofs.UnreadLemmas.{placed_by, stopped_placed}
use Rattle.irs_answers.proofs.derived.average_answer.Goals as goal

pub reset_days-requires-clause-kept : goal.reset_days-requires-clause-kept
reset_days-requires-clause-kept c =
    let f = c.args.found.now in
    let x : FloatingStream = record { stream = c.in_ok-stream.stream.now; float = c.in_ok-stream.float.now } in
    stream_kept f.swap f.calendars.now f.schedule c.requires.unfixed c.args.number x c.in_ok-stream.ensures.floats

pub average-requires : goal.average-requires
average-requires c =
    let f = c.args.found.now in
    let x : FloatingStream = record { stream = c.in_ok-stream.stream.now; float = c.in_ok-stream.float.now } in
    record {
      stream =
          overnight_asked f.swap f.calendars.now f.schedule c.requires.unfixed c.args.number x
          c.in_ok-stream.ensures.floats _
          f.fixings.now c.in_ok-days.ensures;
      some = c.requires.some;
      few = c.requires.few;
    }

pub returns-in_err-rows-clause-placed : goal.returns-in_err-rows-clause-placed
returns-in_err-rows-clause-placed c =
    let made = c.from_residual-in_err-rows in
    let e = c.in_err-rows.field-0.0 in
    λ document flows. placed_by document flows made.result (of_stopped e) made.ensures.0 made.ensures.1
    (stopped_placed document flows e)

pub returns-in_err-rows-clause-meets : goal.returns-in_err-rows-clause-meets
returns-in_err-rows-clause-meets c =
    let f = c.args.found.now in
    let n = c.args.number in
    let x : FloatingStream = record { stream = c.in_ok-stream.stream.now; float = c.in_ok-stream.float.now } in
    let made = c.from_residual-in_err-rows in
    let e = c.in_err-rows.field-0.0 in
    let due = λ (d : DaySet). averaged (asked f.swap n f.schedule d f.fixings.now) c.args.mean c.args.step in
    replied_by (average_of n c.args.mean c.args.step f.swap f.calendars.now f.fixings.now f.schedule) made.result
    (of_stopped e) made.ensures.0 made.ensures.1
    (refuse_stopped f.swap n (λ y. averaged_of (due (reset_days f.calendars.now y.stream)) y.float) x
    c.in_ok-stream.ensures.floats (IsFirstOfAverage _) e c.in_err-rows.ensures.broken
    (λ b first. subst (λ (d : DaySet). (averaged_of (due d) x.float).Refuses (broken_rule b)) c.in_ok-days.ensures
    (inl (b, first, refl))))

pub fixings_page-requires : goal.fixings_page-requires
fixings_page-requires c =
    let f = c.args.found.now in
    let x : FloatingStream = record { stream = c.in_ok-stream.stream.now; float = c.in_ok-stream.float.now } in
    (float_lawful f.swap f.calendars.now f.schedule c.requires.unfixed c.args.number x
    c.in_ok-stream.ensures.floats).index.1

pub returns-clause-meets : goal.returns-clause-meets
returns-clause-meets c =
    let f = c.args.found.now in
    let x : FloatingStream = record { stream = c.in_ok-stream.stream.now; float = c.in_ok-stream.float.now } in
    let due = λ (d : DaySet). averaged (asked f.swap c.args.number f.schedule d f.fixings.now) c.args.mean c.args.step in
    let made = c.in_ok-rows.ensures in
    let text = c.in_ok-text.text.items in
    let line = ap (λ (l : List DerivedRow). file_text l x.float.tenor x.float.index) c.as_slice.ensures in
    let rows = printed_by (IsAverage _) x.float c.in_ok-rows.rows text made.ok (one_average _ c.bounds.ensures.each)
    (c.in_ok-text.ensures ∙ line) in (
      x,
      c.in_ok-stream.ensures.floats,
      subst (λ (d : DaySet). (averaged_of (due d) x.float).Answers (0, text)) c.in_ok-days.ensures (tt, made.kept, rows),
    )
