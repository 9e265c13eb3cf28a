use Rattle.std.proofs.Common.{◌-◌}
use Rattle.irs_daily.specs.ObservedRows.{IsFirstWithout}
use Rattle.irs_answers.specs.Tasks.{Accruing, accruing, DailyStream, source_in}
use Rattle.irs_answers.specs.Private.Outcomes.{daily_stream}
use Rattle.irs_answers.proofs.ObservedLemmas.{few, has_rows, has_span, kept_at, lawful_at, part_within, rising}
use Rattle.irs_answers.proofs.observing.rows_of.Goals as goal

pub part_at-part-requires-clause-high : goal.part_at-part-requires-clause-high
part_at-part-requires-clause-high c =
    let f = c.args.found.now in
    let d = c.requires.daily in
    part_within (accruing f.swap f.calendars.now f.fixings.now) f.schedule c.requires.made (c.args.number - 1)
    c.args.stream.now d.at

pub span_of-span-requires-clause-lawful : goal.span_of-span-requires-clause-lawful
span_of-span-requires-clause-lawful c =
    let f = c.args.found.now in
    lawful_at (accruing f.swap f.calendars.now f.fixings.now) f.schedule c.requires.made (c.args.number - 1) c.args.stream.now
    c.requires.daily.at

pub span_of-span-requires-clause-dates : goal.span_of-span-requires-clause-dates
span_of-span-requires-clause-dates c =
    let f = c.args.found.now in
    (kept_at (accruing f.swap f.calendars.now f.fixings.now) f.schedule c.requires.made (c.args.number - 1) c.args.stream.now
    c.requires.daily.at).dates

pub span_of-span-requires-clause-frequency : goal.span_of-span-requires-clause-frequency
span_of-span-requires-clause-frequency c =
    let f = c.args.found.now in
    (kept_at (accruing f.swap f.calendars.now f.fixings.now) f.schedule c.requires.made (c.args.number - 1) c.args.stream.now
    c.requires.daily.at).frequency

pub span_of-span-requires-clause-span : goal.span_of-span-requires-clause-span
span_of-span-requires-clause-span c =
    let f = c.args.found.now in
    has_span (accruing f.swap f.calendars.now f.fixings.now) f.schedule c.requires.made (c.args.number - 1) c.args.stream.now
    c.requires.daily.at c.part_at-part.result.now c.part_at-part.ensures

pub applicable_days-requires-clause-lawful : goal.applicable_days-requires-clause-lawful
applicable_days-requires-clause-lawful c =
    let f = c.args.found.now in
    lawful_at (accruing f.swap f.calendars.now f.fixings.now) f.schedule c.requires.made (c.args.number - 1) c.args.stream.now
    c.requires.daily.at

pub applicable_days-requires-clause-kept : goal.applicable_days-requires-clause-kept
applicable_days-requires-clause-kept c =
    let f = c.args.found.now in
    kept_at (accruing f.swap f.calendars.now f.fixings.now) f.schedule c.requires.made (c.args.number - 1) c.args.stream.now
    c.requires.daily.at

pub observed_rows-requires-clause-few : goal.observed_rows-requires-clause-few
observed_rows-requires-clause-few c =
    let f = c.args.found.now in
    rw c.adjusted.ensures.value (few (accruing f.swap f.calendars.now f.fixings.now) f.schedule c.requires.made
    (c.args.number - 1) c.args.stream.now c.requires.daily.at c.part_at-part.result.now c.part_at-part.ensures)

pub observed_rows-requires-clause-rising : goal.observed_rows-requires-clause-rising
observed_rows-requires-clause-rising c =
    let f = c.args.found.now in
    rw c.adjusted.ensures.value (rising (accruing f.swap f.calendars.now f.fixings.now) f.schedule c.requires.made
    (c.args.number - 1) c.args.stream.now c.requires.daily.at c.part_at-part.result.now c.part_at-part.ensures)

pub observed_rows-requires-clause-stubs : goal.observed_rows-requires-clause-stubs
observed_rows-requires-clause-stubs c =
    let f = c.args.found.now in
    (lawful_at (accruing f.swap f.calendars.now f.fixings.now) f.schedule c.requires.made (c.args.number - 1)
    c.args.stream.now c.requires.daily.at).stubs

pub unreachable-requires : goal.unreachable-requires
unreachable-requires c =
    let f = c.args.found.now in
    let x : Accruing = accruing f.swap f.calendars.now f.fixings.now in
    let y : DailyStream = daily_stream c.args.stream.now c.args.float.now c.args.parameters.now in
    let source = source_in f.calendars.now y c.span_of-span.result c.part_at-part.result.now in
    let first : IsFirstWithout source f.fixings.now c.in-Err-Broken.field-0-0 =
    rw (c.in-Err-Broken.field-0-is, c.in_ok-days.ensures, c.adjusted.ensures.value) at c.in-Err-Broken.ensures.meets in
    has_rows x f.schedule c.requires.made (c.args.number - 1) c.args.stream.now c.requires.daily.at
    c.part_at-part.result.now c.part_at-part.ensures c.args.float.now c.args.parameters.now c.requires.daily.pays
    c.requires.daily.has c.span_of-span.result c.span_of-span.ensures _ _ first.here
