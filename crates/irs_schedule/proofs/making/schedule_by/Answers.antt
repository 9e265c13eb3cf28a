use Rattle.std.proofs.Common.{◌≡◌, ◌≤◌, [], length, refl, rules}
use Rattle.std.proofs.lemmas.Option.{slice_get_read}
use Rattle.irs_base.proofs.HandedAnswers.{handed_on}
use Rattle.irs_base.proofs.Outcomes.{stopped_meets}
use Rattle.irs_schedule.specs.DaySets.{stream_sets}
use Rattle.irs_schedule.specs.Schedules.{schedule_of}
use Rattle.irs_schedule.specs.Private.Layouts.{sets_of}
use Rattle.irs_schedule.proofs.MakingLemmas.{made_all, made_broken, made_more, made_none, sets_same}
use Rattle.irs_schedule.proofs.making.schedule_by.Goals as goal

pub stream_days-days-requires : goal.stream_days-days-requires
stream_days-days-requires c =
    let read = slice_get_read c.as_slice-stream-items.result.now (length c.as_slice-stream-items.result.now) c.loop-i.i
    c.stream-item.result refl c.loop-i-test.true c.stream-item.is in
    c.requires.table.streams c.loop-i.i c.stream-item.result (rw c.as_slice-stream-items.ensures at read)

pub numbered_part-requires-clause-kept : goal.numbered_part-requires-clause-kept
numbered_part-requires-clause-kept c =
    let read = slice_get_read c.as_slice-stream-items.result.now (length c.as_slice-stream-items.result.now) c.loop-i.i
    c.stream-item.result refl c.loop-i-test.true c.stream-item.is in (
      c.args.table.now.sections,
      c.requires.kept c.loop-i.i c.stream-item.result (rw c.as_slice-stream-items.ensures at read),
    )

pub loop-i-init : goal.loop-i-init
loop-i-init c =
    let empty : c.new-parts.result.items ≡ [] = search rules in
    rw empty (made_none c.args.swap.now c.args.table.now.sections c.args.fix.now)

pub loop-i-preserved : goal.loop-i-preserved
loop-i-preserved c =
    let read = slice_get_read c.as_slice-stream-items.result.now (length c.as_slice-stream-items.result.now) c.loop-i.i
    c.stream-item.result refl c.loop-i-test.true c.stream-item.is in
    let cal = c.args.table.now.sections in
    let s = c.stream-item.result in
    let days = c.stream_days-days.ensures in
    let same = sets_same (sets_of c.stream_days-days.result) (stream_sets cal s) days.start days.end days.middle
    days.payment days.reset days.fixing days.applicable in
    rw c.in_ok-push.ensures.items (made_more c.args.swap.now cal c.args.fix.now c.loop-i.i c.loop-i.parts.items s
    (rw c.as_slice-stream-items.ensures at read) c.loop-i.invariant (sets_of c.stream_days-days.result) same
    c.in_ok-part.part c.in_ok-part.ensures.meets c.in_ok-part.ensures.bounds)

pub returns-in_err-part : goal.returns-in_err-part
returns-in_err-part c =
    let read = slice_get_read c.as_slice-stream-items.result.now (length c.as_slice-stream-items.result.now) c.loop-i.i
    c.stream-item.result refl c.loop-i-test.true c.stream-item.is in
    let cal = c.args.table.now.sections in
    let s = c.stream-item.result in
    let days = c.stream_days-days.ensures in
    let same = sets_same (sets_of c.stream_days-days.result) (stream_sets cal s) days.start days.end days.middle
    days.payment days.reset days.fixing days.applicable in
    let spec = schedule_of c.args.swap.now cal c.args.fix.now in
    let e = c.in_err-part.field-0.0 in
    stopped_meets spec c.from_residual.result e c.from_residual.ensures.1
    (handed_on e _ spec.Refuses
    (made_broken c.args.swap.now cal c.args.fix.now c.loop-i.i c.loop-i.parts.items s
    (rw c.as_slice-stream-items.ensures at read) c.loop-i.invariant (sets_of c.stream_days-days.result) same)
    c.in_err-part.ensures.meets)

pub returns : goal.returns
returns c =
    let all : length c.args.swap.now.streams ≤ c.loop-i.i = rw c.as_slice-stream-items.ensures at c.loop-i-test.false in
    rw c.of_parts.ensures (made_all c.args.swap.now c.args.table.now.sections c.args.fix.now c.loop-i.i
    c.loop-i.parts.items all c.loop-i.invariant)
