use Rattle.std.proofs.Common.{◌≡◌, ◌-◌, Some}
use Rattle.std.specs.Prelude.{slice_get}
use Rattle.irs_base.specs.Outcomes.{First}
use Rattle.irs_overnight.specs.Overnight.{derived_before, asked}
use Rattle.irs_overnight.proofs.SourceLemmas.{asked_place, part_floats, part_read}
use Rattle.irs_average.specs.Averages.{AverageAsked, HasMeanSource, averaged, BreaksMeans, MeanSource}
use Rattle.irs_average.proofs.AverageLemmas.{average_broken, average_kept, average_rows, has_mean_source, source_with}
use Rattle.irs_average.proofs.averaging.numbered_means.Goals as goal

pub unreachable-requires : goal.unreachable-requires
unreachable-requires g c = c.in_default.ensures.none c.requires.stream.floats.0 c.requires.stream.floats.1

pub bounds-streams-stream : goal.bounds-streams-stream
bounds-streams-stream g c =
    let a : AverageAsked =
    averaged (asked c.args.swap.now c.args.stream c.args.s.now (g.G.GoodDays.days c.args.days.now) c.args.fix.now)
    c.args.kind c.args.step in
    rw c.streams.ensures.value (asked_place a.of c.requires.stream).1

pub averages-requires-clause-floating : goal.averages-requires-clause-floating
averages-requires-clause-floating g c =
    let a : AverageAsked =
    averaged (asked c.args.swap.now c.args.stream c.args.s.now (g.G.GoodDays.days c.args.days.now) c.args.fix.now)
    c.args.kind c.args.step in
    let part = c.index-streams-stream.result in
    let at : slice_get c.args.s.now (c.args.stream - 1) ≡ Some part =
    part_read c.args.s.now c.streams.result.now (c.args.stream - 1) part c.streams.ensures.value
    (asked_place a.of c.requires.stream).1 c.index-streams-stream.is in
    part_floats a.of c.requires.stream part at

pub returns-in-Ok-clause-ok : goal.returns-in-Ok-clause-ok
returns-in-Ok-clause-ok g c =
    let a : AverageAsked =
    averaged (asked c.args.swap.now c.args.stream c.args.s.now (g.G.GoodDays.days c.args.days.now) c.args.fix.now)
    c.args.kind c.args.step in
    let part = c.index-streams-stream.result in
    let at : slice_get c.args.s.now (c.args.stream - 1) ≡ Some part =
    part_read c.args.s.now c.streams.result.now (c.args.stream - 1) part c.streams.ensures.value
    (asked_place a.of c.requires.stream).1 c.index-streams-stream.is in
    let source : MeanSource = source_with a part c.in-Some.float.now in
    let has : HasMeanSource a source = has_mean_source a c.in-Some.float.now c.in-Some.ensures.some part at in
    average_rows a source has c.in-Ok.rows c.in-Ok.ensures.ok

pub returns-in-Ok-clause-kept : goal.returns-in-Ok-clause-kept
returns-in-Ok-clause-kept g c =
    let a : AverageAsked =
    averaged (asked c.args.swap.now c.args.stream c.args.s.now (g.G.GoodDays.days c.args.days.now) c.args.fix.now)
    c.args.kind c.args.step in
    let part = c.index-streams-stream.result in
    let at : slice_get c.args.s.now (c.args.stream - 1) ≡ Some part =
    part_read c.args.s.now c.streams.result.now (c.args.stream - 1) part c.streams.ensures.value
    (asked_place a.of c.requires.stream).1 c.index-streams-stream.is in
    let source : MeanSource = source_with a part c.in-Some.float.now in
    let has : HasMeanSource a source = has_mean_source a c.in-Some.float.now c.in-Some.ensures.some part at in
    average_kept a source has c.in-Ok.ensures.kept

pub returns-in-Err-Broken-clause-broken : goal.returns-in-Err-Broken-clause-broken
returns-in-Err-Broken-clause-broken g c =
    let a : AverageAsked =
    averaged (asked c.args.swap.now c.args.stream c.args.s.now (g.G.GoodDays.days c.args.days.now) c.args.fix.now)
    c.args.kind c.args.step in
    let part = c.index-streams-stream.result in
    let at : slice_get c.args.s.now (c.args.stream - 1) ≡ Some part =
    part_read c.args.s.now c.streams.result.now (c.args.stream - 1) part c.streams.ensures.value
    (asked_place a.of c.requires.stream).1 c.index-streams-stream.is in
    let source : MeanSource = source_with a part c.in-Some.float.now in
    let has : HasMeanSource a source = has_mean_source a c.in-Some.float.now c.in-Some.ensures.some part at in
    let first : First derived_before (BreaksMeans source) c.in-Err-Broken.fault =
    rw c.in-Err-Broken.field-0-is at c.in-Err-Broken.ensures.broken in
    average_broken a source has c.in-Err-Broken.fault c.in_stream.result first c.in_stream.ensures
