use Rattle.std.proofs.Common.{◌≡◌, ◌-◌, Some}
use Rattle.std.specs.Prelude.{slice_get}
use Rattle.irs_base.specs.Outcomes.{First}
use Rattle.irs_overnight.specs.Overnight.{BreaksDerived, derived_before, OvernightAsked, HasSource, asked}
use Rattle.irs_overnight.specs.Overnight.{DerivedSource, derived_source}
use Rattle.irs_overnight.proofs.SourceLemmas.{asked_place, has_source, overnight_broken, overnight_kept, overnight_rows}
use Rattle.irs_overnight.proofs.SourceLemmas.{part_floats, part_read}
use Rattle.irs_overnight.proofs.compounding.numbered_rows.Goals as goal

pub unreachable-requires : goal.unreachable-requires
unreachable-requires g c = c.in_default.ensures.none c.requires.floats.0 c.requires.floats.1

pub bounds-streams-stream : goal.bounds-streams-stream
bounds-streams-stream g c =
    let a : OvernightAsked =
    asked c.args.swap.now c.args.stream c.args.s.now (g.G.GoodDays.days c.args.days.now) c.args.daily.now in
    rw c.streams.ensures.value (asked_place a c.requires).1

pub derived_rows-requires : goal.derived_rows-requires
derived_rows-requires g c =
    let a : OvernightAsked =
    asked c.args.swap.now c.args.stream c.args.s.now (g.G.GoodDays.days c.args.days.now) c.args.daily.now in
    let part = c.index-streams-stream.result in
    let at : slice_get c.args.s.now (c.args.stream - 1) ≡ Some part =
    part_read c.args.s.now c.streams.result.now (c.args.stream - 1) part c.streams.ensures.value
    (asked_place a c.requires).1 c.index-streams-stream.is in
    record { floating = part_floats a c.requires part at }

pub returns-in-Ok-clause-ok : goal.returns-in-Ok-clause-ok
returns-in-Ok-clause-ok g c =
    let a : OvernightAsked =
    asked c.args.swap.now c.args.stream c.args.s.now (g.G.GoodDays.days c.args.days.now) c.args.daily.now in
    let part = c.index-streams-stream.result in
    let at : slice_get c.args.s.now (c.args.stream - 1) ≡ Some part =
    part_read c.args.s.now c.streams.result.now (c.args.stream - 1) part c.streams.ensures.value
    (asked_place a c.requires).1 c.index-streams-stream.is in
    let source : DerivedSource = derived_source part c.in-Some.float.now.index a.days a.rates in
    let has : HasSource a source = has_source a c.requires c.in-Some.float.now c.in-Some.ensures.some part at in
    overnight_rows a source has c.in-Ok.rows c.in-Ok.ensures.ok

pub returns-in-Ok-clause-kept : goal.returns-in-Ok-clause-kept
returns-in-Ok-clause-kept g c =
    let a : OvernightAsked =
    asked c.args.swap.now c.args.stream c.args.s.now (g.G.GoodDays.days c.args.days.now) c.args.daily.now in
    let part = c.index-streams-stream.result in
    let at : slice_get c.args.s.now (c.args.stream - 1) ≡ Some part =
    part_read c.args.s.now c.streams.result.now (c.args.stream - 1) part c.streams.ensures.value
    (asked_place a c.requires).1 c.index-streams-stream.is in
    let source : DerivedSource = derived_source part c.in-Some.float.now.index a.days a.rates in
    let has : HasSource a source = has_source a c.requires c.in-Some.float.now c.in-Some.ensures.some part at in
    overnight_kept a source has c.in-Ok.ensures.kept

pub returns-in-Err-Broken-clause-broken : goal.returns-in-Err-Broken-clause-broken
returns-in-Err-Broken-clause-broken g c =
    let a : OvernightAsked =
    asked c.args.swap.now c.args.stream c.args.s.now (g.G.GoodDays.days c.args.days.now) c.args.daily.now in
    let part = c.index-streams-stream.result in
    let at : slice_get c.args.s.now (c.args.stream - 1) ≡ Some part =
    part_read c.args.s.now c.streams.result.now (c.args.stream - 1) part c.streams.ensures.value
    (asked_place a c.requires).1 c.index-streams-stream.is in
    let source : DerivedSource = derived_source part c.in-Some.float.now.index a.days a.rates in
    let has : HasSource a source = has_source a c.requires c.in-Some.float.now c.in-Some.ensures.some part at in
    let first : First derived_before (BreaksDerived source) c.in-Err-Broken.fault =
    rw c.in-Err-Broken.field-0-is at c.in-Err-Broken.ensures.broken in
    overnight_broken a source has c.in-Err-Broken.fault c.in_stream.result first c.in_stream.ensures
