use Rattle.std.proofs.Common.{arith, ◌-◌}
use Rattle.irs_unfixed.specs.Unfixed.{MadeFrom, made_from}
use Rattle.irs_unfixed.proofs.MissingLemmas.{is_gap, is_read, last_few, lies, not_rated, part_low, payment_lacks}
use Rattle.irs_unfixed.proofs.MissingLemmas.{payment_low, read_at, stream_low}
use Rattle.irs_unfixed.proofs.missing.missing_at.Goals as goal

pub bounds-as_slice-index : goal.bounds-as_slice-index
bounds-as_slice-index c =
    let x : MadeFrom = made_from c.args.swap.now c.args.calendars.now c.args.fixings.now in
    rw c.as_slice.ensures (stream_low x c.args.schedule.now c.requires.made c.args.place c.requires.unfixed)

pub bounds-streams-index : goal.bounds-streams-index
bounds-streams-index c =
    let x : MadeFrom = made_from c.args.swap.now c.args.calendars.now c.args.fixings.now in
    rw c.streams.ensures.value (part_low x c.args.schedule.now c.requires.made c.args.place c.requires.unfixed)

pub bounds-payments-place : goal.bounds-payments-place
bounds-payments-place c =
    let x : MadeFrom = made_from c.args.swap.now c.args.calendars.now c.args.fixings.now in
    let h = c.requires.made in
    let u = c.args.place in
    let parts = c.args.schedule.now in
    let p = c.index-streams-index.result in
    let part = read_at parts c.streams.result.now (u.stream - 1) p c.streams.ensures.value
    (part_low x parts h u c.requires.unfixed) c.index-streams-index.is in
    rw c.payments.ensures.value (payment_low x parts h u c.requires.unfixed p part)

pub first_unrated-requires-clause-low : goal.first_unrated-requires-clause-low
first_unrated-requires-clause-low c =
    let x : MadeFrom = made_from c.args.swap.now c.args.calendars.now c.args.fixings.now in
    let h = c.requires.made in
    let u = c.args.place in
    let parts = c.args.schedule.now in
    let p = c.index-streams-index.result in
    let y = c.index-payments-place.result in
    let is = is_read x parts h u c.requires.unfixed c.streams.result.now c.streams.ensures.value p
    c.index-streams-index.is c.payments.result.now c.payments.ensures.value y c.index-payments-place.is in
    let low = (lies x parts h u c.requires.unfixed p is.part c.streams.ensures.bounds y is.payment).from in
    omega (arith, low)

pub first_unrated-requires-clause-high : goal.first_unrated-requires-clause-high
first_unrated-requires-clause-high c =
    let x : MadeFrom = made_from c.args.swap.now c.args.calendars.now c.args.fixings.now in
    let h = c.requires.made in
    let u = c.args.place in
    let parts = c.args.schedule.now in
    let p = c.index-streams-index.result in
    let y = c.index-payments-place.result in
    let is = is_read x parts h u c.requires.unfixed c.streams.result.now c.streams.ensures.value p
    c.index-streams-index.is c.payments.result.now c.payments.ensures.value y c.index-payments-place.is in
    last_few x parts h u c.requires.unfixed p is.part
    c.streams.ensures.bounds y is.payment

pub unreachable-requires : goal.unreachable-requires
unreachable-requires c =
    let x : MadeFrom = made_from c.args.swap.now c.args.calendars.now c.args.fixings.now in
    let h = c.requires.made in
    let u = c.args.place in
    let parts = c.args.schedule.now in
    let p = c.index-streams-index.result in
    let y = c.index-payments-place.result in
    let s = c.index-as_slice-index.result in
    let is = is_read x parts h u c.requires.unfixed c.streams.result.now c.streams.ensures.value p
    c.index-streams-index.is c.payments.result.now c.payments.ensures.value y c.index-payments-place.is in
    let stream = read_at x.swap.streams c.as_slice.result.now (u.stream - 1) s c.as_slice.ensures
    (stream_low x parts h u c.requires.unfixed) c.index-as_slice-index.is in
    not_rated x parts h u c.requires.unfixed p is.part c.streams.ensures.bounds y is.payment s stream c.in_default.ensures

pub needed_fixing-requires : goal.needed_fixing-requires
needed_fixing-requires c =
    let x : MadeFrom = made_from c.args.swap.now c.args.calendars.now c.args.fixings.now in
    let h = c.requires.made in
    let u = c.args.place in
    let parts = c.args.schedule.now in
    let p = c.index-streams-index.result in
    let y = c.index-payments-place.result in
    let s = c.index-as_slice-index.result in
    let is = is_read x parts h u c.requires.unfixed c.streams.result.now c.streams.ensures.value p
    c.index-streams-index.is c.payments.result.now c.payments.ensures.value y c.index-payments-place.is in
    let stream = read_at x.swap.streams c.as_slice.result.now (u.stream - 1) s c.as_slice.ensures
    (stream_low x parts h u c.requires.unfixed) c.index-as_slice-index.is in
    is_gap x parts h u c.requires.unfixed p is.part c.streams.ensures.bounds y is.payment s stream c.in-Some.number
    c.in-Some.ensures.0

pub returns-in-Ok-clause-lacks : goal.returns-in-Ok-clause-lacks
returns-in-Ok-clause-lacks c =
    let x : MadeFrom = made_from c.args.swap.now c.args.calendars.now c.args.fixings.now in
    let h = c.requires.made in
    let u = c.args.place in
    let parts = c.args.schedule.now in
    let p = c.index-streams-index.result in
    let y = c.index-payments-place.result in
    let s = c.index-as_slice-index.result in
    let is = is_read x parts h u c.requires.unfixed c.streams.result.now c.streams.ensures.value p
    c.index-streams-index.is c.payments.result.now c.payments.ensures.value y c.index-payments-place.is in
    let stream = read_at x.swap.streams c.as_slice.result.now (u.stream - 1) s c.as_slice.ensures
    (stream_low x parts h u c.requires.unfixed) c.index-as_slice-index.is in
    payment_lacks x parts h u c.requires.unfixed p is.part c.streams.ensures.bounds y is.payment s stream c.in-Some.number
    c.in-Some.ensures
    (record { index = c.in-Ok.needed.index.now; tenor = c.in-Ok.needed.tenor; day = c.in-Ok.needed.day })
    c.in-Ok.ensures
