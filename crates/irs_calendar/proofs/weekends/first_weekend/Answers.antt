use Rattle.std.proofs.Common.{ℕ, ◌+◌, ◌%◌, sym, subst}
use Rattle.irs_calendar.specs.Private.Closed.{IsWeekend}
use Rattle.irs_calendar.proofs.CoverLemmas.{sections_at}
use Rattle.irs_calendar.proofs.ClosedLemmas.{weekend_none, weekend_first}
use Rattle.irs_calendar.proofs.weekends.first_weekend.Goals as goal

pub returns-then-free-eq7 : goal.returns-then-free-eq7
returns-then-free-eq7 c =
    weekend_none (sections_at c.args.sections.now) c.args.first c.args.limit c.weekday_place-place.result
    c.stretch-free.result c.weekday_place-place.ensures.place c.weekday_place-place.ensures.range
    c.stretch-free.ensures c.if-free-eq7.true

pub returns : goal.returns
returns c =
    subst (λ (n : ℕ). IsWeekend (sections_at c.args.sections.now) c.args.first c.args.limit 0
    (record { day = n; place = (c.weekday_place-place.result + c.stretch-free.result) % 7 })) (sym c.from.ensures)
    (weekend_first (sections_at c.args.sections.now) c.args.first c.args.limit c.weekday_place-place.result
    c.stretch-free.result c.weekday_place-place.ensures.place c.stretch-free.ensures c.if-free-eq7.false)
