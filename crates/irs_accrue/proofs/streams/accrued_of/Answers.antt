use Rattle.std.proofs.lemmas.Result.{IfOk-weaker}
use Rattle.irs_calendar.specs.GoodDays.{DaySet}
use Rattle.irs_accrue.specs.Accruals.{AccrualHasPlaces}
use Rattle.irs_accrue.specs.DailyAccruals.{IsAccrualWith}
use Rattle.irs_accrue.proofs.Places.{floating_places}
use Rattle.irs_accrue.proofs.streams.accrued_of.Goals as goal

pub returns-in-Floating-clause-places : goal.returns-in-Floating-clause-places
returns-in-Floating-clause-places g c =
    let float = c.in-Floating.float in
    let s = c.args.s.now in
    let set : DaySet = g.G.GoodDays.days c.args.applicable.now in
    let fixings = c.args.fixings.now in
    let p = c.args.part.now in
    IfOk-weaker c.floating_accrued.result (IsAccrualWith float.parameters float s set fixings p c.args.d) AccrualHasPlaces
    (λ a h. floating_places float.parameters float s set fixings p c.args.d a h) c.floating_accrued.ensures.accrual
