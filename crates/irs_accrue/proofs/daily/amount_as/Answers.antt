use Rattle.std.proofs.Common.{inr}
use Rattle.std.proofs.lemmas.Result.{IfOk-weaker}
use Rattle.irs_calendar.specs.GoodDays.{DaySet}
use Rattle.irs_terms.specs.Lawful.{decimals_of}
use Rattle.irs_accrue.specs.DailyAccruals.{AccruesAs, AccruesDaily, DailyTerms, daily_terms}
use Rattle.irs_accrue.proofs.daily.amount_as.Goals as goal

pub returns-in-None : goal.returns-in-None
returns-in-None g c =
    let s = c.args.s.now in
    let set : DaySet = g.G.GoodDays.days c.args.applicable.now in
    let t : DailyTerms = daily_terms s.leg s.day_count c.args.float.now c.args.parameters.now set c.args.fixings.now in
    let places = decimals_of c.args.currency.letters in
    IfOk-weaker c.daily_amount.result (AccruesDaily t places c.args.period.now c.args.d c.args.frac)
    (AccruesAs t s.stubs c.args.kind places c.args.period.now c.args.d c.args.frac)
    (λ v accrues. inr (c.in-None.ensures.none, accrues)) c.daily_amount.ensures
