use Rattle.std.proofs.Common.{Some, ℤ, ◌<ℤ◌, ◌≤ℤ◌, sym, subst, ap}
use Rattle.std.proofs.lemmas.Result.{IfOk-weaker}
use Rattle.irs_base.proofs.Orders.{le_false, le_true}
use Rattle.irs_base.specs.declared.line.Dec.{Dec}
use Rattle.irs_calendar.specs.GoodDays.{DaySet}
use Rattle.irs_terms.specs.Lawful.{decimals_of}
use Rattle.irs_observed.proofs.PeriodLemmas.{one_shift}
use Rattle.irs_accrue.specs.DailyAccruals.{AccruesDaily, DailyTerms, EarnsBefore, before_first, daily_terms, observing}
use Rattle.irs_accrue.proofs.daily.amount_after.Goals as goal

pub returns-then-le : goal.returns-then-le
returns-then-le g c =
    let run = c.in-Some.run' in
    let none : run.to ≤ℤ run.from = le_true run.to run.from (sym (c.if-le.ensures {u = tt})) in
    before_first c.requires.after run.from run.to c.in-Some.ensures.some none
    (ap (λ (v : Dec). Some v) c.nothing.ensures)

pub earned_before-requires-clause-begun : goal.earned_before-requires-clause-begun
earned_before-requires-clause-begun g c = λ a shifts.
    let run = c.in-Some.run' in
    let set : DaySet = g.G.GoodDays.days c.args.applicable.now in
    let some : run.from <ℤ run.to = le_false run.to run.from (sym (c.if-le.ensures {u = tt})) in
    let same = one_shift c.args.parameters.now.offset set c.args.period.now.adjusted_start a run.from shifts
    c.in-Some.ensures.some.from in
    subst (λ (x : ℤ). x <ℤ run.to) (sym same) some

pub returns : goal.returns
returns g c =
    let run = c.in-Some.run' in
    let set : DaySet = g.G.GoodDays.days c.args.applicable.now in
    let t : DailyTerms = daily_terms c.args.leg.now c.args.code c.args.float.now c.args.parameters.now set
    c.args.fixings.now in
    let places = decimals_of c.args.currency.letters in
    let some : run.from <ℤ run.to = le_false run.to run.from (sym (c.if-le.ensures {u = tt})) in
    IfOk-weaker c.earned_before.result (EarnsBefore t places c.args.period.now run.to c.args.frac)
    (AccruesDaily t places c.args.period.now c.args.d c.args.frac)
    (λ v earns. observing c.requires.after run.from run.to c.in-Some.ensures.some some earns) c.earned_before.ensures
