use Rattle.std.proofs.Common.{◌≡◌, ◌<ℤ◌, ◌-◌, sym, subst, arith}
use Rattle.irs_base.specs.Lists.{day_at}
use Rattle.irs_overnight.specs.Overnight.{DerivedSource, derived_source, derived_period_at, period_fault}
use Rattle.irs_overnight.specs.Observations.{DailyPeriod, derived_period}
use Rattle.irs_overnight.specs.Private.Bounds.{FirstWay}
use Rattle.irs_overnight.proofs.RowLemmas.{day_read, in_order}
use Rattle.irs_overnight.proofs.periods.period_row.Goals as goal

pub period_rate-requires-clause-order : goal.period_rate-requires-clause-order
period_rate-requires-clause-order g c =
    let adjusted = c.args.part.now.adjusted in
    let value = c.adjusted-adjusted.ensures.value in
    let start : day_at adjusted (c.args.number - 1) ≡ c.index-adjusted-number.result =
    day_read adjusted (c.args.number - 1) c.index-adjusted-number.result (omega (arith, c.requires.period))
    (rw value at c.index-adjusted-number.is) in
    let end : day_at adjusted c.args.number ≡ c.index-adjusted-number-2.result =
    day_read adjusted c.args.number c.index-adjusted-number-2.result (omega (arith, c.requires.period))
    (rw value at c.index-adjusted-number-2.is) in
    let order : day_at adjusted (c.args.number - 1) <ℤ day_at adjusted c.args.number =
    in_order adjusted c.args.number c.adjusted-adjusted.ensures.bounds.adjusted_rises c.requires.period in
    rw (sym start, sym end) order

pub returns-in-Err-Broken-clause-broken : goal.returns-in-Err-Broken-clause-broken
returns-in-Err-Broken-clause-broken g c =
    let source : DerivedSource =
    derived_source c.args.part.now c.args.index.now (g.G.GoodDays.days c.args.days.now) c.args.daily.now in
    let adjusted = c.args.part.now.adjusted in
    let value = c.adjusted-adjusted.ensures.value in
    let start : day_at adjusted (c.args.number - 1) ≡ c.index-adjusted-number.result =
    day_read adjusted (c.args.number - 1) c.index-adjusted-number.result (omega (arith, c.requires.period))
    (rw value at c.index-adjusted-number.is) in
    let end : day_at adjusted c.args.number ≡ c.index-adjusted-number-2.result =
    day_read adjusted c.args.number c.index-adjusted-number-2.result (omega (arith, c.requires.period))
    (rw value at c.index-adjusted-number-2.is) in
    let same : derived_period_at source c.args.basis c.args.number
    ≡ derived_period c.args.basis source.lines source.days c.index-adjusted-number.result
    c.index-adjusted-number-2.result =
    (λ t. derived_period c.args.basis source.lines source.days (start t) (end t)) in
    let first : FirstWay
    (derived_period c.args.basis source.lines source.days c.index-adjusted-number.result
    c.index-adjusted-number-2.result) c.in-Err-Broken.why =
    rw c.in-Err-Broken.field-0-is at c.in-Err-Broken.ensures.broken in
    let named : c.broken_by.result ≡ period_fault c.in-Err-Broken.why c.args.number =
    (let is = c.in-Err-Broken.why-is in let e = c.broken_by.ensures in cc (is, e)) in
    (c.in-Err-Broken.why, subst (λ (p : DailyPeriod). FirstWay p c.in-Err-Broken.why) (sym same) first, named)
