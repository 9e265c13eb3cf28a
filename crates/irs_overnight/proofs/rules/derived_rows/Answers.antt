use Rattle.std.proofs.Common.{◌≡◌, ℕ, Some, sym}
use Rattle.std.proofs.lemmas.Result.{IfOk-weaker}
use Rattle.irs_base.specs.Outcomes.{First}
use Rattle.irs_base.proofs.HandedAnswers.{handed_back}
use Rattle.irs_overnight.specs.Overnight.{DerivedSource, derived_source, BreaksDerived, BreaksPeriod, FixingNotAfter}
use Rattle.irs_overnight.specs.Overnight.{derived_before}
use Rattle.irs_overnight.specs.Observations.{basis_of}
use Rattle.irs_overnight.proofs.DerivedOrder.{derived_kept, first_of_periods}
use Rattle.irs_overnight.proofs.rules.derived_rows.Goals as goal

pub returns-clause-kept : goal.returns-clause-kept
returns-clause-kept g c =
    let source : DerivedSource =
    derived_source c.args.part.now c.args.index.now (g.G.GoodDays.days c.args.days.now) c.args.daily.now in
    let is : basis_of source.day_count ≡ Some c.in-Some.basis =
    rw c.day_count.ensures at (sym c.in-Some.ensures.value) in
    let rising : (n : ℕ) → FixingNotAfter source.resets n → ⊥ =
    rw c.resets.ensures.value at c.in_default-first_unrising.ensures in
    IfOk-weaker c.period_rows.result _ _ (λ _ periods. derived_kept source c.in-Some.basis is rising periods)
    c.period_rows.ensures.kept

pub returns-clause-broken : goal.returns-clause-broken
returns-clause-broken g c =
    let source : DerivedSource =
    derived_source c.args.part.now c.args.index.now (g.G.GoodDays.days c.args.days.now) c.args.daily.now in
    let is : basis_of source.day_count ≡ Some c.in-Some.basis =
    rw c.day_count.ensures at (sym c.in-Some.ensures.value) in
    let rising : (n : ℕ) → FixingNotAfter source.resets n → ⊥ =
    rw c.resets.ensures.value at c.in_default-first_unrising.ensures in
    handed_back c.period_rows.result (First derived_before (BreaksPeriod source))
    (First derived_before (BreaksDerived source))
    (λ f first. first_of_periods source c.in-Some.basis is rising f first) c.period_rows.ensures.broken
