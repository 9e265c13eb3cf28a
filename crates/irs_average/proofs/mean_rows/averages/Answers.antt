use Rattle.std.proofs.Common.{ℕ}
use Rattle.std.proofs.lemmas.Result.{IfOk-weaker}
use Rattle.irs_base.specs.Outcomes.{First}
use Rattle.irs_base.proofs.HandedAnswers.{handed_back}
use Rattle.irs_overnight.specs.Overnight.{FixingNotAfter, derived_before}
use Rattle.irs_average.specs.Averages.{BreaksMeans, BreaksSamples, MeanSource, averaging_by, mean_source, own_lines}
use Rattle.irs_average.proofs.MeanOrder.{first_of_samples, means_kept}
use Rattle.irs_average.proofs.mean_rows.averages.Goals as goal

pub returns-clause-kept : goal.returns-clause-kept
returns-clause-kept g c =
    let source : MeanSource =
    mean_source c.args.part.now
    (averaging_by c.args.kind c.args.step (g.G.GoodDays.days c.args.days.now)
    (own_lines c.args.fix.now c.args.float.now)) in
    let rising : (n : ℕ) → FixingNotAfter source.resets n → ⊥ = rw c.resets.ensures.value at c.in_default.ensures in
    IfOk-weaker c.mean_rows.result _ _ (λ _ samples. means_kept source rising samples) c.mean_rows.ensures.kept

pub returns-clause-broken : goal.returns-clause-broken
returns-clause-broken g c =
    let source : MeanSource =
    mean_source c.args.part.now
    (averaging_by c.args.kind c.args.step (g.G.GoodDays.days c.args.days.now)
    (own_lines c.args.fix.now c.args.float.now)) in
    let rising : (n : ℕ) → FixingNotAfter source.resets n → ⊥ = rw c.resets.ensures.value at c.in_default.ensures in
    handed_back c.mean_rows.result (First derived_before (BreaksSamples source))
    (First derived_before (BreaksMeans source)) (λ f first. first_of_samples source rising f first)
    c.mean_rows.ensures.broken
