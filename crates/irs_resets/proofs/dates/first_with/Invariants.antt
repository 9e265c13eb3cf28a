use Rattle.std.proofs.Common.{ℕ, ◌<◌, ◌≤◌}
use Rattle.irs_resets.specs.Resets.{reset_days_by, DatesFail}
use Rattle.irs_resets.proofs.dates.first_with.Given as goal

-- no period before this one has the fault
abbrev pub invariant-loop-number : goal.invariant-loop-number
invariant-loop-number g l =
    let days = reset_days_by l.adjusted (g.G.GoodDays.days l.reset_days) (g.G.GoodDays.days l.fixing_days) in
    (i : ℕ) → 1 ≤ i → i < l.number → DatesFail l.fault l.terms days i → ⊥
