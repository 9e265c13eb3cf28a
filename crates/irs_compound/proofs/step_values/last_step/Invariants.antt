use Rattle.std.proofs.Common.{◌≡◌, None, take}
use Rattle.irs_compound.specs.PeriodRates.{last_from}
use Rattle.irs_compound.proofs.step_values.last_step.Given as goal

-- the step kept is the one in force among the steps so far
abbrev pub invariant-loop-step : goal.invariant-loop-step
invariant-loop-step l = l.last ≡ last_from l.d None (take l.step-index l.steps)
