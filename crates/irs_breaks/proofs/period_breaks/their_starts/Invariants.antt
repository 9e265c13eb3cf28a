use Rattle.std.proofs.Common.{◌≡◌, map, take}
use Rattle.irs_flows.specs.declared.flows.FlowPeriod.{FlowPeriod}
use Rattle.irs_breaks.proofs.period_breaks.their_starts.Given as goal

-- the stated starts of the periods so far
abbrev pub invariant-loop-period : goal.invariant-loop-period
invariant-loop-period l = l.dates.items ≡ map (λ (z : FlowPeriod). z.adjusted_start) (take l.period-index l.period-items)
