use Rattle.irs_flows.proofs.FlowSteps.{Looked}
use Rattle.irs_flows.proofs.flow_faults.periods_fault.Given as goal
use Rattle.irs_flows.specs.FlowFaults.{flow_periods_of}
use Rattle.serde_json.specs.View.{view}
use Rattle.std.proofs.Common.{◌+◌, ◌++◌, drop, map}

-- the calculation periods of the payments so far were looked into
abbrev pub invariant-loop-payment : goal.invariant-loop-payment
invariant-loop-payment l =
    Looked l.stream (flow_periods_of (map view l.payments)) l.number l.first
    (flow_periods_of (map view (drop l.payment-index l.payments)))

-- and so were those so far of this payment
abbrev pub invariant-loop-v : goal.invariant-loop-v
invariant-loop-v l =
    Looked l.stream (flow_periods_of (map view l.payments)) l.number l.first
    (map view (drop l.v-index l.v-items) ++ flow_periods_of (map view (drop (l.payment-index + 1) l.payments)))
