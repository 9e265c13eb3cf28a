use Rattle.irs_flows.proofs.flow_rows.payments.Given as goal
use Rattle.irs_flows.specs.{FlowFaults.flow_periods_of, FlowReading.payment_in, FlowReading.period_in}
use Rattle.serde_json.specs.View.{view}
use Rattle.std.proofs.Common.{◌≡◌, ◌++◌, map, take}

-- the lists have the payments so far, and the calculation periods of these
abbrev pub invariant-loop-v : goal.invariant-loop-v
invariant-loop-v l =
    (l.payments.items ≡ map payment_in (map view (take l.v-index l.found)))
    × (l.periods.items ≡ map period_in (flow_periods_of (map view (take l.v-index l.found))))

-- the list is followed by the calculation periods so far of this payment
abbrev pub invariant-loop-one : goal.invariant-loop-one
invariant-loop-one l =
    (l.payments.items ≡ l.initial.payments.items)
    × (l.periods.items ≡ l.initial.periods.items ++ map period_in (map view (take l.one-index l.inside)))
