use Rattle.irs_flows.proofs.flow_rows.exchanges.Given as goal
use Rattle.irs_flows.specs.FlowReading.{exchange_in}
use Rattle.serde_json.specs.View.{view}
use Rattle.std.proofs.Common.{◌≡◌, map, take}

-- the list has the exchanges so far
abbrev pub invariant-loop-v : goal.invariant-loop-v
invariant-loop-v l = l.list.items ≡ map exchange_in (map view (take l.v-index l.found))
