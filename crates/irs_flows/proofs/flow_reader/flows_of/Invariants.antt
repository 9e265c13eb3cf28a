use Rattle.irs_flows.proofs.flow_reader.flows_of.Given as goal
use Rattle.irs_flows.specs.FlowReading.{flow_part_in}
use Rattle.serde_json.specs.View.{view}
use Rattle.std.proofs.Common.{◌≡◌, map, take}

-- the flows of the streams so far
abbrev pub invariant-loop-stream : goal.invariant-loop-stream
invariant-loop-stream l = l.streams.items ≡ map flow_part_in (map view (take l.stream-index l.stream-items))
