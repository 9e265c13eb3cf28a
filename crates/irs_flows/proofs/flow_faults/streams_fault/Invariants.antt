use Rattle.irs_elements.proofs.First.{Below}
use Rattle.irs_flows.proofs.flow_faults.streams_fault.Given as goal
use Rattle.irs_flows.specs.FlowFaults.{FlowStreamFault}
use Rattle.irs_read.proofs.Each.{Each}
use Rattle.irs_terms.specs.Faults.{IsFirstBroken}
use Rattle.serde_json.specs.View.{view}
use Rattle.std.proofs.Common.{◌+◌, map}

-- the first fault of the streams before place j
abbrev pub invariant-loop-j : goal.invariant-loop-j
invariant-loop-j l = IsFirstBroken (Below (Each (λ j. FlowStreamFault (j + 1)) (map view l.list)) l.j) l.first
