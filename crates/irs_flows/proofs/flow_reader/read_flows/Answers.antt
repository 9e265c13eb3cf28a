use Rattle.irs_flows.proofs.flow_reader.read_flows.Goals as goal
use Rattle.irs_flows.proofs.FlowRules.{of_flows, told}
use Rattle.std.proofs.Common.{refl}

pub returns-in-Err-clause-fault : goal.returns-in-Err-clause-fault
returns-in-Err-clause-fault c = record {
  fault = c.in-Err.fault;
  first = c.in-Err.ensures.broken;
  kind_is = c.kind_of.ensures;
  place_is = refl;
  read = rw c.kind_of.ensures (told c.in-Err.fault.rule (of_flows _ _ c.in-Err.ensures.broken.0));
}
