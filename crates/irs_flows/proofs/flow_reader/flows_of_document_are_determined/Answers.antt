use Rattle.irs_flows.proofs.EachFlows.{flows_determined}
use Rattle.irs_flows.proofs.flow_reader.flows_of_document_are_determined.Goals as goal

pub returns : goal.returns
returns c = flows_determined _ c.first_in_flows-fault.result c.first_in_flows-fault.ensures
