use Rattle.irs_elements.proofs.First.{first_is, first_or}
use Rattle.irs_flows.proofs.FlowLaws.{flow_names_are, flow_rows_are}
use Rattle.irs_flows.proofs.flow_faults.cashflows_fault.Goals as goal

pub returns : goal.returns
returns c =
    first_is _ _ _ c.earlier.ensures
    (first_or _ _ _ _ (rw flow_rows_are at (rw flow_names_are at c.first_fault-own.ensures))
    (rw c.payments_of.ensures at c.periods_fault.ensures))
