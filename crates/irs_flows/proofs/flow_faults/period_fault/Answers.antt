use Rattle.irs_elements.proofs.First.{first_is, first_or}
use Rattle.irs_flows.proofs.FlowLaws.{period_names_are, period_rows_are}
use Rattle.irs_flows.proofs.flow_faults.period_fault.Goals as goal

pub returns : goal.returns
returns c =
    first_is _ _ _ c.earlier.ensures
    (first_or _ _ _ _ (rw period_rows_are at (rw period_names_are at c.first_fault-own.ensures))
    (rw c.has_both_rates.ensures at c.broken_if-both.ensures))
