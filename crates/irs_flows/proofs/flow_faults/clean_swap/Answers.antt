use Rattle.irs_flows.proofs.flow_faults.clean_swap.Goals as goal
use Rattle.irs_flows.specs.FlowFaults.{FlowSwapFault}
use Rattle.irs_read.proofs.Ways.{below_first}
use Rattle.std.proofs.Common.{None, Some, sym}

pub returns-in-None-clause-clean : goal.returns-in-None-clause-clean
returns-in-None-clause-clean c = below_first FlowSwapFault _ _ None (sym c.in_ok-swap.ensures) c.in-None.ensures

pub returns-in-Some-clause-broken : goal.returns-in-Some-clause-broken
returns-in-Some-clause-broken c =
    below_first FlowSwapFault _ _ (Some c.in-Some.broken) (sym c.in_ok-swap.ensures) c.in-Some.ensures
