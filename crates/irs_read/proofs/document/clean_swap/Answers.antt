use Rattle.irs_read.proofs.document.clean_swap.Goals as goal
use Rattle.irs_read.{proofs.Ways.below_first, specs.Documents.SwapFault}
use Rattle.std.proofs.Common.{Some, sym}

pub returns-in-Some-clause-broken : goal.returns-in-Some-clause-broken
returns-in-Some-clause-broken c =
    below_first SwapFault _ _ (Some c.in-Some.broken) (sym c.in_ok-swap.ensures) c.in-Some.ensures
