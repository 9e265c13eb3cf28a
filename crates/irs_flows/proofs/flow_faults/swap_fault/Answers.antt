use Rattle.irs_flows.proofs.flow_faults.swap_fault.Goals as goal
use Rattle.irs_read.proofs.Each.{object_some}
use Rattle.std.proofs.Common.{sym, ◌∙◌}

pub returns-in-Some : goal.returns-in-Some
returns-in-Some c =
    object_some _ _ _ _ _ _ _ (sym c.members.ensures.names ∙ c.in-Some.is) c.earlier.ensures
    (rw c.is_sound.ensures at c.broken_if-own.ensures) (rw c.values_at.ensures at c.streams_fault.ensures)
