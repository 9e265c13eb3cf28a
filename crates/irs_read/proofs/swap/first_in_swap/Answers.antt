use Rattle.irs_read.proofs.Each.{object_none, object_some}
use Rattle.irs_read.proofs.TableLaws.{swap_names_are, swap_rows_are}
use Rattle.irs_read.proofs.swap.first_in_swap.Goals as goal
use Rattle.std.proofs.Common.{sym, ◌∙◌}

pub returns-in-None : goal.returns-in-None
returns-in-None c =
    object_none _ _ _ _ (sym c.members.ensures.names ∙ c.in-None.is)
    (rw swap_rows_are at (rw swap_names_are at c.first_fault-own.ensures))

pub returns-in-Some : goal.returns-in-Some
returns-in-Some c =
    object_some _ _ _ _ _ _ _ (sym c.members.ensures.names ∙ c.in-Some.is) c.earlier.ensures
    (rw swap_rows_are at (rw swap_names_are at c.first_fault-own.ensures))
    (rw c.values_at.ensures at c.streams_fault.ensures)
