use Rattle.irs_locate.proofs.Rows.{IsOutAt}
use Rattle.irs_elements.specs.Elements.{referenced_texts}
use Rattle.irs_locate.proofs.members.is_out.Given as goal
use Rattle.std.proofs.Common.{◌≡◌, false, take}
use Rattle.std.specs.List.{enumerate_from, list_any}

-- no row before c is out of the profile and has the name
abbrev pub invariant-loop-c : goal.invariant-loop-c
invariant-loop-c l =
    list_any (IsOutAt (referenced_texts l.table.names.now) l.r l.name) (take l.c (enumerate_from 0 l.table.rows.now)) ≡ false
