use Rattle.irs_read.proofs.references.slots.Goals as goal
use Rattle.std.proofs.Common.{refl}

pub returns : goal.returns
returns c =
    simp (c.list_below.ensures, c.list_below-2.ensures, c.list_below-3.ensures, c.list_below-4.ensures)
    (simp (c.list_below-5.ensures, c.list_below-6.ensures, c.list_below-7.ensures)
    (simp (c.member.ensures, c.member-2.ensures, c.member-3.ensures)
    (simp (c.once-dates.ensures, c.once.ensures, c.once-resets.ensures) refl)))
