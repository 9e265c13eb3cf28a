use Rattle.std.proofs.Common.{refl}
use Rattle.irs_main.proofs.notes.unfixed_parts.Goals as goal

pub returns : goal.returns
returns c =
    rw c.from.ensures
    (rw c.tenor_letter.ensures (rw c.tenor_count.ensures (rw c.tenor_gap.ensures
    (rw c.dots.ensures (rw c.as_slice-index.ensures refl)))))
