use Rattle.irs_unfixed.proofs.GapLemmas.{gap_floats}
use Rattle.irs_unfixed.proofs.needed.needed_fixing.Goals as goal

pub unreachable-requires : goal.unreachable-requires
unreachable-requires c =
    gap_floats c.args.calendars.now c.args.fixings.now c.args.s.now c.args.part.now c.args.number c.requires
    c.in-Fixed.field-0 c.in-Fixed.is
