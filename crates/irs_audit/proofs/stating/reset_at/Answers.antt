use Rattle.std.proofs.Common.{◌≡◌, Some, sym}
use Rattle.std.specs.Prelude.{slice_get}
use Rattle.irs_audit.proofs.StatedBounds.{reset_statable}
use Rattle.irs_audit.proofs.stating.reset_at.Goals as goal

pub reset-requires : goal.reset-requires
reset-requires c =
    let there : slice_get c.args.part.now.resets c.args.place ≡ Some c.in-Some.r.now =
    rw (← c.resets.ensures.value) (sym c.in-Some.ensures) in
    reset_statable c.args.part.now c.args.place c.in-Some.r.now c.resets.ensures.bounds there
