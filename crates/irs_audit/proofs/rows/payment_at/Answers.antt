use Rattle.std.proofs.Common.{◌≡◌, Some, refl}
use Rattle.std.specs.Prelude.{slice_get}
use Rattle.irs_audit.proofs.BoundLemmas.{payment_kept}
use Rattle.irs_audit.proofs.rows.payment_at.Goals as goal

pub payment_field-requires : goal.payment_field-requires
payment_field-requires c =
    let there : slice_get c.args.ours.now.payments c.args.place ≡ Some c.in-Some-Some.x.now =
    rw (← c.payments.ensures.value, ← c.item.ensures, c.in-Some-Some.is-0) refl in
    payment_kept c.args.ours.now c.args.place c.in-Some-Some.x.now c.payments.ensures.bounds there
