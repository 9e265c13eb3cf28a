use Rattle.std.proofs.Common.{◌≡◌, Some, sym}
use Rattle.std.specs.Prelude.{slice_get}
use Rattle.irs_audit.proofs.BoundLemmas.{payment_kept}
use Rattle.irs_audit.proofs.StatedBounds.{payment_statable}
use Rattle.irs_audit.proofs.stating.payment_at.Goals as goal

pub payment-requires : goal.payment-requires
payment-requires c =
    let there : slice_get c.args.part.now.payments c.args.place ≡ Some c.in-Some.y.now =
    rw (← c.payments.ensures.value) (sym c.in-Some.ensures) in
    record {
      payment = payment_kept c.args.part.now c.args.place c.in-Some.y.now c.payments.ensures.bounds there;
      statable = payment_statable c.args.part.now c.args.place c.in-Some.y.now c.payments.ensures.bounds there;
    }
