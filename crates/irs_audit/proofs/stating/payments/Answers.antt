use Rattle.std.proofs.Common.{◌≡◌, Some, length, refl}
use Rattle.std.specs.Prelude.{slice_get}
use Rattle.std.proofs.lemmas.Option.{slice_get_read}
use Rattle.irs_audit.proofs.BoundLemmas.{payment_kept}
use Rattle.irs_audit.proofs.StatedBounds.{payment_statable}
use Rattle.irs_audit.proofs.stating.payments.Goals as goal

pub payment-requires : goal.payment-requires
payment-requires c =
    let part = c.args.part.now in
    let bounds = c.payments-y-items.ensures.bounds in
    let there : slice_get part.payments c.loop-y.y-index ≡ Some c.y-item.result =
    rw (← c.payments-y-items.ensures.value)
    (slice_get_read c.payments-y-items.result.now
    (length c.payments-y-items.result.now) c.loop-y.y-index c.y-item.result refl c.loop-y-test.true c.y-item.is) in
    record {
      payment = payment_kept part c.loop-y.y-index c.y-item.result bounds there;
      statable = payment_statable part c.loop-y.y-index c.y-item.result bounds there;
    }
