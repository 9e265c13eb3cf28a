use Rattle.std.proofs.Common.{◌≡◌, Some, length, refl}
use Rattle.std.specs.Prelude.{slice_get}
use Rattle.std.proofs.lemmas.Option.{slice_get_read}
use Rattle.irs_audit.proofs.StatedBounds.{exchange_statable}
use Rattle.irs_audit.proofs.stating.exchanges.Goals as goal

pub stated_amount-requires : goal.stated_amount-requires
stated_amount-requires c =
    let there : slice_get c.args.part.now.exchanges c.loop-x.x-index ≡ Some c.x-item.result =
    rw (← c.exchanges-x-items.ensures.value)
    (slice_get_read c.exchanges-x-items.result.now
    (length c.exchanges-x-items.result.now) c.loop-x.x-index c.x-item.result refl c.loop-x-test.true c.x-item.is) in
    exchange_statable c.args.part.now c.loop-x.x-index c.x-item.result c.exchanges-x-items.ensures.bounds there
