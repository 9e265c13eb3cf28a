use Rattle.std.proofs.Common.{◌≡◌, Some, sym}
use Rattle.std.specs.Prelude.{slice_get}
use Rattle.irs_audit.proofs.StatedBounds.{exchange_statable}
use Rattle.irs_audit.proofs.stating.exchange_at.Goals as goal

pub exchange-requires : goal.exchange-requires
exchange-requires c =
    let there : slice_get c.args.part.now.exchanges c.args.place ≡ Some c.in-Some.x.now =
    rw (← c.exchanges.ensures.value) (sym c.in-Some.ensures) in
    exchange_statable c.args.part.now c.args.place c.in-Some.x.now c.exchanges.ensures.bounds there
