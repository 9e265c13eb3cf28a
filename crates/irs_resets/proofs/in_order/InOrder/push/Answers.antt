use Rattle.std.proofs.Common.{sym, subst}
use Rattle.irs_resets.specs.Rates.{SlotRates}
use Rattle.irs_resets.specs.Private.SlotOrder.{ComesAfter}
use Rattle.irs_resets.proofs.OrderLemmas.{more_in_order}
use Rattle.irs_resets.proofs.in_order.InOrder.push.Goals as goal

pub invariant_of-self-2 : goal.invariant_of-self-2
invariant_of-self-2 c =
    let after = subst (λ (r : SlotRates). ComesAfter r c.args.slot) (sym c.self.view_is) c.requires in
    rw c.in_ok-push.ensures.items (more_in_order c.self.inside.entries.items c.args.slot _ c.self.invariant after)
