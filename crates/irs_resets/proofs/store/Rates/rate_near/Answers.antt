use Rattle.std.proofs.Common.{◌∙◌, sym}
use Rattle.irs_resets.specs.Rates.{is_slot}
use Rattle.irs_resets.proofs.OrderLemmas.{kept_first, none_of, not_first}
use Rattle.irs_resets.proofs.SlotLemmas.{slot_lookup}
use Rattle.irs_resets.proofs.store.Rates.rate_near.Goals as goal

pub returns-then-is_some : goal.returns-then-is_some
returns-then-is_some c =
    rw (← c.self.view_is)
    (kept_first (is_slot c.args.slot.now) c.self.inside.in_order c.self.inside.others.entries c.rate_near-rate.result.0
    c.rate_near-rate.ensures (sym c.is_some.ensures ∙ c.if-is_some.true))

pub returns : goal.returns
returns c =
    let none = none_of (is_slot c.args.slot.now) c.self.inside.in_order c.rate_near-rate.result.0 c.rate_near-rate.ensures
    (sym c.is_some.ensures ∙ c.if-is_some.false) in
    rw (← c.self.view_is)
    (c.copied.ensures ∙ c.get.ensures.value ∙ slot_lookup c.args.slot.now c.self.inside.others.entries
    ∙ sym (not_first (is_slot c.args.slot.now) c.self.inside.in_order c.self.inside.others.entries none))
