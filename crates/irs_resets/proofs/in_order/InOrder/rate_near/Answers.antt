use Rattle.std.proofs.Common.{◌≡◌, sym, ap, ◌∙◌, Some, ℤ, FitsSigned, w64, to_z, of_z, rules}
use Rattle.std.specs.Map.{lookup}
use Rattle.std.proofs.lemmas.Int.{to_z-of_z}
use Rattle.irs_resets.specs.Rates.{SlotRates, is_slot}
use Rattle.irs_resets.specs.SlotOrder.{AreInOrder}
use Rattle.irs_resets.proofs.OrderLemmas.{lookup_of_entry}
use Rattle.irs_resets.proofs.in_order.InOrder.rate_near.Goals as goal

pub returns-in-Some : goal.returns-in-Some
returns-in-Some c =
    let entries : SlotRates = c.as_slice-entries.result.now in
    let sorted : AreInOrder entries = rw c.as_slice-entries.ensures.value c.self.invariant in
    let fits : FitsSigned w64 c.entry_at-rate.result.1 = search rules in
    let whole : to_z w64 (of_z w64 c.entry_at-rate.result.1) ≡ c.entry_at-rate.result.1 =
    to_z-of_z w64 c.entry_at-rate.result.1 fits in
    ap (λ (z : ℤ). Some z) whole
    ∙ sym (lookup_of_entry entries c.args.slot.now c.in-Some.place c.entry_at-rate.result sorted c.in-Some.ensures.some
    c.entry_at-rate.ensures)
    ∙ ap (λ (l : SlotRates). lookup (is_slot c.args.slot.now) l) (c.as_slice-entries.ensures.value ∙ c.self.view_is)
