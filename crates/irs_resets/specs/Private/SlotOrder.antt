-- Private: no public contract rests on this file.
-- The order of dates and tenors.
use Rattle.std.specs.Prelude.{◌≡◌, ℕ, Some, ℤ, slice_get}
use Rattle.std.specs.declared.cmp.Ordering.TheVariants.{Less}
use Rattle.irs_base.specs.Lists.{Every}
use Rattle.irs_resets.specs.Rates.{SlotRates}
use Rattle.irs_resets.specs.declared.store.Slot.{Slot}
use Rattle.irs_resets.specs.SlotOrder.{slot_cmp}

-- the slot comes after those of these rates
abbrev pub ComesAfter : SlotRates → Slot → Type 0
ComesAfter rates slot = Every (λ (e : Slot × ℤ). slot_cmp e.0 slot ≡ Less) rates

-- the rate at this place is that of the slot
abbrev pub IsPlace : SlotRates → Slot → ℕ → Type 0
IsPlace rates slot place = (rate : ℤ) × (slice_get rates place ≡ Some (slot, rate))
