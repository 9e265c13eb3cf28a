-- The order of dates and tenors.
use Rattle.std.specs.List.Sorted.{IsStrictlySortedBy}
use Rattle.std.specs.Map.{keys_of}
use Rattle.std.specs.declared.cmp.Ordering.{Ordering}
use Rattle.irs_resets.specs.Rates.{SlotRates}
use Rattle.irs_resets.specs.contracts.store.SlotOrd.TheImpl as slot_ord
use Rattle.irs_resets.specs.declared.store.Slot.{Slot}

-- by the date, then by the tenor
abbrev pub slot_cmp : Slot → Slot → Ordering
slot_cmp = (slot_ord.ghosts).cmp

-- each slot comes before those after it
abbrev pub AreInOrder : SlotRates → Type 0
AreInOrder rates = IsStrictlySortedBy slot_cmp (keys_of rates)
