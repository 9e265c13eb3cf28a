-- Private: no public contract rests on this file.
-- Of private functions: how fixing files are read and rates kept.
use Rattle.std.specs.Prelude.{◌≡◌, ℕ, Bool, true, false, ◌&&◌, Some, None, ℤ, List, IsSome, if◌then◌else◌, Option, ◌⊎◌}
use Rattle.std.specs.Prelude.{IsTrue}
use Rattle.std.specs.Map.{lookup}
use Rattle.std.specs.Str.{bytes_eq}
use Rattle.irs_base.specs.Outcomes.{Spec}
use Rattle.irs_terms.specs.declared.frequency.Frequency.{Frequency}
use Rattle.irs_resets.specs.declared.store.Slot.{Slot}
use Rattle.irs_resets.specs.Rates.{is_slot, SlotRates, RateTable, rate_at}
use Rattle.irs_resets.specs.FixingFiles.{word, behind_gap, trimmed, tenor_at, IsIndexText, is_passed, SpellsRate}
use Rattle.irs_resets.specs.FixingFiles.{IsBadLine}
use Rattle.irs_resets.specs.declared.fixings.FixErr.{FixErr}
use Rattle.irs_resets.specs.declared.fixings.FixErr.TheVariants.{Syntax, Repeat, Memory}

-- ---- rates by index, date and tenor

-- new has the rate there, and at every other place what old has
abbrev pub AddsTo : SlotRates → Slot → ℤ → SlotRates → Type 0
AddsTo old slot rate new =
    (q : Slot) → lookup (is_slot q) new ≡ (if is_slot slot q then Some rate else lookup (is_slot q) old)

-- the table has this rate too, and else what it had
abbrev pub Adds : RateTable → List ℕ → Slot → ℤ → RateTable → Type 0
Adds old index slot rate new =
    (i : List ℕ) (q : Slot)
    → rate_at new i q ≡ (if bytes_eq index i && is_slot slot q then Some rate else rate_at old i q)

-- whether the slot had no rate; if it had none, it has this one now
abbrev pub AddsNew : SlotRates → Slot → ℤ → SlotRates → Bool → Type 0
AddsNew old slot rate new true = (lookup (is_slot slot) old ≡ None) × AddsTo old slot rate new
AddsNew old slot rate new false = IsSome (lookup (is_slot slot) old)

-- the same of an index, a date and a tenor
abbrev pub AddsNewAt : RateTable → List ℕ → Slot → ℤ → RateTable → Bool → Type 0
AddsNewAt old index slot rate new true = (rate_at old index slot ≡ None) × Adds old index slot rate new
AddsNewAt old index slot rate new false = IsSome (rate_at old index slot)

-- ---- what a line of a fixing file spells: DATE RATE TENOR INDEX

-- the bytes from the third word on are a tenor, and an index after it
pub record IsTail (text : List ℕ) (tenor : Option Frequency) (index : List ℕ) : Type 0 where
  pub tenor_text : tenor_at (word text) ≡ Some tenor
  pub rest : index ≡ trimmed (behind_gap text)
  pub lawful : IsIndexText index

-- ---- what a fixing file holds, and its first line that is at fault
-- Lines count from 1. They are those that are read: a false end line in the last place is outside the grammar.

-- ---- one line

-- the line spells a fixing
pub record IsSpelt (line : List ℕ) : Type 0 where
  pub index : List ℕ
  pub slot : Slot
  pub rate : ℤ
  pub spelt : SpellsRate line index slot rate

-- the line spells a fixing whose index, date and tenor have no rate yet
pub record HasNewRate (table : RateTable) (line : List ℕ) : Type 0 where
  pub index : List ℕ
  pub slot : Slot
  pub rate : ℤ
  pub spelt : SpellsRate line index slot rate
  pub absent : rate_at table index slot ≡ None

-- the line has a new rate, and the new table has it besides those of the old one
pub record TakesLine (old : RateTable) (line : List ℕ) (new : RateTable) : Type 0 where
  pub more : HasNewRate old line
  pub adds : Adds old more.index more.slot more.rate new

-- a line is ignored, or its rate is taken
abbrev pub ReadsLine : RateTable → List ℕ → RateTable → Type 0
ReadsLine old line new = (IsTrue (is_passed line) × (new ≡ old)) ⊎ TakesLine old line new

-- the line spells a fixing whose index, date and tenor have a rate already
pub record HasOldRate (table : RateTable) (line : List ℕ) : Type 0 where
  pub index : List ℕ
  pub slot : Slot
  pub rate : ℤ
  pub spelt : SpellsRate line index slot rate
  pub there : IsSome (rate_at table index slot)

-- the line with this number is at fault after the lines of the table
abbrev pub IsLineFault : RateTable → List ℕ → ℕ → FixErr → Type 0
IsLineFault table line number (Syntax n) = (n ≡ number) × IsBadLine line
IsLineFault table line number (Repeat n) = (n ≡ number) × HasOldRate table line
IsLineFault table line number Memory = ⊥

-- ---- what the calls of this crate answer, and what they refuse

-- the rates with those of one line more, or the fault of that line
abbrev pub line_of : RateTable → List ℕ → ℕ → Spec RateTable FixErr
line_of table line number = record {
  Answers = ReadsLine table line;
  Refuses = IsLineFault table line number;
}
