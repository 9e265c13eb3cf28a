-- Derived rates as the lines of a fixing file.
use Rattle.std.specs.Prelude.{ℕ, List, ◌∷◌, ◌++◌, codes, Option, IsTrue, IfSome, ◌≡◌, ◌↔◌, ◌^◌, ◌<◌, Some, ℤ, ◌<ℤ◌}
use Rattle.std.specs.Prelude.{slice_get}
use Rattle.std.specs.Fmt.{decimal}
use Rattle.std.specs.List.{flat_map}
use Rattle.irs_base.specs.Texts.{day_text, dec_text}
use Rattle.irs_base.specs.Days.{IsDay}
use Rattle.irs_terms.specs.declared.frequency.Frequency.{Frequency}
use Rattle.irs_terms.specs.Lawful.{IsLawfulIndex, IsLawfulTenor, IsRate}
use Rattle.irs_calendar.specs.Grammar.{seen_lines}
use Rattle.irs_resets.specs.FixingFiles.{tenor_text, SpellsRate, is_passed, Fixes, IsFaulty}
use Rattle.irs_resets.specs.declared.store.Slot.{Slot}
use Rattle.irs_overnight.specs.declared.derived.DerivedRow.{DerivedRow}
use Rattle.irs_overnight.specs.declared.derived.Found.{Found}
use Rattle.irs_overnight.specs.declared.derived.Found.TheVariants.{Rate, Missing}

-- ---- the line of a fixing file that a derived rate prints

-- DATE RATE TENOR INDEX with 9 decimals, or `# missing PERIOD DATE`
abbrev pub derived_row_fields : DerivedRow → Found → Option Frequency → List ℕ → List ℕ
derived_row_fields row (Rate x) tenor index = day_text row.fixing ++ 32 ∷ dec_text x 9 ++ 32 ∷ tenor_text tenor ++ 32 ∷ index
derived_row_fields row (Missing d) tenor index = codes "# missing" ++ 32 ∷ decimal row.period ++ 32 ∷ day_text d

-- the line, with its line feed
unfoldable pub derived_text_of : DerivedRow → Option Frequency → List ℕ → List ℕ
derived_text_of row tenor index = derived_row_fields row row.found tenor index ++ codes "\n"

-- ---- what the line of a derived rate reads as in a fixing file

-- the index and the tenor of a stream or of a stub, as terms have them
pub record IsLawfulLine (index : List ℕ) (tenor : Option Frequency) : Type 0 where
  pub named : IsLawfulIndex index
  pub lasting : IfSome tenor IsLawfulTenor

-- before its line feed the line of a rate spells that rate of the index, at the fixing date and the tenor. The line of
-- a missing rate is passed over
abbrev pub ReadsAsRow : DerivedRow → Found → Option Frequency → List ℕ → Type 0
ReadsAsRow row (Rate x) tenor index =
    IsRate x → SpellsRate (derived_row_fields row (Rate x) tenor index) index (record { date = row.fixing; tenor = tenor }) x
ReadsAsRow row (Missing d) tenor index = IsTrue (is_passed (derived_row_fields row (Missing d) tenor index))

-- ---- derived rates as a fixing file

-- the text of these rows
abbrev pub file_text : List DerivedRow → Option Frequency → List ℕ → List ℕ
file_text rows tenor index = codes "# irs-fixings 1\n" ++ flat_map (λ row. derived_text_of row tenor index) rows

-- a rate is at most 10 in size
abbrev pub IsSmallFound : Found → Type 0
IsSmallFound (Rate x) = IsRate x
IsSmallFound (Missing d) = Unit {0}

-- what derived rows keep: days and rates in range, and fixing dates that rise
pub record AreKept (rows : List DerivedRow) : Type 0 where
  pub days : (k : ℕ) (row : DerivedRow) → slice_get rows k ≡ Some row → IsDay row.fixing
  pub rates : (k : ℕ) (row : DerivedRow) → slice_get rows k ≡ Some row → IsSmallFound row.found
  pub periods : (k : ℕ) (row : DerivedRow) → slice_get rows k ≡ Some row → row.period < 2 ^ 32
  pub rise : (j k : ℕ) (row later : DerivedRow) → j < k → slice_get rows j ≡ Some row → slice_get rows k ≡ Some later
      → row.fixing <ℤ later.fixing

-- a row has that rate of the index at that date and tenor
pub record HasRate (rows : List DerivedRow) (tenor : Option Frequency) (index name : List ℕ) (slot : Slot)
    (rate : ℤ) : Type 0 where
  pub place : ℕ
  pub row : DerivedRow
  pub at : slice_get rows place ≡ Some row
  pub found : row.found ≡ Rate rate
  pub same_name : name ≡ index
  pub same_slot : slot ≡ record { date = row.fixing; tenor = tenor }

-- the text is a fixing file, and its lines give exactly the rates of the rows
pub record AreFixings (rows : List DerivedRow) (tenor : Option Frequency) (index : List ℕ) : Type 0 where
  pub clean : (n : ℕ) → IsFaulty (seen_lines (file_text rows tenor index)) n → ⊥
  pub holds : (name : List ℕ) (slot : Slot) (rate : ℤ)
      → ((n : ℕ) × Fixes (seen_lines (file_text rows tenor index)) n name slot rate)
      ↔ HasRate rows tenor index name slot rate
