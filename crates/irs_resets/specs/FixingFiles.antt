-- Fixing files: how their lines spell rates, and their first faulty line.
use Rattle.std.specs.Prelude.{ℕ, ◌+◌, ◌-◌, ◌*◌, ◌&&◌, ◌==◌, List, [], ◌∷◌, Option, Some, None, nat_le, if◌then◌else◌}
use Rattle.std.specs.Prelude.{◌≡◌, ◌++◌, codes, Bool, false, ◌||◌, ◌≢◌, ◌≤◌, length, All, ℤ, ◌⊎◌, ◌↔◌, ◌<◌}
use Rattle.std.specs.Prelude.{slice_index_or, nat_lt}
use Rattle.std.specs.Fmt.{decimal}
use Rattle.std.specs.List.{list_all}
use Rattle.irs_base.specs.Texts.{is_space_or_tab, without_gap, date_at, DecText}
use Rattle.irs_base.specs.Limits.{most_index}
use Rattle.irs_base.specs.Outcomes.{First}
use Rattle.irs_terms.specs.declared.frequency.Unit.{Unit as FrequencyUnit}
use Rattle.irs_terms.specs.declared.frequency.Unit.TheVariants.{D, W, M, Y, T}
use Rattle.irs_terms.specs.declared.frequency.Frequency.{Frequency}
use Rattle.irs_terms.specs.Lawful.{IsLawfulTenor, IsRate}
use Rattle.irs_calendar.specs.Grammar.{seen_lines}
use Rattle.irs_resets.specs.declared.store.Slot.{Slot}
use Rattle.irs_resets.specs.declared.fixings.FixErr.{FixErr}
use Rattle.irs_resets.specs.declared.fixings.FixErr.TheVariants.{Syntax, Repeat, Memory}
use Rattle.irs_resets.specs.Rates.{RateTable, rate_at}

-- ---- tenors as text

-- the number of a digit
abbrev pub digit_at : ℕ → Option ℕ
digit_at b = if nat_le 48 b && nat_le b 57 then Some (b - 48) else None

-- a number has no leading zero
abbrev pub first_digit : ℕ → Option ℕ
first_digit b = if b == 48 then None else digit_at b

-- the number of two digits
abbrev pub tens : Option ℕ → Option ℕ → Option ℕ
tens (Some x) (Some y) = Some (10 * x + y)
tens _ _ = None

-- a number of two digits, the first not 0
abbrev pub two_digit_number : ℕ → ℕ → Option ℕ
two_digit_number a b = tens (first_digit a) (digit_at b)

-- the number of three digits
abbrev pub hundreds : Option ℕ → Option ℕ → Option ℕ → Option ℕ
hundreds (Some x) (Some y) (Some z) = Some (100 * x + 10 * y + z)
hundreds _ _ _ = None

-- a number of three digits, the first not 0
abbrev pub three_digits : ℕ → ℕ → ℕ → Option ℕ
three_digits a b c = hundreds (first_digit a) (digit_at b) (digit_at c)

-- D, W, M and Y
abbrev pub unit_of_letter : ℕ → Option FrequencyUnit
unit_of_letter b = if b == 68 then Some D else
    (if b == 87 then Some W else (if b == 77 then Some M else (if b == 89 then Some Y else None)))

-- a tenor of this count and unit, where both are there
abbrev pub with_unit : Option ℕ → Option FrequencyUnit → Option (Option Frequency)
with_unit (Some n) (Some u) = Some (Some (record { count = n; unit = u }))
with_unit _ _ = None

-- `-` is no tenor; else a number from 1 to 999, and its unit
abbrev pub tenor_at : List ℕ → Option (Option Frequency)
tenor_at (a ∷ []) = if a == 45 then Some None else None
tenor_at (a ∷ u ∷ []) = with_unit (first_digit a) (unit_of_letter u)
tenor_at (a ∷ b ∷ u ∷ []) = with_unit (two_digit_number a b) (unit_of_letter u)
tenor_at (a ∷ b ∷ c ∷ u ∷ []) = with_unit (three_digits a b c) (unit_of_letter u)
tenor_at _ = None

-- ---- the words that are tenors in a fixing file

-- the letter of a unit
abbrev pub unit_text : FrequencyUnit → List ℕ
unit_text D = codes "D"
unit_text W = codes "W"
unit_text M = codes "M"
unit_text Y = codes "Y"
unit_text T = codes "T"

-- number and letter, or `-`
abbrev pub tenor_text : Option Frequency → List ℕ
tenor_text None = codes "-"
tenor_text (Some f) = decimal f.count ++ unit_text f.unit

-- a tenor: a number from 1 to 999 in digits with no zero in front, and D, W, M or Y
pub record IsTenorWord (w : List ℕ) (f : Frequency) : Type 0 where
  pub lawful : IsLawfulTenor f
  pub is : w ≡ tenor_text (Some f)

-- ---- the words of a line

-- the bytes before the first space or tab
abbrev pub word : List ℕ → List ℕ
word [] = []
word (b ∷ bs) = if is_space_or_tab b then [] else b ∷ word bs

-- the bytes from the first space or tab on
abbrev pub behind_word : List ℕ → List ℕ
behind_word [] = []
behind_word (b ∷ bs) = if is_space_or_tab b then b ∷ bs else behind_word bs

-- what follows the first word and the gap after it
abbrev pub behind_gap : List ℕ → List ℕ
behind_gap bytes = without_gap (behind_word bytes)

-- spaces and tabs alone
abbrev pub is_blank : List ℕ → Bool
is_blank bytes = list_all is_space_or_tab bytes

-- without the spaces and tabs at the end
abbrev pub trimmed : List ℕ → List ℕ
trimmed [] = []
trimmed (b ∷ bs) = if is_blank (b ∷ bs) then [] else b ∷ trimmed bs

-- the line begins with `#`
abbrev pub begins_hash : List ℕ → Bool
begins_hash [] = false
begins_hash (b ∷ bs) = b == 35

-- a blank line, or a comment
abbrev pub is_passed : List ℕ → Bool
is_passed line = begins_hash line || is_blank line

-- ---- what a line of a fixing file spells: DATE RATE TENOR INDEX

-- a decimal of 9 places, at most 10 in size
pub record IsRateText (text : List ℕ) (rate : ℤ) : Type 0 where
  pub decimal : DecText text 9 rate
  pub small : IsRate rate

-- 1 to most_index bytes, none of them a control byte
pub record IsIndexText (index : List ℕ) : Type 0 where
  pub some : 1 ≤ length index
  pub short : length index ≤ most_index
  pub no_control : All (λ b. (32 ≤ b) × (b ≢ 127)) index

-- the words of the line: the first, the second and the third, and what follows them
abbrev pub first_text : List ℕ → List ℕ
first_text line = word line

-- the text of the rate
abbrev pub second_text : List ℕ → List ℕ
second_text line = word (behind_gap line)

-- the text of the tenor
abbrev pub third_text : List ℕ → List ℕ
third_text line = word (behind_gap (behind_gap line))

-- the rest of the line keeps the spaces inside it
abbrev pub rest_text : List ℕ → List ℕ
rest_text line = trimmed (behind_gap (behind_gap (behind_gap line)))

-- the line gives the rate of an index at a date and tenor
pub record SpellsRate (line index : List ℕ) (slot : Slot) (rate : ℤ) : Type 0 where
  pub date : date_at (first_text line) ≡ Some slot.date
  pub rate_text : IsRateText (second_text line) rate
  pub tenor : tenor_at (third_text line) ≡ Some slot.tenor
  pub rest : index ≡ rest_text line
  pub lawful : IsIndexText index

-- ---- what a fixing file holds, and its first line that is at fault
-- Lines count from 1. They are those that are read: a false end line in the last place is outside the grammar.

-- the line isn't ignored and spells no fixing
pub record IsBadLine (line : List ℕ) : Type 0 where
  pub not_passed : is_passed line ≡ false
  pub spells_none : (index : List ℕ) (slot : Slot) (rate : ℤ) → SpellsRate line index slot rate → ⊥

-- the line with that number
abbrev pub line_at : List (List ℕ) → ℕ → List ℕ
line_at lines n = slice_index_or lines (n - 1) []

-- a number of a line
abbrev pub IsLine : List (List ℕ) → ℕ → Type 0
IsLine lines n = (1 ≤ n) × (n ≤ length lines)

-- the line n gives that rate
pub record Fixes (lines : List (List ℕ)) (n : ℕ) (index : List ℕ) (slot : Slot) (rate : ℤ) : Type 0 where
  pub is_line : IsLine lines n
  pub spelt : SpellsRate (line_at lines n) index slot rate

-- the line n isn't ignored and spells no fixing
pub record IsBad (lines : List (List ℕ)) (n : ℕ) : Type 0 where
  pub is_line : IsLine lines n
  pub bad : IsBadLine (line_at lines n)

-- the line n has the index, date and tenor of an earlier line
pub record Repeats (lines : List (List ℕ)) (n : ℕ) : Type 0 where
  pub index : List ℕ
  pub slot : Slot
  pub rate : ℤ
  pub here : Fixes lines n index slot rate
  pub earlier : ℕ
  pub before : earlier < n
  pub old_rate : ℤ
  pub there : Fixes lines earlier index slot old_rate

-- line n spells no fixing, or repeats an earlier line
abbrev pub IsFaulty : List (List ℕ) → ℕ → Type 0
IsFaulty lines n = IsBad lines n ⊎ Repeats lines n

-- the line n is at fault in this way, and it is the first line that is at fault in any
abbrev pub IsFirstFaultyLine : (ℕ → Type 0) → List (List ℕ) → ℕ → Type 0
IsFirstFaultyLine P lines n = P n × First nat_lt (IsFaulty lines) n

-- no line is at fault, and the rates are exactly those that the lines give
pub record IsFixingFile (bytes : List ℕ) (table : RateTable) : Type 0 where
  pub clean : (n : ℕ) → IsFaulty (seen_lines bytes) n → ⊥
  pub holds : (index : List ℕ) (slot : Slot) (rate : ℤ)
      → (rate_at table index slot ≡ Some rate) ↔ ((n : ℕ) × Fixes (seen_lines bytes) n index slot rate)

-- the first line at fault, and how it is
abbrev pub IsFixingFault : List ℕ → FixErr → Type 0
IsFixingFault bytes (Syntax n) = IsFirstFaultyLine (IsBad (seen_lines bytes)) (seen_lines bytes) n
IsFixingFault bytes (Repeat n) = IsFirstFaultyLine (Repeats (seen_lines bytes)) (seen_lines bytes) n
IsFixingFault bytes Memory = ⊥

-- reading may stop at a line that gives a rate, where neither it nor an earlier line is at fault
pub record StopsAt (lines : List (List ℕ)) : Type 0 where
  pub number : ℕ
  pub index : List ℕ
  pub slot : Slot
  pub rate : ℤ
  pub fixes : Fixes lines number index slot rate
  pub clean : (n : ℕ) → n ≤ number → IsFaulty lines n → ⊥
