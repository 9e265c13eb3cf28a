-- An element in plain words, and what a leaf has to be.
use Rattle.std.specs.Prelude.{ℕ, ◌==◌, Bool, false, List, [], ◌∷◌, codes, if◌then◌else◌, ◌≡◌, ◌≤◌, ◌++◌, Option, Some}
use Rattle.std.specs.Prelude.{None}
use Rattle.std.specs.Str.{bytes_eq}
use Rattle.std.specs.Fmt.{decimal}
use Rattle.irs_base.specs.Limits.{most_index, most_multiplier, most_name, most_observation_offset, most_offset}
use Rattle.irs_terms.specs.declared.codes.RollCode.{RollCode}
use Rattle.irs_terms.specs.declared.codes.RollCode.TheVariants.{Dom}
use Rattle.irs_elements.specs.declared.table.Leaf.{Leaf as LeafKind}
use Rattle.irs_elements.specs.declared.table.Leaf.TheVariants.{Date, Multiplier, OffsetDays, Precision, Whole, Notional}
use Rattle.irs_elements.specs.declared.table.Leaf.TheVariants.{Rate, Amount, Fraction, Truth, CenterName, IndexName}
use Rattle.irs_elements.specs.declared.table.Leaf.TheVariants.{CurrencyName, Convention, PeriodUnit, TenorUnit}
use Rattle.irs_elements.specs.declared.table.Leaf.TheVariants.{OffsetUnit, DayType, StubType, Roll, PayRelative}
use Rattle.irs_elements.specs.declared.table.Leaf.TheVariants.{ResetRelative, DayCount, Compounding, Treatment}
use Rattle.irs_elements.specs.declared.table.Leaf.TheVariants.{Direction, ObservationDays, CalculationMethod}
use Rattle.irs_main.specs.Shown.{front}

-- ---- an element in plain words, by its path

-- the path begins with the name `dateAdjustments`
abbrev pub is_adjustments : List ℕ → Bool
is_adjustments path = bytes_eq (front 47 path) (codes "dateAdjustments")

-- the last name of a path; `last` begins with the last name so far
abbrev pub last_name_after : List ℕ → List ℕ → List ℕ
last_name_after last [] = last
last_name_after last (b ∷ bs) = if b == 47 then last_name_after bs bs else last_name_after last bs

-- where the name of the holder begins, once another name comes; `dateAdjustments` is no holder
abbrev pub next_holder : List ℕ → List ℕ → List ℕ
next_holder holder last = if is_adjustments last then holder else last

-- the path from the name of the holder on
abbrev pub holder_from : List ℕ → List ℕ → List ℕ → List ℕ
holder_from holder last [] = holder
holder_from holder last (b ∷ bs) =
    if b == 47 then holder_from (next_holder holder last) bs bs else holder_from holder last bs

-- the name of the element that holds the last one
abbrev pub holder : List ℕ → List ℕ
holder path = front 47 (holder_from [] path path)

-- the last byte is an `s`
abbrev pub ends_in_s : List ℕ → Bool
ends_in_s [] = false
ends_in_s (b ∷ []) = b == 115
ends_in_s (b ∷ c ∷ cs) = ends_in_s (c ∷ cs)

-- the ending that makes a name possessive
abbrev pub possessive : List ℕ → List ℕ
possessive [] = []
possessive (b ∷ bs) = if ends_in_s (b ∷ bs) then codes "' " else codes "'s "

-- a name in plain words: `document`, `swapStream` and `dateAdjustments` have their own
abbrev pub words_of : List ℕ → List ℕ
words_of name =
    if bytes_eq name (codes "document") then codes "the document"
    else (if bytes_eq name (codes "swapStream") then codes "the stream"
    else (if bytes_eq name (codes "dateAdjustments") then codes "adjustments" else name))

-- the words of the last name of a path
abbrev pub name_words : List ℕ → List ℕ
name_words path = words_of (last_name_after path path)

-- ---- rolls by the day of the month (FpML's rollConvention)

-- the text is a number from 1 to 30, in digits with no zero in front, and the roll is that day of the month
pub record IsDayRoll (text : List ℕ) (roll : RollCode) : Type 0 where
  pub day : ℕ
  pub from_one : 1 ≤ day
  pub to_thirty : day ≤ 30
  pub is : text ≡ decimal day
  pub gives : roll ≡ Dom day

-- ---- what a leaf has to be, in words: one of its codes, or its grammar and its range

-- ---- codes

-- the texts that a leaf of codes may have, in the order of the codes' table; none for a leaf that has a grammar.
-- The law `codes_are_listed` says that these are all that have a value
abbrev pub leaf_codes : LeafKind → Option (List (List ℕ))
leaf_codes Date = None
leaf_codes Multiplier = None
leaf_codes OffsetDays = None
leaf_codes ObservationDays = None
leaf_codes Precision = None
leaf_codes Whole = None
leaf_codes Notional = None
leaf_codes Rate = None
leaf_codes Amount = None
leaf_codes Fraction = None
leaf_codes Truth = Some (codes "true" ∷ codes "1" ∷ codes "false" ∷ codes "0" ∷ [])
leaf_codes CenterName = None
leaf_codes IndexName = None
leaf_codes CurrencyName = None
leaf_codes Convention = Some (codes "FOLLOWING" ∷ codes "MODFOLLOWING" ∷ codes "PRECEDING" ∷ codes "MODPRECEDING"
    ∷ codes "NEAREST" ∷ codes "NONE" ∷ [])
leaf_codes PeriodUnit = Some (codes "D" ∷ codes "W" ∷ codes "M" ∷ codes "Y" ∷ codes "T" ∷ [])
leaf_codes TenorUnit = Some (codes "D" ∷ codes "W" ∷ codes "M" ∷ codes "Y" ∷ [])
leaf_codes OffsetUnit = Some (codes "D" ∷ [])
leaf_codes DayType = Some (codes "Business" ∷ codes "Calendar" ∷ [])
leaf_codes StubType = Some (codes "ShortInitial" ∷ codes "LongInitial" ∷ codes "ShortFinal" ∷ codes "LongFinal" ∷ [])
leaf_codes Roll = None
leaf_codes PayRelative = Some (codes "CalculationPeriodStartDate" ∷ codes "CalculationPeriodEndDate" ∷ [])
leaf_codes ResetRelative = Some (codes "CalculationPeriodStartDate" ∷ codes "CalculationPeriodEndDate" ∷ [])
leaf_codes DayCount = Some (codes "1/1" ∷ codes "ACT/ACT.ISDA" ∷ codes "ACT/365.FIXED" ∷ codes "ACT/360"
    ∷ codes "30/360" ∷ codes "30E/360" ∷ codes "30E/360.ISDA" ∷ [])
leaf_codes Compounding = Some (codes "None" ∷ codes "Straight" ∷ codes "Flat" ∷ codes "SpreadExclusive" ∷ [])
leaf_codes CalculationMethod = Some (codes "Compounding" ∷ codes "Averaging" ∷ [])
leaf_codes Treatment = Some (codes "NegativeInterestRateMethod" ∷ codes "ZeroInterestRateMethod" ∷ [])
leaf_codes Direction = Some (codes "Up" ∷ codes "Down" ∷ codes "Nearest" ∷ [])

-- the rolls that have a name
abbrev pub rolls : List (List ℕ)
rolls = codes "EOM" ∷ codes "IMM" ∷ codes "NONE" ∷ codes "MON" ∷ codes "TUE" ∷ codes "WED" ∷ codes "THU"
    ∷ codes "FRI" ∷ codes "SAT" ∷ codes "SUN" ∷ []

-- texts with a comma between them
abbrev pub comma_list : List (List ℕ) → List ℕ
comma_list [] = []
comma_list (x ∷ []) = x
comma_list (x ∷ y ∷ ys) = x ++ codes ", " ++ comma_list (y ∷ ys)

-- the only one of some texts, or `one of` them
abbrev pub one_of : List (List ℕ) → List ℕ
one_of [] = []
one_of (x ∷ []) = x
one_of (x ∷ y ∷ ys) = codes "one of " ++ comma_list (x ∷ y ∷ ys)

-- ---- grammars

-- a whole number in a range
abbrev pub whole_from : List ℕ → List ℕ → List ℕ
whole_from low high = codes "a whole number from " ++ low ++ codes " to " ++ high

-- the grammar and the range of a kind of leaf that isn't one of codes
abbrev pub grammar_of : LeafKind → List ℕ
grammar_of Date = codes "a date YYYY-MM-DD from 1901-01-01 to 2299-12-31"
grammar_of Multiplier = whole_from (codes "1") (decimal most_multiplier)
grammar_of OffsetDays = whole_from (codes "-" ++ decimal most_offset) (decimal most_offset)
grammar_of ObservationDays = whole_from (codes "1") (decimal most_observation_offset)
grammar_of Precision = whole_from (codes "0") (codes "9")
grammar_of Whole = codes "a whole number of at most 9 digits"
grammar_of Notional = codes "a number from 0 to 10000000000000, with at most 4 decimals"
grammar_of Rate = codes "a number from -10 to 10, with at most 9 decimals"
grammar_of Amount = codes "a number with at most 12 decimals"
grammar_of Fraction = codes "a number without a sign"
grammar_of Truth = []
grammar_of CenterName = codes "1 to " ++ decimal most_name ++ codes " bytes from ! to ~"
grammar_of IndexName = codes "1 to " ++ decimal most_index ++ codes " bytes without a control"
grammar_of CurrencyName = codes "three capital letters"
grammar_of Convention = []
grammar_of PeriodUnit = []
grammar_of TenorUnit = []
grammar_of OffsetUnit = []
grammar_of DayType = []
grammar_of StubType = []
grammar_of Roll = one_of rolls ++ codes ", or a day from 1 to 30"
grammar_of PayRelative = []
grammar_of ResetRelative = []
grammar_of DayCount = []
grammar_of Compounding = []
grammar_of CalculationMethod = []
grammar_of Treatment = []
grammar_of Direction = []

-- ---- what a leaf has to be

-- one of these codes, or of that grammar
abbrev pub words_by : Option (List (List ℕ)) → List ℕ → List ℕ
words_by None grammar = grammar
words_by (Some names) grammar = one_of names

-- what a leaf of this kind has to be
abbrev pub value_words : LeafKind → List ℕ
value_words kind = words_by (leaf_codes kind) (grammar_of kind)
