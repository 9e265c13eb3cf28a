-- The codes of FpML, a row for each value in the profile.
use Rattle.irs_base.specs.declared.day.DayName.TheVariants.{Mon, Tue, Wed, Thu, Fri, Sat, Sun}
use Rattle.irs_base.specs.declared.rounding.Direction.{Direction}
use Rattle.irs_base.specs.declared.rounding.Direction.TheVariants.{Up, Down, Nearest as ToNearest}
use Rattle.irs_terms.specs.declared.codes.{CompCode.CompCode, ConvCode.ConvCode, DayCountCode.DayCountCode}
use Rattle.irs_terms.specs.declared.codes.{DayKind.DayKind, Relative.Relative, RollCode.RollCode, StubKind.StubKind}
use Rattle.irs_terms.specs.declared.codes.{Treatment.Treatment}
use Rattle.irs_terms.specs.declared.{frequency.Unit.Unit as PeriodUnit, parameters.CalculationMethod.CalculationMethod}
use Rattle.irs_terms.specs.declared.codes.CompCode.TheVariants.{Simple, Straight, Flat, SpreadExclusive}
use Rattle.irs_terms.specs.declared.codes.ConvCode.TheVariants.{Following, ModFollowing, Preceding, ModPreceding}
use Rattle.irs_terms.specs.declared.codes.ConvCode.TheVariants.{Nearest, Unadjusted}
use Rattle.irs_terms.specs.declared.codes.DayCountCode.TheVariants.{OneOne, ActActIsda, Act365Fixed, Act360, Thirty360}
use Rattle.irs_terms.specs.declared.codes.DayCountCode.TheVariants.{ThirtyE360, ThirtyE360Isda}
use Rattle.irs_terms.specs.declared.codes.DayKind.TheVariants.{Business, Calendar}
use Rattle.irs_terms.specs.declared.codes.Relative.TheVariants.{Start, End}
use Rattle.irs_terms.specs.declared.codes.RollCode.TheVariants.{Eom, Dom, Imm, OnWeekday, NoRoll}
use Rattle.irs_terms.specs.declared.codes.StubKind.TheVariants.{ShortInitial, LongInitial, ShortFinal, LongFinal}
use Rattle.irs_terms.specs.declared.codes.Treatment.TheVariants.{AsIs, ZeroFloor}
use Rattle.irs_terms.specs.declared.frequency.Unit.TheVariants.{D, W, M, Y, T}
use Rattle.irs_terms.specs.declared.parameters.CalculationMethod.TheVariants.{Compounding, Averaging}
use Rattle.std.specs.Prelude.{ℕ, ◌+◌, ◌-◌, ◌*◌, nat_le, Bool, true, false, ◌&&◌, List, [], ◌∷◌, Option, Some, None}
use Rattle.std.specs.Prelude.{codes, if◌then◌else◌}
use Rattle.std.specs.Str.{bytes_eq}

-- the value beside the text in a list of codes
abbrev pub among : {A : Type 0} → List (List ℕ × A) → List ℕ → Option A
among [] s = None
among (row ∷ rows) s = if bytes_eq s row.0 then Some row.1 else among rows s

-- a truth value
abbrev pub truth_at : List ℕ → Option Bool
truth_at = among ((codes "true", true) ∷ (codes "1", true) ∷ (codes "false", false) ∷ (codes "0", false) ∷ [])

-- `businessDayConvention`
abbrev pub convention_at : List ℕ → Option ConvCode
convention_at =
    among ((codes "FOLLOWING", Following) ∷ (codes "MODFOLLOWING", ModFollowing) ∷ (codes "PRECEDING", Preceding)
    ∷ (codes "MODPRECEDING", ModPreceding) ∷ (codes "NEAREST", Nearest) ∷ (codes "NONE", Unadjusted) ∷ [])

-- `period` of a frequency
abbrev pub period_unit_at : List ℕ → Option PeriodUnit
period_unit_at = among ((codes "D", D) ∷ (codes "W", W) ∷ (codes "M", M) ∷ (codes "Y", Y) ∷ (codes "T", T) ∷ [])

-- `period` of a tenor, which is never the term
abbrev pub tenor_unit_at : List ℕ → Option PeriodUnit
tenor_unit_at = among ((codes "D", D) ∷ (codes "W", W) ∷ (codes "M", M) ∷ (codes "Y", Y) ∷ [])

-- `period` of an offset, which is in days
abbrev pub offset_unit_at : List ℕ → Option PeriodUnit
offset_unit_at = among ((codes "D", D) ∷ [])

-- `dayType`
abbrev pub day_kind_at : List ℕ → Option DayKind
day_kind_at = among ((codes "Business", Business) ∷ (codes "Calendar", Calendar) ∷ [])

-- `stubPeriodType`
abbrev pub stub_kind_at : List ℕ → Option StubKind
stub_kind_at =
    among ((codes "ShortInitial", ShortInitial) ∷ (codes "LongInitial", LongInitial) ∷ (codes "ShortFinal", ShortFinal)
    ∷ (codes "LongFinal", LongFinal) ∷ [])

-- `payRelativeTo` and `resetRelativeTo`
abbrev pub relative_at : List ℕ → Option Relative
relative_at = among ((codes "CalculationPeriodStartDate", Start) ∷ (codes "CalculationPeriodEndDate", End) ∷ [])

-- `dayCountFraction`
abbrev pub day_count_at : List ℕ → Option DayCountCode
day_count_at =
    among ((codes "1/1", OneOne) ∷ (codes "ACT/ACT.ISDA", ActActIsda) ∷ (codes "ACT/365.FIXED", Act365Fixed)
    ∷ (codes "ACT/360", Act360) ∷ (codes "30/360", Thirty360) ∷ (codes "30E/360", ThirtyE360)
    ∷ (codes "30E/360.ISDA", ThirtyE360Isda) ∷ [])

-- `compoundingMethod`
abbrev pub compounding_at : List ℕ → Option CompCode
compounding_at =
    among ((codes "None", Simple) ∷ (codes "Straight", Straight) ∷ (codes "Flat", Flat)
    ∷ (codes "SpreadExclusive", SpreadExclusive) ∷ [])

-- `calculationMethod`
abbrev pub calculation_method_at : List ℕ → Option CalculationMethod
calculation_method_at = among ((codes "Compounding", Compounding) ∷ (codes "Averaging", Averaging) ∷ [])

-- `negativeInterestRateTreatment`
abbrev pub treatment_at : List ℕ → Option Treatment
treatment_at = among ((codes "NegativeInterestRateMethod", AsIs) ∷ (codes "ZeroInterestRateMethod", ZeroFloor) ∷ [])

-- `roundingDirection`
abbrev pub direction_at : List ℕ → Option Direction
direction_at = among ((codes "Up", Up) ∷ (codes "Down", Down) ∷ (codes "Nearest", ToNearest) ∷ [])

-- ---- `rollConvention`

-- the rolls that have a name
abbrev pub named_roll_at : List ℕ → Option RollCode
named_roll_at =
    among ((codes "EOM", Eom) ∷ (codes "IMM", Imm) ∷ (codes "NONE", NoRoll) ∷ (codes "MON", OnWeekday Mon)
    ∷ (codes "TUE", OnWeekday Tue) ∷ (codes "WED", OnWeekday Wed) ∷ (codes "THU", OnWeekday Thu)
    ∷ (codes "FRI", OnWeekday Fri) ∷ (codes "SAT", OnWeekday Sat) ∷ (codes "SUN", OnWeekday Sun) ∷ [])

-- a digit from 1 to 9
abbrev pub is_first_digit : ℕ → Bool
is_first_digit b = nat_le 49 b && nat_le b 57

-- a day number of at most 30
abbrev pub day_number_at : ℕ → Option RollCode
day_number_at n = if nat_le n 30 then Some (Dom n) else None

-- a day number from 1 to 30 in one or two digits, the first of them no zero
abbrev pub day_roll_at : List ℕ → Option RollCode
day_roll_at (a ∷ []) = if is_first_digit a then Some (Dom (a - 48)) else None
day_roll_at (a ∷ b ∷ []) =
    if is_first_digit a && nat_le 48 b && nat_le b 57 then day_number_at (10 * (a - 48) + (b - 48)) else None
day_roll_at _ = None

-- the first of two values that is there
abbrev pub first_there : {A : Type 0} → Option A → Option A → Option A
first_there None b = b
first_there (Some a) b = Some a

-- the roll that a text names, or its day of the month
abbrev pub roll_at : List ℕ → Option RollCode
roll_at s = first_there (named_roll_at s) (day_roll_at s)
