-- The codes that a sentence lists are those that have a value, and the limits that it says are those of the profile.
use Rattle.std.proofs.Common.{◌≡◌, ℕ, Bool, true, false, ◌||◌, List, [], ◌∷◌, Option, Some, None, map, refl, ap}
use Rattle.std.proofs.Common.{arith, ◌∙◌}
use Rattle.std.proofs.Common.{◌++◌, codes, decimal, if◌then◌else◌}
use Rattle.std.proofs.lemmas.Fmt.{decimal_digit}
use Rattle.std.proofs.lemmas.Option.{same_Some}
use Rattle.std.specs.List.{list_any}
use Rattle.std.specs.Prelude.{is_some}
use Rattle.std.specs.Str.{bytes_eq}
use Rattle.irs_base.proofs.TextLemmas.{by_pairs, of_two_digits}
use Rattle.irs_base.specs.Texts.{two_digits}
use Rattle.irs_base.specs.declared.day.DayName.TheVariants as weekday
use Rattle.irs_base.specs.declared.rounding.Direction.TheVariants as direction
use Rattle.irs_terms.specs.declared.codes.CompCode.TheVariants as compounding
use Rattle.irs_terms.specs.declared.codes.ConvCode.TheVariants as convention
use Rattle.irs_terms.specs.declared.codes.DayCountCode.TheVariants as day_count
use Rattle.irs_terms.specs.declared.codes.DayKind.TheVariants as days
use Rattle.irs_terms.specs.declared.codes.Relative.TheVariants as relative
use Rattle.irs_terms.specs.declared.codes.RollCode.TheVariants as roll
use Rattle.irs_terms.specs.declared.codes.StubKind.TheVariants as stub
use Rattle.irs_terms.specs.declared.codes.Treatment.TheVariants as treatment
use Rattle.irs_terms.specs.declared.frequency.Unit.TheVariants as unit
use Rattle.irs_terms.specs.declared.parameters.CalculationMethod.TheVariants as method
use Rattle.irs_elements.specs.Codes.{among, day_roll_at, first_there, named_roll_at}
use Rattle.irs_elements.specs.Leaves.{has_value}
use Rattle.irs_elements.specs.declared.table.Leaf.{Leaf as LeafKind}
use Rattle.irs_elements.specs.declared.table.Leaf.TheVariants as leaf
use Rattle.irs_main.specs.Elements.{leaf_codes, rolls, value_words}

first_or : {A : Type 0} (b : Bool) (a : A) (o : Option A) → is_some (if b then Some a else o) ≡ (b || is_some o)
first_or true a o = refl
first_or false a o = refl

-- a text has a value in a list of codes exactly where it is one of the texts of the list
among_any : {A : Type 0} (rows : List (List ℕ × A)) (s : List ℕ)
    → is_some (among rows s) ≡ list_any (bytes_eq s) (map (λ (r : List ℕ × A). r.0) rows)
among_any [] s = refl
among_any (row ∷ rows) s =
    first_or (bytes_eq s row.0) row.1 (among rows s) ∙ ap (λ (b : Bool). bytes_eq s row.0 || b) (among_any rows s)

either_some : {A : Type 0} (a b : Option A) → is_some (first_there a b) ≡ (is_some a || is_some b)
either_some None b = refl
either_some (Some x) b = refl

-- the same for each kind of codes
pub listed_codes : (kind : LeafKind) (names : List (List ℕ)) → leaf_codes kind ≡ Some names → (s : List ℕ)
    → has_value kind s ≡ list_any (bytes_eq s) names
listed_codes leaf.Date names is s = absurd (cc is)
listed_codes leaf.Multiplier names is s = absurd (cc is)
listed_codes leaf.OffsetDays names is s = absurd (cc is)
listed_codes leaf.ObservationDays names is s = absurd (cc is)
listed_codes leaf.Precision names is s = absurd (cc is)
listed_codes leaf.Whole names is s = absurd (cc is)
listed_codes leaf.Notional names is s = absurd (cc is)
listed_codes leaf.Rate names is s = absurd (cc is)
listed_codes leaf.Amount names is s = absurd (cc is)
listed_codes leaf.Fraction names is s = absurd (cc is)
listed_codes leaf.Truth names is s =
    among_any ((codes "true", true) ∷ (codes "1", true) ∷ (codes "false", false) ∷ (codes "0", false) ∷ []) s
    ∙ ap (list_any (bytes_eq s)) (same_Some _ names is)
listed_codes leaf.CenterName names is s = absurd (cc is)
listed_codes leaf.IndexName names is s = absurd (cc is)
listed_codes leaf.CurrencyName names is s = absurd (cc is)
listed_codes leaf.Convention names is s =
    among_any ((codes "FOLLOWING", convention.Following) ∷ (codes "MODFOLLOWING", convention.ModFollowing)
    ∷ (codes "PRECEDING", convention.Preceding) ∷ (codes "MODPRECEDING", convention.ModPreceding)
    ∷ (codes "NEAREST", convention.Nearest) ∷ (codes "NONE", convention.Unadjusted) ∷ []) s
    ∙ ap (list_any (bytes_eq s)) (same_Some _ names is)
listed_codes leaf.PeriodUnit names is s =
    among_any ((codes "D", unit.D) ∷ (codes "W", unit.W) ∷ (codes "M", unit.M) ∷ (codes "Y", unit.Y)
    ∷ (codes "T", unit.T) ∷ []) s ∙ ap (list_any (bytes_eq s)) (same_Some _ names is)
listed_codes leaf.TenorUnit names is s =
    among_any ((codes "D", unit.D) ∷ (codes "W", unit.W) ∷ (codes "M", unit.M) ∷ (codes "Y", unit.Y) ∷ []) s
    ∙ ap (list_any (bytes_eq s)) (same_Some _ names is)
listed_codes leaf.OffsetUnit names is s =
    among_any ((codes "D", unit.D) ∷ []) s ∙ ap (list_any (bytes_eq s)) (same_Some _ names is)
listed_codes leaf.DayType names is s =
    among_any ((codes "Business", days.Business) ∷ (codes "Calendar", days.Calendar) ∷ []) s
    ∙ ap (list_any (bytes_eq s)) (same_Some _ names is)
listed_codes leaf.StubType names is s =
    among_any ((codes "ShortInitial", stub.ShortInitial) ∷ (codes "LongInitial", stub.LongInitial)
    ∷ (codes "ShortFinal", stub.ShortFinal) ∷ (codes "LongFinal", stub.LongFinal) ∷ []) s
    ∙ ap (list_any (bytes_eq s)) (same_Some _ names is)
listed_codes leaf.Roll names is s = absurd (cc is)
listed_codes leaf.PayRelative names is s =
    among_any ((codes "CalculationPeriodStartDate", relative.Start)
    ∷ (codes "CalculationPeriodEndDate", relative.End) ∷ []) s ∙ ap (list_any (bytes_eq s)) (same_Some _ names is)
listed_codes leaf.ResetRelative names is s =
    among_any ((codes "CalculationPeriodStartDate", relative.Start)
    ∷ (codes "CalculationPeriodEndDate", relative.End) ∷ []) s ∙ ap (list_any (bytes_eq s)) (same_Some _ names is)
listed_codes leaf.DayCount names is s =
    among_any ((codes "1/1", day_count.OneOne) ∷ (codes "ACT/ACT.ISDA", day_count.ActActIsda)
    ∷ (codes "ACT/365.FIXED", day_count.Act365Fixed) ∷ (codes "ACT/360", day_count.Act360)
    ∷ (codes "30/360", day_count.Thirty360) ∷ (codes "30E/360", day_count.ThirtyE360)
    ∷ (codes "30E/360.ISDA", day_count.ThirtyE360Isda) ∷ []) s ∙ ap (list_any (bytes_eq s)) (same_Some _ names is)
listed_codes leaf.Compounding names is s =
    among_any ((codes "None", compounding.Simple) ∷ (codes "Straight", compounding.Straight)
    ∷ (codes "Flat", compounding.Flat) ∷ (codes "SpreadExclusive", compounding.SpreadExclusive) ∷ []) s
    ∙ ap (list_any (bytes_eq s)) (same_Some _ names is)
listed_codes leaf.CalculationMethod names is s =
    among_any ((codes "Compounding", method.Compounding) ∷ (codes "Averaging", method.Averaging) ∷ []) s
    ∙ ap (list_any (bytes_eq s)) (same_Some _ names is)
listed_codes leaf.Treatment names is s =
    among_any ((codes "NegativeInterestRateMethod", treatment.AsIs)
    ∷ (codes "ZeroInterestRateMethod", treatment.ZeroFloor) ∷ []) s
    ∙ ap (list_any (bytes_eq s)) (same_Some _ names is)
listed_codes leaf.Direction names is s =
    among_any ((codes "Up", direction.Up) ∷ (codes "Down", direction.Down)
    ∷ (codes "Nearest", direction.Nearest) ∷ []) s ∙ ap (list_any (bytes_eq s)) (same_Some _ names is)

pub listed_rolls : (s : List ℕ) → has_value leaf.Roll s ≡ (list_any (bytes_eq s) rolls || is_some (day_roll_at s))
listed_rolls s =
    either_some (named_roll_at s) (day_roll_at s)
    ∙ ap (λ (b : Bool). b || is_some (day_roll_at s)) (among_any ((codes "EOM", roll.Eom) ∷ (codes "IMM", roll.Imm)
    ∷ (codes "NONE", roll.NoRoll) ∷ (codes "MON", roll.OnWeekday weekday.Mon)
    ∷ (codes "TUE", roll.OnWeekday weekday.Tue) ∷ (codes "WED", roll.OnWeekday weekday.Wed)
    ∷ (codes "THU", roll.OnWeekday weekday.Thu) ∷ (codes "FRI", roll.OnWeekday weekday.Fri)
    ∷ (codes "SAT", roll.OnWeekday weekday.Sat) ∷ (codes "SUN", roll.OnWeekday weekday.Sun) ∷ []) s)

-- ---- limits in words

decimal_999 : decimal 999 ≡ codes "999"
decimal_999 = by_pairs 999 (omega arith) (omega arith)
    ∙ ap (λ (ds : List ℕ). ds ++ two_digits 99) (decimal_digit 9 (omega arith))

decimal_128 : decimal 128 ≡ codes "128"
decimal_128 = by_pairs 128 (omega arith) (omega arith)
    ∙ ap (λ (ds : List ℕ). ds ++ two_digits 28) (decimal_digit 1 (omega arith))

pub of_multiplier : value_words leaf.Multiplier ≡ codes "a whole number from 1 to 999"
of_multiplier = rw decimal_999 refl

pub of_offset : value_words leaf.OffsetDays ≡ codes "a whole number from -60 to 60"
of_offset = rw (of_two_digits 60 (omega arith) (omega arith)) refl

pub of_observation : value_words leaf.ObservationDays ≡ codes "a whole number from 1 to 30"
of_observation = rw (of_two_digits 30 (omega arith) (omega arith)) refl

pub of_center : value_words leaf.CenterName ≡ codes "1 to 32 bytes from ! to ~"
of_center = rw (of_two_digits 32 (omega arith) (omega arith)) refl

pub of_index : value_words leaf.IndexName ≡ codes "1 to 128 bytes without a control"
of_index = rw decimal_128 refl
