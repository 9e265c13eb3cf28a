-- What has accrued on a day, and its line.
use Rattle.std.specs.Prelude.{◌≡◌, false, ℤ, pos, ◌-ℤ◌, ◌<ℤ◌, ◌⊎◌, ℕ, ◌-◌, ◌^◌, ◌≤◌, List, length, Option, Some, None}
use Rattle.std.specs.Prelude.{◌*ℤ◌, ◌≤ℤ◌, unsigned_abs, IfSome, ◌∷◌, ◌++◌, codes}
use Rattle.std.specs.Fmt.{decimal, signed_decimal}
use Rattle.irs_base.specs.Limits.{most_rate, Rounded}
use Rattle.irs_base.specs.Lists.{HoldsOf, day_at}
use Rattle.irs_base.specs.declared.line.Dec.{Dec}
use Rattle.irs_base.specs.declared.rounding.Direction.TheVariants.{Nearest}
use Rattle.irs_terms.specs.declared.codes.DayCountCode.{DayCountCode}
use Rattle.irs_terms.specs.declared.codes.DayCountCode.TheVariants.{OneOne, ActActIsda, Act365Fixed, Act360, Thirty360}
use Rattle.irs_terms.specs.declared.codes.DayCountCode.TheVariants.{ThirtyE360, ThirtyE360Isda}
use Rattle.irs_terms.specs.declared.results.Frac.{Frac}
use Rattle.irs_terms.specs.Lawful.{decimals_of}
use Rattle.irs_daycount.specs.Fractions.{Days, Fraction, denominator_of}
use Rattle.irs_schedule.specs.Parts.{Part}
use Rattle.irs_schedule.specs.RowsOf.{period_at, dec_or_dash}
use Rattle.irs_schedule.specs.declared.views.CalculationPeriod.{CalculationPeriod}
use Rattle.irs_accrue.specs.declared.accruals.Accrual.{Accrual}
use Rattle.irs_accrue.specs.declared.accruals.Accrual.TheVariants.{Outside, Inside}

-- ---- the part of a calculation period that has run before a day; that it is counted so is our rule
-- The period runs from s, included, to e, excluded, and d is a day of it.

-- days and fraction by a code that counts from s to d. On the first day there are none. After it they are those of a
-- period from s to d that isn't its stream's last
pub record CountedTo (code : DayCountCode) (s d days : ℤ) (frac : Frac) : Type 0 where
  pub none : d ≡ s → (days ≡ pos 0) × (frac.num ≡ pos 0) × (frac.den ≡ denominator_of code)
  pub some : s <ℤ d → Days code s d false days × Fraction code s d false frac

-- days and fraction by 1/1, where the whole period is 1: the days that have run, of all its days
pub record OfWhole (s d e days : ℤ) (frac : Frac) : Type 0 where
  pub passed : days ≡ d -ℤ s
  pub num : frac.num ≡ d -ℤ s
  pub den : frac.den ≡ e -ℤ s

-- the days that have run before d, and their fraction
abbrev pub HasRun : DayCountCode → ℤ → ℤ → ℤ → ℤ → Frac → Type 0
HasRun OneOne s d e days frac = OfWhole s d e days frac
HasRun ActActIsda s d e days frac = CountedTo ActActIsda s d days frac
HasRun Act365Fixed s d e days frac = CountedTo Act365Fixed s d days frac
HasRun Act360 s d e days frac = CountedTo Act360 s d days frac
HasRun Thirty360 s d e days frac = CountedTo Thirty360 s d days frac
HasRun ThirtyE360 s d e days frac = CountedTo ThirtyE360 s d days frac
HasRun ThirtyE360Isda s d e days frac = CountedTo ThirtyE360Isda s d days frac

-- ---- what has accrued on a day: the simple interest of the calculation period that runs on it
-- That nothing but this period is looked at is our rule.

-- v is notional times rate times fraction to the nearest unit of this number of decimals. Notionals are in units of
-- 10^-4 and rates in units of 10^-9
pub record IsInterest (places : ℕ) (notional rate : ℤ) (frac : Frac) (v : Dec) : Type 0 where
  pub decimals : v.places ≡ places
  pub rounded : Rounded Nearest (notional *ℤ rate *ℤ frac.num *ℤ pos (10 ^ places)) (frac.den *ℤ pos (10 ^ 13)) v.units

-- the rate is known and at most 10 in size
pub record IsPriced (known : Option ℤ) (rate : ℤ) : Type 0 where
  pub is : known ≡ Some rate
  pub within : unsigned_abs rate ≤ most_rate

-- the amount is absent where the rate isn't known, or passes 10 in size; else it is the interest
abbrev pub IsAccrued : ℕ → ℤ → Option ℤ → Frac → Option Dec → Type 0
IsAccrued places notional known frac None = (rate : ℤ) → IsPriced known rate → ⊥
IsAccrued places notional known frac (Some v) =
    (rate : ℤ) × IsPriced known rate × IsInterest places notional rate frac v

-- the period with this number, from 1, runs on d: from its adjusted start, included, to its adjusted end, excluded
pub record Runs (p : Part) (d : ℤ) (number : ℕ) (period : CalculationPeriod) : Type 0 where
  pub from_one : 1 ≤ number
  pub is : period_at p (number - 1) ≡ Some period
  pub started : period.adjusted_start ≤ℤ d
  pub not_ended : d <ℤ period.adjusted_end

-- what has accrued of the period that runs on d
pub record AccruesIn (p : Part) (d : ℤ) (number : ℕ) (days : ℤ) (frac : Frac) (amount : Option Dec) : Type 0 where
  pub period : CalculationPeriod
  pub runs : Runs p d number period
  pub has_run : HasRun p.day_count period.adjusted_start d period.adjusted_end days frac
  pub accrued : IsAccrued (decimals_of p.currency.letters) period.notional period.rate frac amount

-- d is before the first adjusted boundary, or not before the last
abbrev pub IsOutside : Part → ℤ → Type 0
IsOutside p d = (d <ℤ day_at p.adjusted 0) ⊎ (day_at p.adjusted (length p.periods) ≤ℤ d)

-- what has accrued on d in a stream
abbrev pub IsAccrual : Part → ℤ → Accrual → Type 0
IsAccrual p d Outside = IsOutside p d
IsAccrual p d (Inside number days frac amount) = AccruesIn p d number days frac amount

-- what has accrued on d in the stream with this number, from 1
abbrev pub Accrues : List Part → ℕ → ℤ → Accrual → Type 0
Accrues parts stream d a = HoldsOf (λ p. IsAccrual p d a) parts stream

-- an amount has at most 12 decimals
abbrev pub AccrualHasPlaces : Accrual → Type 0
AccrualHasPlaces Outside = Unit {0}
AccrualHasPlaces (Inside number days frac amount) = IfSome amount (λ v. v.places ≤ 12)

-- ---- the line of what has accrued in a stream

-- the fields after the stream's number
abbrev pub accrual_fields : Accrual → List ℕ
accrual_fields Outside = codes " none"
accrual_fields (Inside number days frac amount) =
    32 ∷ decimal number ++ 32 ∷ signed_decimal days ++ 32 ∷ signed_decimal frac.num ++ 47 ∷ signed_decimal frac.den
    ++ 32 ∷ dec_or_dash amount

-- `a STREAM none` or `a STREAM PERIOD DAYS NUM/DEN AMOUNT`, `-` where there is no amount, and a line feed
unfoldable pub accrual_text : ℕ → Accrual → List ℕ
accrual_text stream a = (codes "a" ++ 32 ∷ decimal stream ++ accrual_fields a) ++ codes "\n"
