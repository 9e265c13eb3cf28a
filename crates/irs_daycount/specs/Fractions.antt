-- Day count fractions: the 2006 ISDA Definitions, section 4.16.
use Rattle.std.specs.Prelude.{ℕ, Bool, not, ◌&&◌, ◌||◌, ◌==◌, if◌then◌else◌, ℤ, pos, ◌+ℤ◌, ◌-ℤ◌, ◌*ℤ◌, ◌≡◌, zero, suc}
use Rattle.std.specs.Prelude.{◌+◌, ◌*◌, ◌≤ℤ◌, unsigned_abs}
use Rattle.jiff_core.specs.Calendar.{days_in_month, is_leap_year}
use Rattle.irs_base.specs.Days.{year_of, month_of, day_of_month}
use Rattle.irs_base.specs.declared.day.Civil.{Civil}
use Rattle.irs_terms.specs.declared.results.Frac.{Frac}
use Rattle.irs_terms.specs.declared.codes.DayCountCode.{DayCountCode}
use Rattle.irs_terms.specs.declared.codes.DayCountCode.TheVariants.{OneOne, ActActIsda, Act365Fixed, Act360, Thirty360}
use Rattle.irs_terms.specs.declared.codes.DayCountCode.TheVariants.{ThirtyE360, ThirtyE360Isda}

-- ---- day counts by years of 360 days and months of 30, the 2006 ISDA Definitions, section 4.16
-- Date 1 is the start, date 2 the end.

-- year, month and day of the month
abbrev pub date_of : ℤ → Civil
date_of d = record { year = pos (year_of d); month = month_of d; day = day_of_month d }

-- 360 * (Y2 - Y1) + 30 * (M2 - M1) + (D2 - D1), where D1 and D2 are given
abbrev pub by_months : Civil → Civil → ℕ → ℕ → ℤ
by_months date1 date2 d1 d2 =
    pos 360 *ℤ (date2.year -ℤ date1.year) +ℤ pos 30 *ℤ (pos date2.month -ℤ pos date1.month) +ℤ (pos d2 -ℤ pos d1)

-- 30/360: D1 is the day of date 1, but 30 where that is 31
abbrev pub bond_d1 : Civil → ℕ
bond_d1 date1 = if date1.day == 31 then 30 else date1.day

-- 30/360: D2 is the day of date 2, but 30 where that is 31 and D1 is 30
abbrev pub bond_d2 : Civil → ℕ → ℕ
bond_d2 date2 d1 = if (date2.day == 31) && (d1 == 30) then 30 else date2.day

-- 30E/360: D1 and D2 are the days of the dates, but 30 where these are 31
abbrev pub euro_day : Civil → ℕ
euro_day date = if date.day == 31 then 30 else date.day

-- the last day of a February
abbrev pub is_february_end : Civil → Bool
is_february_end date = (date.month == 2) && (date.day == days_in_month date.year date.month)

-- 30E/360.ISDA: D1 is the day of date 1, but 30 where that is 31 or the last day of February
abbrev pub isda_d1 : Civil → ℕ
isda_d1 date1 = if (date1.day == 31) || is_february_end date1 then 30 else date1.day

-- 30E/360.ISDA: D2 is the day of date 2, but 30 where that is 31. The last day of February becomes 30 too, unless the
-- period is the stream's last
abbrev pub isda_d2 : Civil → Bool → ℕ
isda_d2 date2 last = if (date2.day == 31) || (is_february_end date2 && not last) then 30 else date2.day

-- 30/360 between two dates
abbrev pub bond_days : Civil → Civil → ℤ
bond_days date1 date2 = by_months date1 date2 (bond_d1 date1) (bond_d2 date2 (bond_d1 date1))

-- 30E/360 between two dates
abbrev pub euro_days : Civil → Civil → ℤ
euro_days date1 date2 = by_months date1 date2 (euro_day date1) (euro_day date2)

-- 30E/360.ISDA between two dates
abbrev pub isda_days : Civil → Civil → Bool → ℤ
isda_days date1 date2 last = by_months date1 date2 (isda_d1 date1) (isda_d2 date2 last)

-- ---- ACT/ACT.ISDA, the 2006 ISDA Definitions, section 4.16: days counted one by one, each by the length of its year

-- the day lies in a leap year
abbrev pub in_leap_year : ℤ → Bool
in_leap_year d = is_leap_year (pos (year_of d))

-- the day lies in a year of 365 days
abbrev pub in_common_year : ℤ → Bool
in_common_year d = not (in_leap_year d)

-- the number of days that pass the test, among the n days from s on
abbrev pub days_counted : (ℤ → Bool) → ℤ → ℕ → ℕ
days_counted test s zero = 0
days_counted test s (suc n) = days_counted test s n + (if test (s +ℤ pos n) then 1 else 0)

-- n days from s on: days of leap years over 366 and the other days over 365, brought to 365 * 366
abbrev pub act_act_parts : ℤ → ℕ → ℕ
act_act_parts s n = 365 * days_counted in_leap_year s n + 366 * days_counted in_common_year s n

-- the denominator that both lengths of a year divide
abbrev pub act_act_denominator : ℕ
act_act_denominator = 365 * 366

-- the fraction of the days from s, included, to e, excluded
pub record ActAct (s e : ℤ) (f : Frac) : Type 0 where
  pub days : ℕ
  pub ends : e ≡ s +ℤ pos days
  pub num : f.num ≡ pos (act_act_parts s days)
  pub den : f.den ≡ pos act_act_denominator

-- ---- the days and the fraction of a period from s to e by its day count, the 2006 ISDA Definitions, section 4.16
-- `last` says that the period is its stream's last.

-- the days of the period: by months of 30 for the three 30/360 kinds, else the days from s, included, to e, excluded
abbrev pub Days : DayCountCode → ℤ → ℤ → Bool → ℤ → Type 0
Days OneOne s e last n = n ≡ e -ℤ s
Days ActActIsda s e last n = n ≡ e -ℤ s
Days Act365Fixed s e last n = n ≡ e -ℤ s
Days Act360 s e last n = n ≡ e -ℤ s
Days Thirty360 s e last n = n ≡ bond_days (date_of s) (date_of e)
Days ThirtyE360 s e last n = n ≡ euro_days (date_of s) (date_of e)
Days ThirtyE360Isda s e last n = n ≡ isda_days (date_of s) (date_of e) last

-- the fraction of the period, over the denominator of its code and not reduced
abbrev pub Fraction : DayCountCode → ℤ → ℤ → Bool → Frac → Type 0
Fraction OneOne s e last f = (f.num ≡ pos 1) × (f.den ≡ pos 1)
Fraction ActActIsda s e last f = ActAct s e f
Fraction Act365Fixed s e last f = (f.num ≡ e -ℤ s) × (f.den ≡ pos 365)
Fraction Act360 s e last f = (f.num ≡ e -ℤ s) × (f.den ≡ pos 360)
Fraction Thirty360 s e last f = (f.num ≡ bond_days (date_of s) (date_of e)) × (f.den ≡ pos 360)
Fraction ThirtyE360 s e last f = (f.num ≡ euro_days (date_of s) (date_of e)) × (f.den ≡ pos 360)
Fraction ThirtyE360Isda s e last f = (f.num ≡ isda_days (date_of s) (date_of e) last) × (f.den ≡ pos 360)

-- the days as a function
abbrev pub days_by_code : DayCountCode → ℤ → ℤ → Bool → ℤ
days_by_code OneOne s e last = e -ℤ s
days_by_code ActActIsda s e last = e -ℤ s
days_by_code Act365Fixed s e last = e -ℤ s
days_by_code Act360 s e last = e -ℤ s
days_by_code Thirty360 s e last = bond_days (date_of s) (date_of e)
days_by_code ThirtyE360 s e last = euro_days (date_of s) (date_of e)
days_by_code ThirtyE360Isda s e last = isda_days (date_of s) (date_of e) last

-- the number of days of a period, as a function
unfoldable pub days_of : DayCountCode → ℤ → ℤ → Bool → ℤ
days_of code s e last = days_by_code code s e last

-- the numerator as a function
abbrev pub numerator_by_code : DayCountCode → ℤ → ℤ → Bool → ℤ
numerator_by_code OneOne s e last = pos 1
numerator_by_code ActActIsda s e last = pos (act_act_parts s (unsigned_abs (e -ℤ s)))
numerator_by_code Act365Fixed s e last = e -ℤ s
numerator_by_code Act360 s e last = e -ℤ s
numerator_by_code Thirty360 s e last = bond_days (date_of s) (date_of e)
numerator_by_code ThirtyE360 s e last = euro_days (date_of s) (date_of e)
numerator_by_code ThirtyE360Isda s e last = isda_days (date_of s) (date_of e) last

-- the denominator of a code
abbrev pub denominator_of : DayCountCode → ℤ
denominator_of OneOne = pos 1
denominator_of ActActIsda = pos act_act_denominator
denominator_of Act365Fixed = pos 365
denominator_of Act360 = pos 360
denominator_of Thirty360 = pos 360
denominator_of ThirtyE360 = pos 360
denominator_of ThirtyE360Isda = pos 360

-- the fraction as a function
unfoldable pub fraction_of : DayCountCode → ℤ → ℤ → Bool → Frac
fraction_of code s e last = record { num = numerator_by_code code s e last; den = denominator_of code }

-- a numerator lies from 0 to 366 times the days from s to e
abbrev pub IsNumerator : ℤ → ℤ → ℤ → Type 0
IsNumerator s e num = (pos 0 ≤ℤ num) × (num ≤ℤ (pos 366 *ℤ (e -ℤ s)))
