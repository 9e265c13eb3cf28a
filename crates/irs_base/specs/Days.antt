-- Days and months by their numbers, and the dates that they are.
use Rattle.std.specs.Prelude.{◌≡◌, ℕ, ℤ, pos, negsuc, ◌+ℤ◌, ◌-ℤ◌, ◌*ℤ◌, zero, suc, ◌+◌, ◌-◌, ◌/◌, ◌%◌, min, ◌≤ℤ◌, ◌<ℤ◌}
use Rattle.std.specs.Prelude.{nat_lt, if◌then◌else◌, unsigned_abs}
use Rattle.jiff_core.specs.Calendar.{IsBetween, IsCivilDate, days_from_civil, weekday_number, days_in_month}
use Rattle.jiff_core.specs.Calendar.{days_in_year}
use Rattle.irs_base.specs.declared.day.Civil.{Civil}
use Rattle.irs_base.specs.declared.day.DayName.{DayName}
use Rattle.irs_base.specs.declared.day.DayName.TheVariants.{Mon, Tue, Wed, Thu, Fri, Sat, Sun}

-- ---- days, as numbers counted from 1970-01-01 in the proleptic Gregorian calendar

-- 1901-01-01
abbrev pub first_day : ℤ
first_day = negsuc 25_201

-- 2299-12-31
abbrev pub last_day : ℤ
last_day = pos 120_529

-- how many days there are
abbrev pub all_days : ℕ
all_days = 145_732

-- the years of the first and of the last day
abbrev pub first_year : ℕ
first_year = 1901

abbrev pub last_year : ℕ
last_year = 2299

-- their months, January 1901 and December 2299, counted from January of the year 0
abbrev pub first_month : ℕ
first_month = 22_812

abbrev pub last_month : ℕ
last_month = 27_599

-- the days that there are
abbrev pub IsDay : ℤ → Type 0
IsDay d = IsBetween first_day last_day d

-- the day d has this date in the proleptic Gregorian calendar
abbrev pub HasDate : ℤ → ℤ → ℕ → ℕ → Type 0
HasDate d y m day = IsCivilDate y m day × (d ≡ days_from_civil y m day)

-- the month, counted from January of the year 0
abbrev pub month_index_of : ℤ → ℕ → ℤ
month_index_of y m = pos 12 *ℤ y +ℤ pos m -ℤ pos 1

-- Monday is 0 and Sunday 6
abbrev pub weekday_at : ℤ → ℕ
weekday_at d = weekday_number d

-- ---- months, counted from January of the year 0, for every whole number

-- the year of a month
abbrev pub year_of_month : ℤ → ℤ
year_of_month (pos n) = pos (n / 12)
year_of_month (negsuc n) = negsuc (n / 12)

-- its place in the year, from 1
abbrev pub month_in_year : ℤ → ℕ
month_in_year (pos n) = n % 12 + 1
month_in_year (negsuc n) = 12 - n % 12

-- how many days it has
unfoldable pub dim : ℤ → ℕ
dim m = days_in_month (year_of_month m) (month_in_year m)

-- the day 0001 of a month: each month begins where the one before it ends, and January 1970 begins on day 0
unfoldable pub first_from_zero : ℕ → ℤ
first_from_zero zero = negsuc 719_527
first_from_zero (suc n) = first_from_zero n +ℤ pos (dim (pos n))

-- the first day of the month that is n + 1 months before January of the year 0
unfoldable pub first_before_zero : ℕ → ℤ
first_before_zero zero = negsuc 719_527 -ℤ pos (dim (negsuc 0))
first_before_zero (suc n) = first_before_zero n -ℤ pos (dim (negsuc (suc n)))

-- the first day of a month
unfoldable pub month_start : ℤ → ℤ
month_start (pos n) = first_from_zero n
month_start (negsuc n) = first_before_zero n

-- the day lies in the month
pub record InMonth (d m : ℤ) : Type 0 where
  pub from : month_start m ≤ℤ d
  pub to : d <ℤ (month_start m +ℤ pos (dim m))

-- the day of the month with that number, or its last day where the month is shorter
abbrev pub day_in_month : ℕ → ℤ → ℤ
day_in_month n m = month_start m +ℤ pos (min n (dim m)) -ℤ pos 1

-- ---- the date of a day, by counting on from 1 January 1901: whole years first, then whole months

-- the day n days after 1 January of the year y: its year, and the days since 1 January of that year
unfoldable pub year_walk : ℕ → ℕ → ℕ → ℕ × ℕ
year_walk zero y n = (y, n)
year_walk (suc k) y n =
    if nat_lt n (days_in_year (pos y)) then (y, n) else year_walk k (y + 1) (n - days_in_year (pos y))

-- the same by months
unfoldable pub month_walk : ℕ → ℤ → ℕ → ℕ → ℕ × ℕ
month_walk zero y m n = (m, n)
month_walk (suc k) y m n =
    if nat_lt n (days_in_month y m) then (m, n) else month_walk k y (m + 1) (n - days_in_month y m)

-- the year of a day, and how many days after its 1 January it is
unfoldable pub year_part : ℤ → ℕ × ℕ
year_part d = year_walk (last_year - first_year) first_year (unsigned_abs (d -ℤ first_day))

-- the month of a day, from 1, and how many days after the month's first it is
unfoldable pub month_part : ℤ → ℕ × ℕ
month_part d = month_walk 11 (pos (year_part d).0) 1 (year_part d).1

-- the year of a day
abbrev pub year_of : ℤ → ℕ
year_of d = (year_part d).0

-- its month, from 1
abbrev pub month_of : ℤ → ℕ
month_of d = (month_part d).0

-- its day in the month, from 1
abbrev pub day_of_month : ℤ → ℕ
day_of_month d = (month_part d).1 + 1

-- ---- dates and weekdays as values of the crate

-- the day d has the date c
abbrev pub IsCivilOf : ℤ → Civil → Type 0
IsCivilOf d c = HasDate d c.year c.month c.day

-- the place in the week, from Monday
abbrev pub place_in_week : DayName → ℕ
place_in_week Mon = 0
place_in_week Tue = 1
place_in_week Wed = 2
place_in_week Thu = 3
place_in_week Fri = 4
place_in_week Sat = 5
place_in_week Sun = 6
