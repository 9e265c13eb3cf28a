-- The grid of days that a frequency and a roll convention give from an anchor.
use Rattle.std.specs.Prelude.{◌≡◌, ℕ, ℤ, pos, ◌+ℤ◌, ◌-ℤ◌, ◌*ℤ◌, ◌⊎◌, ◌-◌, ◌%◌, ◌<◌, ◌≤◌, ◌*◌}
use Rattle.irs_base.specs.Days.{InMonth, weekday_at, dim, month_start, day_in_month, place_in_week}
use Rattle.irs_terms.specs.declared.codes.RollCode.{RollCode}
use Rattle.irs_terms.specs.declared.codes.RollCode.TheVariants.{Eom, Dom, Imm, OnWeekday, NoRoll}
use Rattle.irs_terms.specs.declared.frequency.Frequency.{Frequency}
use Rattle.irs_terms.specs.declared.frequency.Unit.{Unit as FrequencyUnit}
use Rattle.irs_terms.specs.declared.frequency.Unit.TheVariants.{D, W, M, Y, T}

-- ---- grids of days: which days are on a grid
-- Each day is tested by itself, without stepping.

-- z is a whole multiple of the step
pub record IsMultiple (step : ℕ) (z : ℤ) : Type 0 where
  pub times : ℤ
  pub is : z ≡ times *ℤ pos step

-- the month is `apart` months after the month of the anchor
pub record MonthsTo (anchor month apart : ℤ) : Type 0 where
  pub start : ℤ
  pub of_anchor : InMonth anchor start
  pub is : apart ≡ month -ℤ start

-- the day is the roll day of its month, which lies a whole multiple of the step from the month `start`
pub record OnMonthsFrom (is_roll : ℤ → ℤ → Type 0) (step : ℕ) (start d : ℤ) : Type 0 where
  pub month : ℤ
  pub of_day : InMonth d month
  pub rolls : is_roll month d
  pub apart : IsMultiple step (month -ℤ start)

-- the day is the roll day of its month, and the months between it and the anchor are a whole multiple of the step
pub record OnMonths (is_roll : ℤ → ℤ → Type 0) (step : ℕ) (anchor d : ℤ) : Type 0 where
  pub start : ℤ
  pub of_anchor : InMonth anchor start
  pub on : OnMonthsFrom is_roll step start d

-- the day is the roll day of its month
pub record OnRollDay (is_roll : ℤ → ℤ → Type 0) (d : ℤ) : Type 0 where
  pub month : ℤ
  pub of_day : InMonth d month
  pub rolls : is_roll month d

-- the days between the day and the anchor are a whole multiple of the step
abbrev pub OnDays : ℕ → ℤ → ℤ → Type 0
OnDays step anchor d = IsMultiple step (d -ℤ anchor)

-- the month or the day that lies k steps from the start
abbrev pub kth : ℤ → ℕ → ℤ → ℤ
kth start step k = start +ℤ k *ℤ pos step

-- ---- the roll day of a month: its last day, the day with a number, or its third Wednesday
-- A month is its index, counted from January of the year 0, and a day its number.

-- the day lies in the month, and the day after it doesn't
pub record IsLastDay (m d : ℤ) : Type 0 where
  pub in_month : InMonth d m
  pub none_after : InMonth (d +ℤ pos 1) m → ⊥

-- the day of the month with that number, or the last day where the month is shorter
abbrev pub IsNumbered : ℕ → ℤ → ℤ → Type 0
IsNumbered n m d = ((n ≤ dim m) × (d +ℤ pos 1 ≡ month_start m +ℤ pos n)) ⊎ ((dim m < n) × IsLastDay m d)

-- the Wednesday with exactly two earlier Wednesdays in its month
pub record IsThirdWednesday (m d : ℤ) : Type 0 where
  pub wednesday : weekday_at d ≡ 2
  pub in_month : InMonth d m
  pub two_before : InMonth (d -ℤ pos 14) m
  pub no_third : InMonth (d -ℤ pos 21) m → ⊥

-- the last day of a month, for every month
abbrev pub last_day_of : ℤ → ℤ
last_day_of m = day_in_month 31 m

-- the first Wednesday from the 15th on, for every month
abbrev pub third_wednesday : ℤ → ℤ
third_wednesday m = day_in_month 15 m +ℤ pos ((9 - weekday_at (day_in_month 15 m)) % 7)

-- ---- the grid that a frequency and a roll convention give from an anchor (FpML calculationPeriodFrequency,
-- paymentFrequency, rollConvention)

-- the day is the roll day of the month: the last day, the third Wednesday, or the day with the number. A
-- month shorter than the number rolls on its last day. No other roll gives a month a roll day
abbrev pub IsRollDay : RollCode → ℤ → ℤ → Type 0
IsRollDay Eom month d = IsLastDay month d
IsRollDay (Dom number) month d = IsNumbered number month d
IsRollDay Imm month d = IsThirdWednesday month d
IsRollDay (OnWeekday name) month d = ⊥
IsRollDay NoRoll month d = ⊥

-- the day is on the grid of this count of units from the anchor; the term has no grid
abbrev pub OnGridBy : FrequencyUnit → ℕ → RollCode → ℤ → ℤ → Type 0
OnGridBy D count roll anchor d = OnDays count anchor d
OnGridBy W count roll anchor d = OnDays (7 * count) anchor d
OnGridBy M count roll anchor d = OnMonths (IsRollDay roll) count anchor d
OnGridBy Y count roll anchor d = OnMonths (IsRollDay roll) (12 * count) anchor d
OnGridBy T count roll anchor d = ⊥

-- the day is on the grid of the frequency and the roll from the anchor, whether or not the roll fits the anchor
abbrev pub OnGrid : Frequency → RollCode → ℤ → ℤ → Type 0
OnGrid freq roll anchor d = OnGridBy freq.unit freq.count roll anchor d

-- the anchor falls on the weekday of the roll; without a roll every day fits
abbrev pub FitsWeek : RollCode → ℤ → Type 0
FitsWeek Eom anchor = ⊥
FitsWeek (Dom number) anchor = ⊥
FitsWeek Imm anchor = ⊥
FitsWeek (OnWeekday name) anchor = place_in_week name ≡ weekday_at anchor
FitsWeek NoRoll anchor = Unit {0}

-- in days every anchor fits, in weeks one on the weekday of the roll, and in months and years the roll day of
-- its month. The term requires nothing
abbrev pub FitsBy : FrequencyUnit → RollCode → ℤ → Type 0
FitsBy D roll anchor = Unit {0}
FitsBy W roll anchor = FitsWeek roll anchor
FitsBy M roll anchor = OnRollDay (IsRollDay roll) anchor
FitsBy Y roll anchor = OnRollDay (IsRollDay roll) anchor
FitsBy T roll anchor = Unit {0}

-- the roll fits the anchor
abbrev pub Fits : RollCode → Frequency → ℤ → Type 0
Fits roll freq anchor = FitsBy freq.unit roll anchor
