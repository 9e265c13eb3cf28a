-- Values that ISO 8601 and the calendar give, and the roundings that this project states, so that a wrong
-- definition does not check.
use Rattle.std.proofs.Common.{◌≡◌, true, false, pos, negsuc, refl, rules, codes}
use Rattle.jiff_core.specs.Calendar.{is_leap_year, days_in_month, weekday_number}
use Rattle.irs_base.specs.Days.{weekday_at, first_day, last_day, year_walk, month_walk, year_part, month_part}
use Rattle.irs_base.specs.Limits.{Rounded, rounded}
use Rattle.irs_base.specs.Texts.{day_text}
use Rattle.irs_base.specs.declared.rounding.Direction.TheVariants.{Up, Down, Nearest}

-- of the centuries only every fourth is a leap year
leap_years : (is_leap_year (pos 1900) ≡ false) × (is_leap_year (pos 2000) ≡ true) × (is_leap_year (pos 2024) ≡ true)
    × (is_leap_year (pos 2100) ≡ false)
leap_years = (refl, refl, refl, refl)

februaries : (days_in_month (pos 2000) 2 ≡ 29) × (days_in_month (pos 2100) 2 ≡ 28)
februaries = (refl, refl)

-- 1970-01-01 was a Thursday, and 2024-01-15 a Monday
weekdays : (weekday_at (pos 0) ≡ 3) × (weekday_at (pos 19_737) ≡ 0)
unfolding weekday_number
weekdays = (refl, refl)

-- the ends of the range, and leap days
texts_of_days : (day_text first_day ≡ codes "1901-01-01") × (day_text last_day ≡ codes "2299-12-31")
    × (day_text (pos 11_016) ≡ codes "2000-02-29") × (day_text (negsuc 0) ≡ codes "1969-12-31")
unfolding day_text year_part month_part year_walk month_walk
texts_of_days = (refl, refl, refl, refl)

-- -1/2 is 0 by Nearest and by Up, and -1 by Down; a half goes up
halves : (rounded Nearest (negsuc 0) (pos 2) ≡ pos 0) × (rounded Up (negsuc 0) (pos 2) ≡ pos 0)
    × (rounded Down (negsuc 0) (pos 2) ≡ negsuc 0) × (rounded Nearest (pos 1) (pos 2) ≡ pos 1)
    × (rounded Nearest (negsuc 2) (pos 2) ≡ negsuc 0)
halves = (refl, refl, refl, refl, refl)

half_of_minus_one : Rounded Nearest (negsuc 0) (pos 2) (pos 0)
half_of_minus_one = search rules
