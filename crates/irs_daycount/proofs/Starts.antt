-- How many days of its year are before a date.
use Rattle.std.proofs.Common.{◌≡◌, ℕ, ◌+◌, ℤ, pos, arith}
use Rattle.jiff_core.specs.Calendar.{day_of_year}
use Rattle.jiff_core.proofs.SignedLemmas.{signed_arith}
use Rattle.jiff_core.proofs.CalendarLemmas.{days_from_civil-day_count, day_count-day_of_year}
use Rattle.irs_base.specs.Days.{HasDate}
use Rattle.irs_base.proofs.DateWalks.{IsPlaced}

-- a day's place in its year, from 1, is that of its date
pub place_in_year : (d : ℤ) (y o m k : ℕ) → IsPlaced d y o → HasDate d (pos y) m k → o + 1 ≡ day_of_year (pos y) m k
place_in_year d y o m k a h =
    let c = days_from_civil-day_count (pos y) m k in
    let n = day_count-day_of_year (pos y) m k h.0.2.0 in
    omega (arith, signed_arith, c, n, a.there, h.1)
