-- Private: no public contract rests on this file.
-- Of private functions: means and stubs.
use Rattle.std.specs.Prelude.{◌≡◌, ◌<◌, List, length, All, ℤ, pos, ◌≤ℤ◌, ℕ}
use Rattle.irs_overnight.specs.declared.observations.Observation.{Observation}
use Rattle.irs_average.specs.Averages.{sum_over}
use Rattle.irs_average.specs.declared.stubs.Side.{Side}
use Rattle.irs_average.specs.declared.stubs.Side.TheVariants.{Initial, Last}

-- ---- the two means of the rates that were observed in a calculation period, in units of 10^-9

-- the days of a period are shared out among its observations, of which there are some
pub record ShareOut (days : ℤ) (os : List Observation) : Type 0 where
  pub some : 0 < length os
  pub weights : All (λ o. pos 0 ≤ℤ o.weight) os
  pub whole : sum_over (λ o. o.weight) os ≡ days

-- ---- the stub of a stream on one of its two sides, and the index that is given for it

-- the number of the period on that side, of n periods: the first, or the last
abbrev pub number_on : Side → ℕ → ℕ
number_on Initial n = 1
number_on Last n = n
