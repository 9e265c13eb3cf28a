-- Private: no public contract rests on this file.
-- How large the numbers are of which an amount is worked out.
use Rattle.std.specs.Prelude.{ℕ, ◌*◌, ◌^◌, pos, ◌≤ℤ◌, ◌<ℤ◌}
use Rattle.irs_base.specs.Days.{all_days}
use Rattle.irs_base.specs.Limits.{most_notional, most_numerator, most_rate}
use Rattle.irs_terms.specs.declared.results.Frac.{Frac}

-- the numerator is one of a day count; the denominator is one, or a number of days
pub record IsSmall (frac : Frac) : Type 0 where
  pub num_low : pos 0 ≤ℤ frac.num
  pub num_high : frac.num ≤ℤ pos most_numerator
  pub den_low : pos 0 <ℤ frac.den
  pub den_high : frac.den ≤ℤ pos all_days

-- the greatest product of a notional, a rate and a numerator
abbrev pub most_product : ℕ
most_product = most_notional * most_rate * most_numerator

-- the same times 1,000, for a currency of three decimals
abbrev pub most_scaled : ℕ
most_scaled = most_product * 1_000

-- the greatest denominator in units of 10^-13
abbrev pub most_divisor : ℕ
most_divisor = all_days * 10 ^ 13
