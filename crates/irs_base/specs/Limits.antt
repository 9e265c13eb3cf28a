-- Numbers: their limits, which are our rule, and their rounding.
use Rattle.std.specs.Prelude.{ℕ, ◌+◌, ◌*◌, ◌^◌, ℤ, pos, ◌+ℤ◌, ◌-ℤ◌, ◌*ℤ◌, ◌≤ℤ◌, ◌<ℤ◌, int_lt, if◌then◌else◌}
use Rattle.std.specs.Int.{int_div_euclid, int_rem_euclid}
use Rattle.irs_base.specs.declared.rounding.Direction.{Direction}
use Rattle.irs_base.specs.declared.rounding.Direction.TheVariants.{Up, Down, Nearest}

-- ---- the limits of terms, of files and of what is worked out of them
-- They are our rule.

-- the most streams of a swap
abbrev pub most_streams : ℕ
most_streams = 8

-- the most calculation periods of a stream
abbrev pub most_periods : ℕ
most_periods = 8_000

-- the most steps of a schedule of values
abbrev pub most_steps : ℕ
most_steps = 4_000

-- the most principal exchanges of a stream: one for each step, the initial and the final one
abbrev pub most_exchanges : ℕ
most_exchanges = most_steps + 2

-- the most centres of an element
abbrev pub most_centers : ℕ
most_centers = 16

-- the greatest multiplier of a frequency
abbrev pub most_multiplier : ℕ
most_multiplier = 999

-- the most days of an offset
abbrev pub most_offset : ℕ
most_offset = 60

-- the most days of an observation shift, a lookback or a lockout
abbrev pub most_observation_offset : ℕ
most_observation_offset = 30

-- 10^13, in units of 10^-4
abbrev pub most_notional : ℕ
most_notional = 10 ^ 17

-- 10, in units of 10^-9: the greatest rate, spread and multiplier in size
abbrev pub most_rate : ℕ
most_rate = 10 ^ 10

-- no numerator of a day count fraction is greater: 366 times the number of days is 53,337,912
abbrev pub most_numerator : ℕ
most_numerator = 6 * 10 ^ 7

-- the most bytes of the index of a rate
abbrev pub most_index : ℕ
most_index = 128

-- the most bytes of the name of a centre
abbrev pub most_name : ℕ
most_name = 32

-- the most holidays of a centre
abbrev pub most_holidays : ℕ
most_holidays = 20_000

-- the most calendar files
abbrev pub most_files : ℕ
most_files = 16

-- the most bytes of a file
abbrev pub most_bytes : ℕ
most_bytes = 4_194_304

-- the most rows of each kind in the cash flows of a stream
abbrev pub most_rows : ℕ
most_rows = 10_000

-- ---- rounding of p/q to a whole number, q above 0

-- m is p/q rounded; a half goes towards plus infinity
abbrev pub Rounded : Direction → ℤ → ℤ → ℤ → Type 0
Rounded Up p q m = ((q *ℤ m -ℤ q) <ℤ p) × (p ≤ℤ (q *ℤ m))
Rounded Down p q m = ((q *ℤ m) ≤ℤ p) × (p <ℤ (q *ℤ m +ℤ q))
Rounded Nearest p q m =
    ((pos 2 *ℤ q *ℤ m) ≤ℤ (pos 2 *ℤ p +ℤ q)) × ((pos 2 *ℤ p +ℤ q) <ℤ (pos 2 *ℤ q *ℤ m +ℤ pos 2 *ℤ q))

-- the rounded number as a function, by quotient and rest
abbrev pub rounded : Direction → ℤ → ℤ → ℤ
rounded Down p q = int_div_euclid p q
rounded Up p q = if int_lt (pos 0) (int_rem_euclid p q) then int_div_euclid p q +ℤ pos 1 else int_div_euclid p q
rounded Nearest p q =
    if int_lt (int_rem_euclid p q) (q -ℤ int_rem_euclid p q) then int_div_euclid p q else int_div_euclid p q +ℤ pos 1
