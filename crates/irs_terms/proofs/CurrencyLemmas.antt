-- No currency has more than three decimals.
use Rattle.std.proofs.Common.{ℕ, ◌≤◌, Bool, true, false, List, if◌then◌else◌, arith}
use Rattle.std.specs.List.{list_any}
use Rattle.std.specs.Str.{bytes_eq}
use Rattle.irs_terms.specs.Lawful.{decimals_of, without_decimals, with_three_decimals}

few_by : (none three : Bool) → (if none then 0 else (if three then 3 else 2)) ≤ 3
few_by true three = omega arith
few_by false true = omega arith
few_by false false = omega arith

-- a currency has at most three decimals
pub decimals_few : (letters : List ℕ) → decimals_of letters ≤ 3
decimals_few letters =
    few_by (list_any (bytes_eq letters) without_decimals) (list_any (bytes_eq letters) with_three_decimals)
