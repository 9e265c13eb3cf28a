use Rattle.std.proofs.Common.{length}
use Rattle.irs_elements.proofs.numbers.+digits_behind.Given as goal

-- each call takes a digit
abbrev pub decreases-digits_behind : goal.decreases-digits_behind
decreases-digits_behind l = length l.digits.now
