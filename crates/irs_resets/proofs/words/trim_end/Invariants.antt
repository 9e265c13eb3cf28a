use Rattle.std.proofs.Common.{◌≤◌, length}
use Rattle.irs_resets.proofs.WordLemmas.{AllFrom}
use Rattle.irs_resets.proofs.words.trim_end.Given as goal

-- all bytes from n on are spaces and tabs
abbrev pub invariant-loop-n : goal.invariant-loop-n
invariant-loop-n l = record { within : l.n ≤ length l.bytes; gap : AllFrom l.bytes l.n }

-- each round drops a byte
abbrev pub decreases-loop-n : goal.decreases-loop-n
decreases-loop-n l = l.n
