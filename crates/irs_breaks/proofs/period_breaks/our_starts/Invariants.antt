use Rattle.std.proofs.Common.{◌≡◌, map, take, Some, ℤ}
use Rattle.irs_breaks.proofs.period_breaks.our_starts.Given as goal

-- the starts so far
abbrev pub invariant-loop-start : goal.invariant-loop-start
invariant-loop-start l = l.dates.items ≡ map (λ (d : ℤ). Some d) (take l.start-index l.starts)
