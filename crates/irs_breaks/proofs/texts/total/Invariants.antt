use Rattle.irs_breaks.specs.Findings.{counted_as}
use Rattle.irs_breaks.proofs.TextSums.{SumsTo}
use Rattle.irs_breaks.proofs.texts.total.Given as goal

-- the sum so far is that of the pairs before this one
abbrev pub invariant-loop-counts : goal.invariant-loop-counts
invariant-loop-counts l = SumsTo (counted_as l.way) l.pairs l.counts-index l.sum
