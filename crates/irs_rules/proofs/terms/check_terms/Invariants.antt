use Rattle.irs_rules.proofs.Streams.{NoStreamBelow}
use Rattle.irs_rules.proofs.terms.check_terms.Given as goal

-- none of the first i streams breaks a rule
abbrev pub invariant-loop-i : goal.invariant-loop-i
invariant-loop-i l = NoStreamBelow l.swap.streams l.cal l.i
