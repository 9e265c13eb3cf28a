use Rattle.irs_audit.specs.Private.Comparisons.{flow_parts_of}
use Rattle.irs_audit.proofs.StreamLemmas.{NoneUpTo}
use Rattle.irs_audit.proofs.agreement.first_departure.Given as goal

-- no stream before this place departs
abbrev pub invariant-loop-place : goal.invariant-loop-place
invariant-loop-place l = NoneUpTo (flow_parts_of l.theirs) l.ours l.place
