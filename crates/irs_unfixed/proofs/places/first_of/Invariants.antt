use Rattle.irs_base.proofs.MemberLemmas.{NoneOf}
use Rattle.irs_unfixed.specs.Unfixed.{LacksAmount}
use Rattle.irs_unfixed.proofs.places.first_of.Given as goal

-- each payment so far has its amount
abbrev pub invariant-loop-place : goal.invariant-loop-place
invariant-loop-place l = NoneOf LacksAmount l.payments l.place
