use Rattle.irs_unfixed.proofs.PlaceLemmas.{NoneIn}
use Rattle.irs_unfixed.proofs.places.first_unfixed.Given as goal

-- each payment of the streams so far has its amount
abbrev pub invariant-loop-place : goal.invariant-loop-place
invariant-loop-place l = NoneIn l.schedule l.place
