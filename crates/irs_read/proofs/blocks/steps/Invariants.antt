use Rattle.irs_read.proofs.blocks.steps.Given as goal
use Rattle.irs_read.{proofs.EachSaid.SoFar, specs.Private.Sayings.number_by, specs.StreamElements.step}

-- the steps so far are those that the items so far say
abbrev pub invariant-loop-found : goal.invariant-loop-found
invariant-loop-found l = SoFar (step (number_by l.scale)).says l.found-items l.found-index l.steps
