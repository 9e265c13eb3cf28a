use Rattle.std.proofs.Common.{length}
use Rattle.irs_base.specs.Texts.{lines_of}
use Rattle.irs_resets.proofs.FileOutcomes.{EachDecided}
use Rattle.irs_resets.proofs.fixings.fixings_are_determined.Given as goal

-- if each remaining line spells a fixing or not, so does each line of the file
abbrev pub invariant-loop-rest : goal.invariant-loop-rest
invariant-loop-rest l = EachDecided (lines_of l.rest) → EachDecided (lines_of l.bytes)

-- each round takes a line
abbrev pub decreases-loop-rest : goal.decreases-loop-rest
decreases-loop-rest l = length l.rest
