use Rattle.std.proofs.Common.{length}
use Rattle.irs_xml.proofs.MiscSteps.{MiscGoes}
use Rattle.irs_xml.proofs.document.misc.Given as goal

-- what is read from here gives what is read from the start
abbrev pub invariant-loop-reader : goal.invariant-loop-reader
invariant-loop-reader l = MiscGoes l.reader l.initial.reader

-- each comment or instruction that is read shortens what is left
abbrev pub decreases-loop-reader : goal.decreases-loop-reader
decreases-loop-reader l = length l.reader
