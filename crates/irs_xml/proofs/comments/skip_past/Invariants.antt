use Rattle.std.proofs.Common.{◌≡◌, length}
use Rattle.irs_xml.specs.Private.Reading.{past}
use Rattle.irs_xml.proofs.comments.skip_past.Given as goal

-- the first mark in what is left is the first mark of the whole
abbrev pub invariant-loop-reader : goal.invariant-loop-reader
invariant-loop-reader l = past l.mark l.reader ≡ past l.mark l.initial.reader

-- each character that is passed over shortens what is left
abbrev pub decreases-loop-reader : goal.decreases-loop-reader
decreases-loop-reader l = length l.reader
