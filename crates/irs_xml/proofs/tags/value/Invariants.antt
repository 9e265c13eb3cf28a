use Rattle.std.proofs.Common.{length, string_bytes}
use Rattle.irs_xml.proofs.ValueSteps.{ValueGoes}
use Rattle.irs_xml.proofs.tags.value.Given as goal

-- what is left, after the text so far, gives the value that the whole gives
abbrev pub invariant-loop-c : goal.invariant-loop-c
invariant-loop-c l = ValueGoes l.quote (string_bytes l.text) l.reader l.initial.reader

-- each character that is read shortens what is left
abbrev pub decreases-loop-c : goal.decreases-loop-c
decreases-loop-c l = length l.reader
