use Rattle.std.proofs.Common.{length}
use denote.Text.{Utf8}
use denote.Shadow.{shadow}
use Rattle.irs_xml.specs.Private.Reading.{SplitsPlain}
use Rattle.irs_xml.proofs.reader.plain_rest.Given as goal

-- what is left is UTF-8, and the text is plain characters and then what is left
abbrev pub invariant-loop-byte : goal.invariant-loop-byte
invariant-loop-byte l = shadow (Utf8 l.left) × SplitsPlain l.text l.left

-- each character that is passed over shortens what is left
abbrev pub decreases-loop-byte : goal.decreases-loop-byte
decreases-loop-byte l = length l.left
