use Rattle.std.proofs.Common.{◌≡◌, length, string_bytes}
use Rattle.irs_xml.specs.Private.Reading.{data_at}
use Rattle.irs_xml.proofs.comments.data.Given as goal

-- what is left, after the text so far, gives what the whole gives
abbrev pub invariant-loop-reader : goal.invariant-loop-reader
invariant-loop-reader l = data_at (string_bytes l.text) l.reader ≡ data_at (string_bytes l.initial.text) l.initial.reader

-- each character that is read shortens what is left
abbrev pub decreases-loop-reader : goal.decreases-loop-reader
decreases-loop-reader l = length l.reader
