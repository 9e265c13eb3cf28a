use Rattle.std.proofs.Common.{◌≡◌, drop}
use Rattle.irs_xml.specs.Private.Reading.{after_any_case}
use Rattle.irs_xml.specs.Characters.{seen}
use Rattle.irs_xml.proofs.reader.Reader.eat_any_case.Given as goal

-- what is left of the word is ahead just where the whole word is at the front
abbrev pub invariant-loop-byte : goal.invariant-loop-byte
invariant-loop-byte l = after_any_case (drop l.byte-index l.word) l.ahead ≡ after_any_case l.word (seen l.self-inside.rest.now)
