use Rattle.std.proofs.Common.{◌≡◌, drop}
use Rattle.irs_xml.specs.Characters.{rest_after, seen}
use Rattle.irs_xml.proofs.reader.Reader.eat.Given as goal

-- what is left of the word is ahead just where the whole word is at the front
abbrev pub invariant-loop-byte : goal.invariant-loop-byte
invariant-loop-byte l = rest_after (drop l.byte-index l.word) l.ahead ≡ rest_after l.word (seen l.self-inside.rest.now)
