use Rattle.std.proofs.Common.{◌≡◌, length}
use Rattle.irs_xml.specs.Characters.{rest_after, seen}
use Rattle.irs_xml.proofs.reader.Reader.eat_name.Given as goal

-- what is left of the name is ahead just where the whole name is at the front
abbrev pub invariant-loop-c : goal.invariant-loop-c
invariant-loop-c l = rest_after l.word l.ahead ≡ rest_after (seen l.name) (seen l.self-inside.rest.now)

-- each character that is compared shortens the name
abbrev pub decreases-loop-c : goal.decreases-loop-c
decreases-loop-c l = length l.word
