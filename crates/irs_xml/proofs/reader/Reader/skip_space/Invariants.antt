use Rattle.std.proofs.Common.{◌≡◌, length}
use Rattle.irs_xml.specs.Private.Reading.{skip_space}
use Rattle.irs_xml.specs.Characters.{seen}
use Rattle.irs_xml.proofs.reader.Reader.skip_space.Given as goal

-- skipping white space from here leads where skipping it from the start leads
abbrev pub invariant-loop-c : goal.invariant-loop-c
invariant-loop-c l = skip_space (seen l.self-inside.rest.now) ≡ skip_space (seen l.initial.self-inside.rest.now)

-- each character that is skipped shortens what is left
abbrev pub decreases-loop-c : goal.decreases-loop-c
decreases-loop-c l = length (seen l.self-inside.rest.now)
