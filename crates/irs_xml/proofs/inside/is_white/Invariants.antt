use Rattle.std.proofs.Common.{◌≡◌, drop}
use Rattle.irs_xml.specs.Characters.{is_white}
use Rattle.irs_xml.proofs.inside.is_white.Given as goal

-- the whole is white just where what is left is
abbrev pub invariant-loop-byte : goal.invariant-loop-byte
invariant-loop-byte l = is_white (drop l.byte-index l.byte-items) ≡ is_white l.text
