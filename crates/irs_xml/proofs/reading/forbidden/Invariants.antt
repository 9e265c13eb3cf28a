use denote.Shadow.{shadow}
use denote.Text.{Utf8}
use Rattle.std.proofs.Common.{◌≡◌, length}
use Rattle.std.specs.List.{list_all}
use Rattle.std.specs.Str.{chars}
use Rattle.irs_xml.specs.Characters.{is_char}
use Rattle.irs_xml.proofs.reading.forbidden.Given as goal

-- what is left is UTF-8, and XML allows all its characters just where it allows all of the text's
abbrev pub invariant-loop-byte : goal.invariant-loop-byte
invariant-loop-byte l = shadow (Utf8 l.left) × (list_all is_char (chars l.left) ≡ list_all is_char (chars l.text))

-- each character that is looked at shortens what is left
abbrev pub decreases-loop-byte : goal.decreases-loop-byte
decreases-loop-byte l = length l.left
