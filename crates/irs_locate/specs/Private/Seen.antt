-- Private: no public contract rests on this file.
-- The mathematical values that the types of this crate have.
use Rattle.irs_elements.specs.Elements.{referenced_texts}
use Rattle.irs_locate.specs.Lines as text
use Rattle.irs_locate.specs.Ways as ways
use Rattle.irs_locate.specs.declared.markup.Mark.{Mark}
use Rattle.irs_locate.specs.declared.markup.Mark.TheVariants.{Plain, Passed, Opening, Empty, Closing}
use Rattle.irs_locate.specs.declared.markup.Piece.{Piece}
use Rattle.irs_locate.specs.declared.members.Known as members
use Rattle.irs_locate.specs.declared.ways.Step.{Step}

-- a step of the way
abbrev pub step_seen : Step → ways.WayStep
step_seen s = record { name = s.name.now; number = s.number }

-- what a piece is
abbrev pub mark_seen : Mark → text.Mark
mark_seen Plain = text.plain
mark_seen Passed = text.passed
mark_seen (Opening name) = text.opening name.now
mark_seen (Empty name) = text.empty name.now
mark_seen Closing = text.closing

-- a piece
abbrev pub piece_seen : Piece → text.Piece
piece_seen p = record { mark = mark_seen p.mark; size = p.size }

-- a table of elements
abbrev pub known_seen : members.Known → ways.Known
known_seen t = record { rows = t.rows.now; names = referenced_texts t.names.now }
