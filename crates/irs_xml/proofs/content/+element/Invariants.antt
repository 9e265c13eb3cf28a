use Rattle.std.proofs.Common.{◌≡◌, ◌+◌, ◌*◌, length}
use Rattle.irs_xml.specs.Private.Reading.{inside_view, child_at}
use Rattle.irs_xml.specs.Private.TagViews.{scope_view}
use Rattle.irs_xml.proofs.ContentSteps.{ContentGoes}
use Rattle.irs_xml.proofs.content.+element.Given as goal

-- a child is the last step of its level: its element is one level deeper
abbrev pub decreases-child : goal.decreases-child
decreases-child l = 5 * l.levels

-- content is the third step of its level
abbrev pub decreases-content : goal.decreases-content
decreases-content l = 5 * l.levels + 2

-- an element is the first of the five steps of its level
abbrev pub decreases-element : goal.decreases-element
decreases-element l = 5 * l.levels + 4

-- what fills an element is the second step of its level
abbrev pub decreases-filled : goal.decreases-filled
decreases-filled l = 5 * l.levels + 3

-- a piece of content is the fourth step of its level
abbrev pub decreases-piece : goal.decreases-piece
decreases-piece l = 5 * l.levels + 1

-- what is read from here gives what is read from the start, and the scope is as it was
abbrev pub invariant-content-pieces : goal.invariant-content-pieces
invariant-content-pieces l = record {
  goes : ContentGoes (child_at l.root l.levels l.kept (scope_view l.initial.scope.items)) (inside_view l.inside) l.reader
      (inside_view l.initial.inside) l.initial.reader;
  scope : scope_view l.scope.items ≡ scope_view l.initial.scope.items;
}

-- each piece that is read shortens what is left
abbrev pub decreases-content-pieces : goal.decreases-content-pieces
decreases-content-pieces l = length l.reader
