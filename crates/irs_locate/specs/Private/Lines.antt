-- Private: no public contract rests on this file.
-- Of private functions: lines, and ways to elements.
use Rattle.std.specs.Prelude.{◌≡◌, ℕ, ◌+◌, ◌≤◌, List, [], ◌∷◌, ◌++◌, drop, Option, Some, None, length, if◌then◌else◌}
use Rattle.irs_locate.specs.Lines.{Piece, opening, empty, piece_of, Open, IsOpenAfter}
use Rattle.irs_locate.specs.declared.lines.Tag.{Tag}
use Rattle.irs_locate.specs.Ways.{others_in, names_on_way}

-- ---- the line of an element in a text in XML, from 1

-- ---- the line of an element

-- what the tag of the root is
abbrev pub root_piece : Tag → Piece
root_piece tag =
    if tag.is_empty then record { mark = empty tag.name.now; size = tag.size } else
    record { mark = opening tag.name.now; size = tag.size }

-- no element is open before the tag
pub record IsRootTag (text : List ℕ) (tag : Tag) : Type 0 where
  pub within : IsOpenAfter text tag.at ([] ∷ [])
  pub is : piece_of (drop tag.at text) ≡ Some (root_piece tag)
  pub ends : tag.at + tag.size ≤ length text

-- from the end of an opening tag on: the place where its element ends, or where the text can't be read to its end
abbrev pub PassesOver : List ℕ → ℕ → Open → Option ℕ → Type 0
PassesOver text start lists (Some end) = IsOpenAfter text start ([] ∷ lists) → IsOpenAfter text end lists
PassesOver text start lists None = IsOpenAfter text start ([] ∷ lists)
    → (n : ℕ) × ((inner : Open) × (IsOpenAfter text n (inner ++ lists) × (piece_of (drop n text) ≡ None)))

-- ---- the way from the root of a document to the element at a place

-- what is left of a path after its first name, where it has more
abbrev pub IsRestOf : List ℕ → Option (List ℕ) → Type 0
IsRestOf p None = others_in p ≡ []
IsRestOf p (Some q) = others_in p ≡ names_on_way q
