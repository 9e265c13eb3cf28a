-- A table of elements as lines, each with the path of an element, and the rows that the lines give.
use Prim.Native.String.{String}
use Rattle.irs_elements.specs.declared.table.Choice.TheVariants.{Free, AtMostOne, AtMostOneOfThree, ExactlyOne}
use Rattle.irs_elements.specs.declared.table.Choice.TheVariants.{Reference}
use Rattle.irs_elements.specs.declared.table.{Count.Count, Kind.Kind, Leaf.Leaf as LeafKind, Row.Row}
use Rattle.irs_elements.specs.declared.table.Count.TheVariants.{One, Maybe}
use Rattle.irs_elements.specs.declared.table.Kind.TheVariants.{Object, Leaf, Passed, Refused}
use Rattle.std.specs.Prelude.{ℕ, ◌+◌, ◌-◌, true, false, ◌==◌, List, [], ◌∷◌, ◌++◌, length, map, take, codes}
use Rattle.std.specs.Prelude.{if◌then◌else◌}
use Rattle.std.specs.Str.{bytes_eq}

-- ---- what a table says

-- what is at a path
pub data Form : Type 0 where
  -- an object
  object : Form
  -- an object of which at most one, or exactly one, of the two members of these names occurs
  at_most_one : String → String → Form
  exactly_one : String → String → Form
  -- an object of which at most one of the three members of these names occurs
  at_most_one_of_three : String → String → String → Form
  -- an object that names another by its `@href`
  reference : Form
  -- a leaf of that kind
  leaf : LeafKind → Form

-- the path as it is printed, the path of the object that the element is a member of, what is there, and how often
pub record Line : Type 0 where
  pub path : List ℕ
  pub above : List ℕ
  pub form : Form
  pub often : Count

-- members of the object at a path that are no elements
pub record Others : Type 0 where
  pub above : String
  pub names : List String

-- a table: the object that all of it lies in, with the path that the lines continue, and the elements. Apart are the
-- members that are passed over unread and those that are out of the profile
pub record Table : Type 0 where
  pub whole : String
  pub top : String
  pub lines : List Line
  pub passed : List Others
  pub refused : List Others

-- ---- paths

-- the last name of a path, and the path without it
abbrev last_name_in : List ℕ → List ℕ → List ℕ
last_name_in name [] = name
last_name_in name (c ∷ p) = last_name_in (if c == 47 then p else name) p

-- the part of a path after its last `/`
abbrev pub last_name : List ℕ → List ℕ
last_name p = last_name_in p p

-- the path before that
abbrev pub path_above : List ℕ → List ℕ
path_above p = take (length p - length (last_name p) - 1) p

-- the path of a member; the stream has no path of its own
abbrev path_of_member : List ℕ → List ℕ → List ℕ
path_of_member [] name = name
path_of_member (c ∷ p) name = c ∷ p ++ 47 ∷ name

-- the number of paths before p
abbrev pub place_of_path : List (List ℕ) → List ℕ → ℕ
place_of_path [] p = 0
place_of_path (q ∷ qs) p = elim (bytes_eq q p) [ true ↦ 0 | false ↦ place_of_path qs p + 1 ]

-- ---- lines

-- an element whose path is its object's path with its name
abbrev pub line : String → Form → Count → Line
line path form often = record { path = codes path; above = path_above (codes path); form = form; often = often }

-- an element whose path begins anew
abbrev pub line_below : String → String → Form → Count → Line
line_below above path form often = record { path = codes path; above = codes above; form = form; often = often }

-- members of these names
abbrev pub others_at : String → List String → Others
others_at above names = record { above = above; names = names }

-- ---- the rows that a table gives; `places` are the paths of all elements

-- the paths of the rows
abbrev pub row_paths : Table → List (List ℕ)
row_paths t = codes t.top ∷ map (λ (l : Line). l.path) t.lines

module _ (places rows : List (List ℕ)) where
  -- the row of the member with a name, below the element at a path
  abbrev row_of_member : List ℕ → String → ℕ
  row_of_member path name = place_of_path rows (path_of_member path (codes name))

  -- the kind of the element at a path, with its choice by rows
  abbrev kind_of : List ℕ → Form → Kind
  kind_of path object = Object Free
  kind_of path (at_most_one a b) = Object (AtMostOne (row_of_member path a) (row_of_member path b))
  kind_of path (exactly_one a b) = Object (ExactlyOne (row_of_member path a) (row_of_member path b))
  kind_of path (at_most_one_of_three a b c) =
      Object (AtMostOneOfThree (row_of_member path a) (row_of_member path b) (row_of_member path c))
  kind_of path reference = Object Reference
  kind_of path (leaf k) = Leaf k

  -- the row of a line
  abbrev pub row_of : Line → Row
  row_of l = record {
    parent = place_of_path rows l.above;
    place = place_of_path places l.path;
    kind = kind_of l.path l.form;
    count = l.often;
  }

  -- the rows of members that are no elements have the place of the whole
  abbrev pub other_rows : ℕ → Kind → List Others → List Row
  other_rows place kind [] = []
  other_rows place kind (o ∷ os) =
      let row : Row =
      record { parent = place_of_path rows (codes o.above); place = place; kind = kind; count = Maybe } in
      map (λ (name : String). row) o.names ++ other_rows place kind os

-- the names of members that are passed over or out of profile
abbrev pub other_row_names : List Others → List (List ℕ)
other_row_names [] = []
other_row_names (o ∷ os) = map codes o.names ++ other_row_names os

-- the row of the whole is its own parent, and it is an object that occurs once
abbrev pub first_row : ℕ → Row
first_row place = record { parent = 0; place = place; kind = Object Free; count = One }

-- the rows of a table: its first, one for each line, then one for each other name
abbrev pub table_rows : List (List ℕ) → Table → List Row
table_rows places t =
    let whole : ℕ = place_of_path places (codes t.whole) in
    let rows : List (List ℕ) = row_paths t in
    first_row whole ∷ map (row_of places rows) t.lines ++ other_rows places rows whole Passed t.passed
    ++ other_rows places rows whole Refused t.refused

-- and their names
abbrev pub table_names : Table → List (List ℕ)
table_names t =
    last_name (codes t.whole) ∷ map (λ (l : Line). last_name l.path) t.lines ++ other_row_names t.passed
    ++ other_row_names t.refused
