-- The way from the root of a document to an element, and what lies there.
use Rattle.std.specs.Prelude.{ℕ, ◌==◌, Bool, ◌||◌, List, [], ◌∷◌, ◌++◌, map, codes, if◌then◌else◌, ◌≡◌, ◌-◌, true, ◌&&◌}
use Rattle.std.specs.Prelude.{Option, Some, None, slice_get}
use Rattle.std.specs.Str.{bytes_eq}
use Rattle.serde_json.specs.Data.{Data, Num, array, boolean, float, negative, null, number, object, string, unsigned}
use Rattle.std.specs.List.{enumerate_from, find, list_any}
use Rattle.irs_terms.specs.Elements.{document, swap, swap_stream}
use Rattle.irs_terms.specs.Paths.{path_of}
use Rattle.irs_terms.specs.declared.places.Place.{Place}
use Rattle.irs_terms.specs.Faults.{rule_number}
use Rattle.irs_terms.specs.declared.places.Broken.{Broken}
use Rattle.irs_json.specs.Leaves.{element_names}
use Rattle.irs_elements.specs.Elements.{is_element, is_refused, is_unknown, name_at, values_in, leaf_text_in}
use Rattle.irs_elements.specs.declared.table.Row.{Row}
use Rattle.irs_elements.specs.declared.table.Kind.{Kind}
use Rattle.irs_elements.specs.declared.table.Kind.TheVariants.{Object, Leaf, Passed, Refused}
use Rattle.irs_elements.specs.declared.table.Leaf.{Leaf as LeafKind}
use Rattle.irs_read.specs.Documents.{has, stream_names, stream_rows, swap_names, swap_rows}
use Rattle.irs_locate.specs.declared.kinds.Shape.{Shape}
use Rattle.irs_locate.specs.declared.kinds.Shape.TheVariants as shape

-- ---- the way from the root of a document to the element at a place

-- an element on the way: its name, and its number from 1 among the elements of that name in one element
pub record WayStep : Type 0 where
  pub name : List ℕ
  pub number : ℕ

-- an element that occurs once
abbrev pub once : List ℕ → WayStep
once name = record { name = name; number = 1 }

-- 0 means none in particular, and so the first
abbrev pub from_one : ℕ → ℕ
from_one n = if n == 0 then 1 else n

-- the first name of a path, whose names are separated by `/`
abbrev pub first_in : List ℕ → List ℕ
first_in [] = []
first_in (c ∷ p) = if c == 47 then [] else c ∷ first_in p

-- its other names
abbrev pub others_in : List ℕ → List (List ℕ)
others_in [] = []
others_in (c ∷ p) = if c == 47 then first_in p ∷ others_in p else others_in p

-- its names
abbrev pub names_on_way : List ℕ → List (List ℕ)
names_on_way p = first_in p ∷ others_in p

-- the elements that occur more than once in one element, apart from streams: a step of a schedule and a business centre
abbrev pub is_repeated : List ℕ → Bool
is_repeated name = bytes_eq name (codes "step") || bytes_eq name (codes "businessCenter")

-- the index of a place counts a repeated element
abbrev pub step_below : ℕ → List ℕ → WayStep
step_below index name = record { name = name; number = if is_repeated name then from_one index else 1 }

-- a stream
abbrev pub stream_step : ℕ → WayStep
stream_step stream = record { name = codes "swapStream"; number = from_one stream }

-- the way from the swap down
unfoldable pub below_swap : Place → List WayStep
below_swap place =
    if place.elem == swap then [] else (if place.elem == swap_stream then stream_step place.stream ∷ [] else
    stream_step place.stream ∷ map (step_below place.index) (names_on_way (path_of place.elem)))

-- the way to the swap from a root of that name: it is a `swap`, or a `trade`, or holds a trade
unfoldable pub to_swap : List ℕ → List WayStep
to_swap root =
    if bytes_eq root (codes "swap") then once root ∷ [] else (if bytes_eq root (codes "trade") then once root
    ∷ once (codes "swap") ∷ [] else once root ∷ once (codes "trade") ∷ once (codes "swap") ∷ [])

-- the way from a root of that name to the element at a place
unfoldable pub way : List ℕ → Place → List WayStep
way root place = if place.elem == document then once root ∷ [] else to_swap root ++ below_swap place

-- ---- the member by which an object breaks K4 or K5

-- ---- the object at a place

-- the name of the root of a document: the first of `swap` and `trade` that it has, or else `dataDocument`
abbrev pub root_in : Data → List ℕ
root_in d =
    if has (codes "swap") d then codes "swap" else
    (if has (codes "trade") d then codes "trade" else codes "dataDocument")

-- the value e lies in d at the end of these steps. Each leads to the value with its number among those of its name.
-- These are the items of an array, or a single value
pub data LiesAt : List WayStep → Data → Data → Type 0 where
  here : (d : Data) → LiesAt [] d d
  below : (step : WayStep) (steps : List WayStep) (d x e : Data)
      → slice_get (values_in step.name (Some d)) (step.number - 1) ≡ Some x → LiesAt steps x e
      → LiesAt (step ∷ steps) d e

-- e is the value at the place in the document d
abbrev pub IsValueAt : Data → Place → Data → Type 0
IsValueAt d place e = LiesAt (way (root_in d) place) d e

-- ---- the tables

-- a table of elements
pub record Known : Type 0 where
  pub rows : List Row
  pub names : List (List ℕ)

-- the table that has the members of the element: that of the swap, or of a stream
unfoldable pub table_of : ℕ → Known
table_of elem =
    if elem == swap then record { rows = swap_rows; names = swap_names } else
    record { rows = stream_rows; names = stream_names }

-- whether the row is that of the element, and not that of a member that is passed over or out of the profile
abbrev pub is_row_of : ℕ → Row → Bool
is_row_of elem row = (row.place == elem) && is_element row.kind

-- r is the row of the element
abbrev pub IsRowOf : List Row → ℕ → ℕ → Type 0
IsRowOf rows elem r = (row : Row) × ((slice_get rows r ≡ Some row) × (is_row_of elem row ≡ true))

-- whether a row below the object at row r has the name, and is out of the profile
abbrev pub is_out : Known → ℕ → List ℕ → Bool
is_out t r name =
    list_any (λ (c, row). is_refused row.kind && (row.parent == r && bytes_eq (name_at t.names c) name))
    (enumerate_from 0 t.rows)

-- the first of these names that breaks the rule with this number in an object at row r. For K4 it is no attribute's,
-- and the table doesn't know it. For K5 it is out of the profile
unfoldable pub first_odd : ℕ → Known → ℕ → List (List ℕ) → Option (List ℕ)
first_odd k t r names =
    if k == 4 then find (is_unknown t.rows t.names r) names else (if k == 5 then find (is_out t r) names else None)

-- ---- the member

-- the member of that name breaks the rule in the object at the place
pub record IsBrokenMember (d : Data) (broken : Broken) (name : List ℕ) : Type 0 where
  -- the object at the place, and the names of its members
  pub object : Data
  pub names : List (List ℕ)
  pub lies : IsValueAt d broken.place object
  pub members : element_names object ≡ Some names
  -- its row in the table, and the first name that breaks the rule
  pub row : ℕ
  pub is_row : IsRowOf (table_of broken.place.elem).rows broken.place.elem row
  pub first : first_odd (rule_number broken.rule) (table_of broken.place.elem) row names ≡ Some name

-- the name is that of the first member by which the document breaks K4 or K5 at the place
abbrev pub IsMemberOf : Data → Broken → List ℕ → Type 0
IsMemberOf d broken name = IsBrokenMember d broken name

-- at most one name is that of the member
abbrev pub HasOneMember : Data → Broken → Type 0
HasOneMember d broken = (a b : List ℕ) → IsMemberOf d broken a → IsMemberOf d broken b → a ≡ b

-- ---- the kind of leaf that the table of elements has for an element, and the kind of value that lies at a place

-- ---- the kind of a leaf

-- the kind of leaf that a row is of
abbrev pub leaf_in : Kind → Option LeafKind
leaf_in (Object choice) = None
leaf_in (Leaf kind) = Some kind
leaf_in Passed = None
leaf_in Refused = None

-- the element has a row in its table, and that is of a leaf of this kind
pub record IsLeafKindOf (elem : ℕ) (kind : LeafKind) : Type 0 where
  pub number : ℕ
  pub row : Row
  pub at : slice_get (table_of elem).rows number ≡ Some row
  pub is_row : is_row_of elem row ≡ true
  pub leaf : leaf_in row.kind ≡ Some kind

-- ---- the kind of a value

-- a number that is held as a whole one, or any other
abbrev pub number_shape : Num → Shape
number_shape (unsigned n) = shape.Whole
number_shape (negative z) = shape.Whole
number_shape (float x) = shape.Fraction

-- the kind of a value
abbrev pub shape_in : Data → Shape
shape_in null = shape.Null
shape_in (boolean b) = shape.Truth
shape_in (number n) = number_shape n
shape_in (string s) = shape.Text
shape_in (array ds) = shape.List
shape_in (object ms) = shape.Object

-- a value of this kind lies in the document at the place
abbrev pub IsShapeAt : Data → Place → Shape → Type 0
IsShapeAt d place s = (e : Data) × IsValueAt d place e × (shape_in e ≡ s)

-- ---- the text of the leaf at a place

-- a leaf lies in the document at the place, and this is its text
pub record IsTextOf (d : Data) (place : Place) (text : List ℕ) : Type 0 where
  pub leaf : Data
  pub lies : IsValueAt d place leaf
  pub reads : leaf_text_in (Some leaf) ≡ Some text
