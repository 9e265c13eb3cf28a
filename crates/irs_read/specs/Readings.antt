-- What it is to read a value, and references between values.
use Prim.Native.String.{String}
use Rattle.irs_base.specs.Lists.{Pairs}
use Rattle.irs_elements.specs.Elements.{once, leaf_text_in, values_in, member}
use Rattle.irs_elements.specs.Lines.{Form, Line, leaf, line, path_above, last_name}
use Rattle.irs_elements.specs.declared.table.Count.TheVariants.{One, Maybe}
use Rattle.irs_elements.specs.declared.table.{Count.Count, Leaf.Leaf as LeafKind}
use Rattle.irs_json.specs.Leaves.{child_of}
use Rattle.serde_json.specs.{Data.Data, Find.as_str}
use Rattle.std.specs.Prelude.{Some, None, option_and_then, codes, Bool, false}
use Rattle.std.specs.Prelude.{◌==◌, unwrap_or, count_by, find, if◌then◌else◌, ◌≡◌, ℕ, List, [], ◌∷◌, ◌++◌, map, Option}
use Rattle.std.specs.{List.flat_map, Option.option_flatten, Option.option_map_or, Prelude.filter, Str.bytes_eq}

-- ---- what it is to read a value: its lines in the table of elements, and what it says of what is read from it
-- There is no value for an element that must occur and doesn't, nor for a leaf whose text has none.

-- a value of an element: what is there, the lines of its members, and what it says
pub record Value (A : Type 0) : Type 1 where
  pub form : Form
  pub lines : List Line
  pub says : Data → A → Type 0

-- members of an object: their lines, and what the object says by them
pub record ReadPart (S : Type 0) : Type 1 where
  pub lines : List Line
  pub says : Data → S → Type 0

-- ---- leaves

-- the value that the leaf's text has, if there is a leaf and it has one
abbrev pub said : {A : Type 0} → (List ℕ → Option A) → Option Data → Option A
said at o = option_and_then at (leaf_text_in o)

-- a leaf of a kind: its text has the value
abbrev pub text : {A : Type 0} → LeafKind → (List ℕ → Option A) → Value A
text kind at = record { form = leaf kind; lines = []; says = λ x a. said at (Some x) ≡ Some a }

-- ---- objects

-- an object with these members
abbrev pub holds : {S : Type 0} → Form → ReadPart S → Value S
holds form part = record { form = form; lines = part.lines; says = part.says }

infixr 30 ◌also◌
-- these members, and more of the same object
abbrev pub ◌also◌ : {S : Type 0} → ReadPart S → ReadPart S → ReadPart S
p also q = record { lines = p.lines ++ q.lines; says = λ d s. p.says d s × q.says d s }

infix 40 ◌gives◌
-- what is read is a field
abbrev pub ◌gives◌ : {A S : Type 0} → ReadPart A → (S → A) → ReadPart S
p gives field = record { lines = p.lines; says = λ d s. p.says d (field s) }

-- ---- members

-- the line of a member, in the object of a name
abbrev inside : List ℕ → Line → Line
inside name l =
    let path : List ℕ = name ++ 47 ∷ l.path in
    record { path = path; above = path_above path; form = l.form; often = l.often }

-- the lines of a member with this name
abbrev pub member_lines : {A : Type 0} → String → Count → Value A → List Line
member_lines name often v = line name v.form often ∷ map (inside (codes name)) v.lines

-- what is read from a value where there is one, and what holds of it where there is none
abbrev pub Says : {A B : Type 0} → Option Data → (Data → A → Type 0) → (A → B) → (B → Type 0) → B → Type 0
Says None says make other b = other b
Says (Some x) says make other b = (a : _) × ((b ≡ make a) × says x a)

-- a member: what is made of its value where it is there, and what holds where it is absent
abbrev member_by : {A B : Type 0} → String → Count → Value A → (A → B) → (Data → B → Type 0) → ReadPart B
member_by name often v make other = record {
  lines = member_lines name often v;
  says = λ d. Says (once (codes name) d) v.says make (other d);
}

-- a member that occurs
abbrev pub one : {A : Type 0} → String → Value A → ReadPart A
one name v = member_by name One v (λ a. a) (λ d _. ⊥)

-- a member that may be absent, and then there is no value
abbrev pub maybe : {A : Type 0} → String → Value A → ReadPart (Option A)
maybe name v = member_by name Maybe v Some (λ d a. a ≡ None)

-- a member that may be absent, and then the object has a value for it
abbrev pub or_by : {A : Type 0} → String → Value A → (Data → A) → ReadPart A
or_by name v absent = member_by name Maybe v (λ a. a) (λ d a. a ≡ absent d)

-- a member that may be absent, and then this is its value
abbrev pub or : {A : Type 0} → String → Value A → A → ReadPart A
or name v absent = or_by name v (λ _. absent)

-- a repeated member: each value says what is at its place of the list
abbrev pub each : {A : Type 0} → String → Count → Value A → ReadPart (List A)
each name often v = record {
  lines = member_lines name often v;
  says = λ d. Pairs v.says (values_in (codes name) (Some d));
}

-- a member that no field is read from
abbrev pub unread : {A S : Type 0} → String → Value A → ReadPart S
unread name v = record { lines = member_lines name One v; says = λ d s. Unit {0} }

-- one of two members, each of which gives the value in its way; the second is read where the first is absent
abbrev pub either_member : {A B C : Type 0} → String → Value A → (A → C) → String → Value B → (B → C) → ReadPart C
either_member a v make b w build = record {
  lines = member_lines a Maybe v ++ member_lines b Maybe w;
  says =
      λ d. Says (once (codes a) d) v.says make (Says (once (codes b) d) w.says build (λ _. ⊥));
}

-- ---- references by `@href`, and the lists of centres that they may name

-- the text of an attribute, unchanged
abbrev pub attribute : List ℕ → Option Data → Option (List ℕ)
attribute name o = option_and_then as_str (option_and_then (child_of name) o)

-- whether the element has that `@id`
abbrev pub has_id : List ℕ → Option Data → Bool
has_id id o = option_map_or (λ s. bytes_eq s id) (attribute (codes "@id") o) false

-- the text of a reference's `@href`
abbrev pub href_of : Data → List ℕ
href_of d = unwrap_or (attribute (codes "@href") (Some d)) []

-- the list that has the id, where exactly one has it
abbrev pub the_one : List ℕ → List (Option Data) → Option Data
the_one id lists = if count_by (has_id id) lists == 1 then option_flatten (find (has_id id) lists) else None

-- where a stream may have a list of centres
abbrev pub lists_in : Data → List (Option Data)
lists_in d =
    let dates = once (codes "calculationPeriodDates") d in
    let resets = once (codes "resetDates") d in
    member (codes "businessCenters") (member (codes "dateAdjustments") (member (codes "effectiveDate") dates))
    ∷ member (codes "businessCenters") (member (codes "dateAdjustments") (member (codes "terminationDate") dates))
    ∷ member (codes "businessCenters") (member (codes "calculationPeriodDatesAdjustments") dates)
    ∷ member (codes "businessCenters") (member (codes "dateAdjustments") (member (codes "firstPeriodStartDate") dates))
    ∷ member (codes "businessCenters") (member (codes "paymentDatesAdjustments") (once (codes "paymentDates") d))
    ∷ member (codes "businessCenters") (member (codes "fixingDates") resets)
    ∷ member (codes "businessCenters") (member (codes "resetDatesAdjustments") resets)
    ∷ []

-- the streams of a swap
abbrev pub streams_in : Data → List Data
streams_in d = values_in (codes "swapStream") (Some d)

-- the lists of centres of all streams
abbrev pub lists_of : List Data → List (Option Data)
lists_of streams = flat_map lists_in streams

-- ---- the same by paths

-- one byte more in front of the first name
abbrev before_first : ℕ → List (List ℕ) → List (List ℕ)
before_first c [] = (c ∷ []) ∷ []
before_first c (n ∷ ns) = (c ∷ n) ∷ ns

-- the names of a path
abbrev pub names_on : List ℕ → List (List ℕ)
names_on [] = [] ∷ []
names_on (c ∷ p) = if c == 47 then [] ∷ names_on p else before_first c (names_on p)

-- the value that these names lead to
abbrev pub value_on : List (List ℕ) → Option Data → Option Data
value_on [] o = o
value_on (n ∷ ns) o = value_on ns (member n o)

-- the lines of lists of centres
abbrev pub list_lines : List Line → List Line
list_lines lines = filter (λ (l : Line). bytes_eq (last_name l.path) (codes "businessCenters")) lines
