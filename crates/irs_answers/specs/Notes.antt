-- What a sentence adds to what a reply says, and where in the text of a document a rule is broken.
use Rattle.std.specs.Prelude.{◌≡◌, ℕ, ◌-◌, ◌==◌, List, Option, Some, None, slice_get, if◌then◌else◌, [], ◌∷◌, length}
use Rattle.std.specs.Prelude.{take, IfSome, ◌||◌, Bool, true, false, IsSomeAnd}
use Rattle.serde_json.specs.Data.{Data}
use Rattle.irs_terms.specs.declared.places.Place.{Place}
use Rattle.irs_terms.specs.Faults.{rule_number}
use Rattle.irs_terms.specs.declared.places.Broken.{Broken}
use Rattle.irs_terms.specs.declared.places.Rule.{Rule}
use Rattle.irs_terms.specs.Elements as elements
use Rattle.irs_terms.specs.Centers.{fixing_names, names_by, names_with, reset_names}
use Rattle.irs_terms.specs.declared.stream.Stream.{Stream}
use Rattle.irs_terms.specs.declared.stream_list.Swap.{Swap}
use Rattle.irs_elements.specs.declared.table.Leaf.{Leaf as LeafKind}
use Rattle.irs_read.specs.Documents.{Means}
use Rattle.irs_calendar.specs.Grammar.{CalFiles}
use Rattle.irs_calendar.specs.Sections.{center_names}
use Rattle.irs_calendar.specs.declared.sections.Section.{Section}
use Rattle.irs_periods.specs.Spans.{given_anchor_of}
use Rattle.irs_rules.specs.Parameters.{start_names, applicable_names}
use Rattle.irs_schedule.specs.Parts.{Part}
use Rattle.irs_audit.specs.Verdicts.{unfixed_count}
use Rattle.irs_unfixed.specs.Unfixed.{payment_count, Fixing, IsFirstLacking, MadeFrom, made_from, EachHasAmount}
use Rattle.irs_unfixed.specs.declared.places.PaymentPlace.{PaymentPlace}
use Rattle.irs_locate.specs.Ways.{IsLeafKindOf, IsShapeAt, IsMemberOf, IsTextOf}
use Rattle.irs_locate.specs.Lines.{IsLineOf}
use Rattle.irs_locate.specs.declared.kinds.Shape.{Shape}
use Rattle.irs_answers.specs.Forms.{SourceText, TextReads, front_of, Given}
use Rattle.irs_answers.specs.declared.listed.Listed.{Listed}
use Rattle.irs_answers.specs.declared.listed.Listed.TheVariants.{NoFile, Named}
use Rattle.irs_answers.specs.declared.misfits.Misfit.{Misfit}
use Rattle.irs_answers.specs.declared.forms.Form.{Form}
use Rattle.irs_answers.specs.declared.forms.Form.TheVariants.{Json, Xml}
use Rattle.irs_answers.specs.declared.spots.Spot.{Spot}
use Rattle.irs_answers.specs.Due.{Facts, PassesEachStep, rates_for}
use Rattle.irs_answers.specs.Tasks.{states_amounts}
use Rattle.irs_answers.specs.declared.causes.Cause.{Cause}
use Rattle.irs_answers.specs.declared.causes.Cause.TheVariants.{Done, Uncompared, NotAgreed, Breaks, Refused}
use Rattle.irs_answers.specs.declared.forms.Unread.{Unread}
use Rattle.irs_answers.specs.declared.fronts.Front.{Front}
use Rattle.irs_answers.specs.declared.notes.Note.{Note}
use Rattle.irs_answers.specs.declared.notes.Unfixed.{Unfixed}
use Rattle.irs_answers.specs.declared.refusals.Refusal.{Refusal}
use Rattle.irs_answers.specs.declared.tasks.Task.{Task}
use Rattle.irs_answers.specs.declared.forms.Unread.TheVariants as unread
use Rattle.irs_answers.specs.declared.notes.Note.TheVariants as note
use Rattle.irs_answers.specs.declared.refusals.Refusal.TheVariants as refusal

-- ---- the name of the centre at a place of K12

-- the centres that an element of a stream needs: one of those of which K12 speaks
unfoldable pub names_at : Stream → ℕ → Option (List (List ℕ))
names_at s elem =
    if elem == elements.effective_date_adjustments then names_by s.effective.adj
    else (if elem == elements.termination_date_adjustments then names_by s.termination.adj
    else (if elem == elements.period_dates_adjustments then names_by s.period_adj
    else (if elem == elements.first_period_start_adjustments then start_names s.first_start
    else (if elem == elements.payment_dates_adjustments then names_with s.pay.offset s.pay.adj
    else (if elem == elements.fixing_dates then fixing_names s.reset
    else (if elem == elements.reset_dates_adjustments then reset_names s.reset
    else (if elem == elements.applicable_business_days then applicable_names s.leg else None)))))))

-- the name is that of the centre at the place in the swap. It is in the place's stream, at its position among those of
-- its element, both counted from 1
pub record IsCenterAt (swap : Swap) (place : Place) (name : List ℕ) : Type 0 where
  pub stream : Stream
  pub names : List (List ℕ)
  pub is_stream : slice_get swap.streams (place.stream - 1) ≡ Some stream
  pub of_element : names_at stream place.elem ≡ Some names
  pub is_name : slice_get names (place.index - 1) ≡ Some name

-- the same in a document
abbrev pub IsCenterIn : SourceText → Place → List ℕ → Type 0
IsCenterIn w place name = (v : Data) × TextReads w v × ((swap : Swap) × Means v swap × IsCenterAt swap place name)

-- ---- the centres that the calendar files have, as a sentence lists them

-- the most names that are listed
abbrev pub most_listed : ℕ
most_listed = 16

-- the centres of sections: the first names in the order of the files, and how many more there are
abbrev pub listed_centers : List Section → Listed
listed_centers cal = Named (take most_listed (center_names cal)) (length cal - most_listed)

-- the list is that of the sections that the files spell; without a file it says so
abbrev pub IsListOf : List (List ℕ) → Listed → Type 0
IsListOf [] list = list ≡ NoFile
IsListOf (f ∷ fs) list = (cal : List Section) × CalFiles (f ∷ fs) cal × (list ≡ listed_centers cal)

-- the list, where memory sufficed for it; that there is no file is always said
abbrev pub IsMaybeListOf : List (List ℕ) → Option Listed → Type 0
IsMaybeListOf [] list = list ≡ Some NoFile
IsMaybeListOf (f ∷ fs) list = IfSome list (IsListOf (f ∷ fs))

-- ---- the roll that K30 is about, and the day that it doesn't fit

-- the roll is that of the stream at the place in the swap, counted from 1. The day is the one from which the stream's
-- periods are counted
pub record IsMisfitAt (swap : Swap) (place : Place) (m : Misfit) : Type 0 where
  pub stream : Stream
  pub is_stream : slice_get swap.streams (place.stream - 1) ≡ Some stream
  pub roll : m.roll ≡ stream.roll
  pub day : m.day ≡ given_anchor_of stream

-- the same in a document
abbrev pub IsMisfitIn : SourceText → Place → Misfit → Type 0
IsMisfitIn w place m = (v : Data) × TextReads w v × ((swap : Swap) × Means v swap × IsMisfitAt swap place m)

-- ---- where in the text of a document a rule is broken, beyond its place

-- ---- the line

-- FpML XML has the line of the element at a place, and JSON has none
abbrev pub IsLineIn : Form → List ℕ → Place → Option ℕ → Type 0
IsLineIn Json bytes place line = line ≡ None
IsLineIn Xml bytes place line = IsSomeAnd line (IsLineOf bytes place)

-- ---- the member

-- the name is that of the member by which the document breaks the rule
abbrev pub IsMemberIn : SourceText → Broken → List ℕ → Type 0
IsMemberIn w b name = (v : Data) × TextReads w v × IsMemberOf v b name

-- whether the rule is about the name of a member: K4 and K5 are
abbrev pub is_of_member : Rule → Bool
is_of_member r = (rule_number r == 4) || (rule_number r == 5)

-- the name of the member, for a rule that is about one; none where it has no name, or memory ran out
abbrev pub IsMemberIf : Bool → SourceText → Broken → Option (List ℕ) → Type 0
IsMemberIf true w b name = IfSome name (IsMemberIn w b)
IsMemberIf false w b name = name ≡ None

-- ---- the text

-- the text is that of the leaf at the place
abbrev pub IsTextIn : SourceText → Place → List ℕ → Type 0
IsTextIn w place text = (v : Data) × TextReads w v × IsTextOf v place text

-- whether the rule is about the text of a leaf: K6 is
abbrev pub is_of_text : Rule → Bool
is_of_text r = rule_number r == 6

-- the text of the leaf, for a rule that is about one; none where no leaf lies at the place, or memory ran out
abbrev pub IsTextIf : Bool → SourceText → Place → Option (List ℕ) → Type 0
IsTextIf true w place text = IfSome text (IsTextIn w place)
IsTextIf false w place text = text ≡ None

-- the kind of leaf that the table of elements has for the element; none where it has none
pub record IsKindAt (elem : ℕ) (kind : Option LeafKind) : Type 0 where
  pub is : IfSome kind (IsLeafKindOf elem)
  pub found : (k : LeafKind) → IsLeafKindOf elem k → kind ≡ Some k

-- the same for such a rule
abbrev pub IsKindIf : Bool → ℕ → Option LeafKind → Type 0
IsKindIf true elem kind = IsKindAt elem kind
IsKindIf false elem kind = kind ≡ None

-- ---- the value

-- the kind is that of the value at the place
abbrev pub IsShapeIn : SourceText → Place → Shape → Type 0
IsShapeIn w place shape = (v : Data) × TextReads w v × IsShapeAt v place shape

-- whether the rule is about the kind of a value: K3 is
abbrev pub is_of_shape : Rule → Bool
is_of_shape r = rule_number r == 3

-- the kind of the value, for a rule that is about one; none where none lies at the place, or memory ran out
abbrev pub IsShapeIf : Bool → SourceText → Place → Option Shape → Type 0
IsShapeIf true w place shape = IfSome shape (IsShapeIn w place)
IsShapeIf false w place shape = shape ≡ None

-- ---- the roll

-- whether the rule is about a roll: K30 is
abbrev pub is_of_roll : Rule → Bool
is_of_roll r = rule_number r == 30

-- the roll and the day that it doesn't fit, for a rule that is about one; none where there is none, or memory ran out
abbrev pub IsMisfitIf : Bool → SourceText → Place → Option Misfit → Type 0
IsMisfitIf true w place misfit = IfSome misfit (IsMisfitIn w place)
IsMisfitIf false w place misfit = misfit ≡ None

-- ---- the centre

-- whether the rule is about the name of a centre: K12 is
abbrev pub is_of_center : Rule → Bool
is_of_center r = rule_number r == 12

-- the name of the centre, for a rule that is about one; none where there is none, or memory ran out
abbrev pub IsCenterIf : Bool → SourceText → Place → Option (List ℕ) → Type 0
IsCenterIf true w place center = IfSome center (IsCenterIn w place)
IsCenterIf false w place center = center ≡ None

-- the centres that the calendar files have, for a rule that is about the name of a centre
abbrev pub IsListIf : Bool → List (List ℕ) → Option Listed → Type 0
IsListIf true files list = IsMaybeListOf files list
IsListIf false files list = list ≡ None

-- ---- all of them

-- where the document breaks a rule, with calendar files of these bytes
pub record IsSpot (w : SourceText) (files : List (List ℕ)) (b : Broken) (s : Spot) : Type 0 where
  pub member : IsMemberIf (is_of_member b.rule) w b s.member
  pub shape : IsShapeIf (is_of_shape b.rule) w b.place s.shape
  pub text : IsTextIf (is_of_text b.rule) w b.place s.text
  pub kind : IsKindIf (is_of_text b.rule) b.place.elem s.kind
  pub center : IsCenterIf (is_of_center b.rule) w b.place s.center
  pub listed : IsListIf (is_of_center b.rule) files s.listed
  pub misfit : IsMisfitIf (is_of_roll b.rule) w b.place s.misfit
  pub line : IsLineIn w.form w.bytes b.place s.line

-- ---- what a sentence adds to what a reply says, and when that is so

-- ---- payments without an amount

-- the place of the first payment without an amount
abbrev pub unfixed_place : Unfixed → PaymentPlace
unfixed_place u = record { stream = u.stream; payment = u.payment }

-- the fixing that it lacks
abbrev pub unfixed_fixing : Unfixed → Fixing
unfixed_fixing u = record { index = u.index; tenor = u.tenor; day = u.day }

-- the counts of payments, and the first one without an amount, are those of the schedule
pub record IsUnfixed (x : MadeFrom) (parts : List Part) (u : Unfixed) : Type 0 where
  pub count : u.count ≡ unfixed_count parts
  pub payments : u.payments ≡ payment_count parts
  pub first : IsFirstLacking x parts (unfixed_place u) (unfixed_fixing u)

-- what is added where the schedule is the one of x: nothing where each payment has its amount
abbrev pub IsAmountsNote : MadeFrom → List Part → Note → Type 0
IsAmountsNote x parts note.Nothing = EachHasAmount parts
IsAmountsNote x parts (note.Unfixed u) = IsUnfixed x parts u
IsAmountsNote x parts (note.Spot s) = ⊥
IsAmountsNote x parts (note.Front f) = ⊥

-- what the schedule of these facts is made from
abbrev pub made_by : Task → Facts → MadeFrom
made_by t f = made_from f.swap f.cal (rates_for t f.table)

-- the same, for a task that states amounts; nothing for any other
abbrev pub IsAmountsNoteIf : Bool → MadeFrom → List Part → Note → Type 0
IsAmountsNoteIf true x parts n = IsAmountsNote x parts n
IsAmountsNoteIf false x parts n = n ≡ note.Nothing

-- what is added where no rule is broken
abbrev pub IsFixedNote : Task → Facts → Note → Type 0
IsFixedNote t f n = IsAmountsNoteIf (states_amounts t) (made_by t f) f.parts n

-- the files of the task pass every step, and this is added to what it comes to
pub record IsPassedNote (t : Task) (g : Given) (n : Note) : Type 0 where
  pub facts : Facts
  pub passes : PassesEachStep t g facts
  pub note : IsFixedNote t facts n

-- ---- a refusal

-- where the document breaks this rule, with calendar files of these bytes
abbrev pub IsRuleNote : SourceText → List (List ℕ) → Broken → Note → Type 0
IsRuleNote w files b note.Nothing = ⊥
IsRuleNote w files b (note.Unfixed u) = ⊥
IsRuleNote w files b (note.Spot s) = IsSpot w files b s
IsRuleNote w files b (note.Front f) = ⊥

-- how a text begins, where that shows why it isn't JSON
abbrev pub front_note : Option Front → Note
front_note None = note.Nothing
front_note (Some f) = note.Front f

-- what is added where the document has no reading
abbrev pub IsUnreadNote : SourceText → Unread → Note → Type 0
IsUnreadNote w (unread.Json line column) n = n ≡ front_note (front_of w.bytes)
IsUnreadNote w (unread.Xml line column) n = n ≡ note.Nothing

-- what is added to a refusal: where the document breaks a rule, or how its text begins; with calendar files of
-- these bytes
abbrev pub IsRefusalNote : SourceText → List (List ℕ) → Refusal → Note → Type 0
IsRefusalNote w files (refusal.Unreadable u) n = IsUnreadNote w u n
IsRefusalNote w files (refusal.Rule b) n = IsRuleNote w files b n
IsRefusalNote w files (refusal.Calendars e) n = n ≡ note.Nothing
IsRefusalNote w files (refusal.Fixings e) n = n ≡ note.Nothing
IsRefusalNote w files (refusal.UnreadableFlows u) n = n ≡ note.Nothing
IsRefusalNote w files (refusal.Flows e) n = n ≡ note.Nothing
IsRefusalNote w files refusal.Memory n = n ≡ note.Nothing

-- ---- the note of a reply

-- what is added to what a reply says
abbrev pub IsNoteOf : Task → Given → Cause → Note → Type 0
IsNoteOf t g Done n = IsPassedNote t g n
IsNoteOf t g (Uncompared k) n = IsPassedNote t g n
IsNoteOf t g (NotAgreed d) n = IsPassedNote t g n
IsNoteOf t g Breaks n = IsPassedNote t g n
IsNoteOf t g (Refused r) n = IsRefusalNote g.document g.calendars r n
