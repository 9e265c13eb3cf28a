-- The files of a task, the two forms of a document's text, and texts that have no reading.
use Rattle.std.specs.Prelude.{◌≡◌, ℕ, ◌-◌, ◌^◌, ◌<◌, List, [], length, ◌+◌, ◌≤◌, map, All, Option, None, option_map}
use Rattle.std.specs.Prelude.{IfSome, ◌==◌, ◌||◌, nat_eq, Bool, false, not, ◌∷◌, Some, if◌then◌else◌}
use Rattle.serde_json.specs.Data.{Data}
use Rattle.std.specs.List.{find, starts_with}
use Rattle.irs_base.specs.Outcomes.{Spec}
use Rattle.irs_base.specs.Limits.{most_bytes, most_files}
use Rattle.irs_json.specs.Reading.{LiesIn as LiesInJson, Reads}
use Rattle.irs_xml.specs.Document.{XmlReads, LiesIn}
use Rattle.irs_answers.specs.declared.forms.Form.{Form}
use Rattle.irs_answers.specs.declared.forms.Form.TheVariants.{Json, Xml}
use Rattle.irs_answers.specs.declared.forms.Source.{Source}
use Rattle.irs_answers.specs.declared.forms.Unread.{Unread}
use Rattle.irs_answers.specs.declared.files.TaskFiles.{TaskFiles}
use Rattle.irs_answers.specs.declared.fronts.Front.{Front}
use Rattle.irs_answers.specs.declared.fronts.Front.TheVariants.{Mark, Markup}
use Rattle.irs_answers.specs.declared.refusals.Refusal.{Refusal}
use Rattle.irs_answers.specs.declared.refusals.Refusal.TheVariants.{Calendars, Fixings, Flows, Memory, Rule, Unreadable}
use Rattle.irs_answers.specs.declared.refusals.Refusal.TheVariants.{UnreadableFlows}
use Rattle.irs_answers.specs.declared.replies.Reply.{Reply}
use Rattle.irs_answers.specs.declared.forms.Unread.TheVariants as unread
use Rattle.irs_answers.specs.declared.replies.Reply.TheVariants as reply

-- ---- the two forms of a document's text, and the value that it means in each

-- the text of a document or of cash flows, and its form
pub record SourceText : Type 0 where
  pub form : Form
  pub bytes : List ℕ

-- the text as the code keeps it
abbrev pub source_by : Source → SourceText
source_by s = record { form = s.form; bytes = s.bytes.items }

-- bytes in a form mean the value: a JSON text as serde_json reads it, or FpML XML
abbrev pub ReadsAs : Form → List ℕ → Data → Type 0
ReadsAs Json bytes v = Reads bytes v
ReadsAs Xml bytes v = XmlReads bytes v

-- the text means the value
abbrev pub TextReads : SourceText → Data → Type 0
TextReads w v = ReadsAs w.form w.bytes v

-- a JSON text of these bytes
abbrev pub json_text : List ℕ → SourceText
json_text bytes = record { form = Json; bytes = bytes }

-- FpML XML of these bytes
abbrev pub xml_text : List ℕ → SourceText
xml_text bytes = record { form = Xml; bytes = bytes }

-- no text
abbrev pub no_source_text : SourceText
no_source_text = json_text []

-- the text has a reading in its form
abbrev pub IsReadable : SourceText → Type 0
IsReadable w = (v : Data) × TextReads w v

-- the value that the text means, or that it means none
abbrev pub value_of : SourceText → Spec Data (Unit {0})
value_of w = record {
  Answers = TextReads w;
  Refuses = λ _. ¬ (IsReadable w);
}

-- how a text has no reading is said in its form. The line and the column are those of a byte of the text or of its end.
-- That is said of texts below 2^32 - 1 bytes
abbrev pub StopsIn : SourceText → Unread → Type 0
StopsIn w (unread.Json line column) = (w.form ≡ Json) × (length w.bytes < 2 ^ 32 - 1 → LiesInJson w.bytes line column)
StopsIn w (unread.Xml line column) = (w.form ≡ Xml) × (length w.bytes < 2 ^ 32 - 1 → LiesIn w.bytes line column)

-- the text has no reading, and this says how
pub record IsUnread (w : SourceText) (u : Unread) : Type 0 where
  pub none : ¬ (IsReadable w)
  pub stops : StopsIn w u

-- ---- the files of a task, by what they are to it

-- one byte more than a file may have
abbrev pub too_many : ℕ
too_many = most_bytes + 1

-- the most calendars of a task
abbrev pub most_calendars : ℕ
most_calendars = most_files

-- the files: the texts of the document and of the flows, and the bytes of the others
pub record Given : Type 0 where
  pub document : SourceText
  pub fixings : Option (List ℕ)
  pub flows : SourceText
  pub calendars : List (List ℕ)

-- no file
abbrev pub no_files : Given
no_files = record { document = no_source_text; fixings = None; flows = no_source_text; calendars = [] }

-- the files as the code keeps them
abbrev pub files_given_by : TaskFiles → Given
files_given_by f =
    record {
      document = source_by f.document;
      fixings = option_map (λ v. v.items) f.fixings;
      flows = source_by f.flows;
      calendars = map (λ v. v.items) f.calendars.items;
    }

-- the document and the flows of the first, and the other files of the second
abbrev pub given_with : TaskFiles → TaskFiles → Given
given_with own common =
    record {
      document = source_by own.document;
      fixings = option_map (λ v. v.items) common.fixings;
      flows = source_by own.flows;
      calendars = map (λ v. v.items) common.calendars.items;
    }

-- the limits that the readers of the files ask for
pub record IsWithinLimits (g : Given) : Type 0 where
  pub fixings : IfSome g.fixings (λ bytes. length bytes < too_many)
  pub calendars : All (λ bytes. length bytes < too_many) g.calendars
  pub few : length g.calendars ≤ most_calendars

-- ---- how the text of a document that isn't JSON begins, where that shows why it isn't

-- the text begins with a byte order mark
abbrev pub has_mark : List ℕ → Bool
has_mark bytes = starts_with nat_eq bytes (239 ∷ 187 ∷ 191 ∷ [])

-- a byte that is no white space of JSON (RFC 8259): no space, tab, LF or CR
abbrev pub is_dark : ℕ → Bool
is_dark b = not ((b == 32) || (b == 9) || (b == 10) || (b == 13))

-- the byte is `<`, if there is one
abbrev pub is_opening : Option ℕ → Bool
is_opening None = false
is_opening (Some b) = b == 60

-- the first byte that is no white space is `<`
abbrev pub is_markup : List ℕ → Bool
is_markup bytes = is_opening (find is_dark bytes)

-- how a text begins, where that shows why it isn't JSON
abbrev pub front_of : List ℕ → Option Front
front_of bytes = if has_mark bytes then Some Mark else (if is_markup bytes then Some Markup else None)

-- ---- what a reply and a refusal say of texts that have no reading

-- where a refusal says how the document or the flows have no reading, that is so
abbrev pub IsPlacedRefusal : SourceText → SourceText → Refusal → Type 0
IsPlacedRefusal document flows (Unreadable u) = IsUnread document u
IsPlacedRefusal document flows (Rule b) = Unit {0}
IsPlacedRefusal document flows (Calendars e) = Unit {0}
IsPlacedRefusal document flows (Fixings e) = Unit {0}
IsPlacedRefusal document flows (UnreadableFlows u) = IsUnread flows u
IsPlacedRefusal document flows (Flows e) = Unit {0}
IsPlacedRefusal document flows Memory = Unit {0}

-- the same of a reply
abbrev pub IsPlacedReply : SourceText → SourceText → Reply → Type 0
IsPlacedReply document flows (reply.Text text) = Unit {0}
IsPlacedReply document flows (reply.Rows schedule) = Unit {0}
IsPlacedReply document flows (reply.Breaks text) = Unit {0}
IsPlacedReply document flows (reply.Verdict w) = Unit {0}
IsPlacedReply document flows (reply.Refused r) = IsPlacedRefusal document flows r

-- the refusal isn't of a text without a reading
abbrev pub IsOtherwise : Refusal → Type 0
IsOtherwise r = (document flows : SourceText) → IsPlacedRefusal document flows r
