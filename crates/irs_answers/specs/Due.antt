-- What is due for a task and its files, and what the calls answer.
use Rattle.std.specs.Prelude.{◌≡◌, ℕ, List, [], Option, Some, None, Bool, true, false, if◌then◌else◌, ◌<◌, IfSome}
use Rattle.std.specs.Prelude.{option_map, Result, Ok, Err}
use Rattle.serde_json.specs.Data.{Data}
use Rattle.irs_base.specs.Outcomes.{Spec, ◌>>=◌, answer, given_by, refused_as, First, Only}
use Rattle.irs_terms.specs.Faults.{is_before}
use Rattle.irs_terms.specs.declared.places.Broken.{Broken}
use Rattle.irs_base.specs.declared.stopped.Stopped.{Stopped}
use Rattle.irs_base.specs.declared.stopped.Stopped.TheVariants as stopped
use Rattle.irs_terms.specs.declared.stream_list.Swap.{Swap}
use Rattle.irs_json.specs.declared.JsonErr.{JsonErr}
use Rattle.irs_json.specs.declared.JsonErr.TheVariants as json
use Rattle.irs_xml.specs.declared.XmlErr.{XmlErr}
use Rattle.irs_xml.specs.declared.XmlErr.TheVariants as xml
use Rattle.irs_read.specs.Documents.{swap_of_document, Means}
use Rattle.irs_flows.specs.declared.error.FlowErr.{FlowErr}
use Rattle.irs_flows.specs.declared.error.ShapeKind.TheVariants.{NotJson}
use Rattle.irs_flows.specs.declared.error.FlowErr.TheVariants as flowing
use Rattle.irs_calendar.specs.Grammar.{Spot, IsFirstCalendarFault, CalFiles, spot_of}
use Rattle.irs_calendar.specs.declared.sections.Section.{Section}
use Rattle.irs_calendar.specs.declared.calendars.CalErr.{CalErr}
use Rattle.irs_resets.specs.FixingFiles.{IsFixingFault, IsFixingFile}
use Rattle.irs_resets.specs.Rates.{RateTable}
use Rattle.irs_resets.specs.declared.fixings.FixErr.{FixErr}
use Rattle.irs_resets.specs.declared.fixings.FixErr.TheVariants as fixing
use Rattle.irs_rules.specs.TermsRules.{terms_of, BreaksTerms}
use Rattle.irs_schedule.specs.Schedules.{DatedKept, DatedBroken, IsSchedule}
use Rattle.irs_schedule.specs.Parts.{Part}
use Rattle.irs_schedule.specs.RowsOf.{schedule_text}
use Rattle.irs_net.specs.Parties.{BreaksK8Of, SidesOf}
use Rattle.irs_net.specs.declared.sides.Sides.{Sides}
use Rattle.irs_emit.specs.Emitted.{emit_text}
use Rattle.irs_emit_xml.specs.Flows.{flows_text}
use Rattle.irs_answers.specs.Tasks.{TellsAccrued, accruing, audit_of, breaks_of, nets, uses_rates, TellsNet}
use Rattle.irs_answers.specs.Tasks.{observations_of}
use Rattle.irs_answers.specs.declared.tasks.Task.{Task}
use Rattle.irs_answers.specs.declared.tasks.Task.TheVariants.{Check, Schedule, Audit, Emit, Accrue, Net, Overnight}
use Rattle.irs_answers.specs.declared.tasks.Task.TheVariants.{Average, Breaks, EmitXml, Interpolate, Observations}
use Rattle.irs_answers.specs.Forms.{TextReads, SourceText, value_of, Given, IsUnread, files_given_by}
use Rattle.irs_answers.specs.Messages.{unreadable, bad_calendar, bad_fixings, all_kept, Answer, Gives, broken_rule}
use Rattle.irs_answers.specs.Messages.{keeping, refused, bad_flows, whole_document}
use Rattle.irs_answers.specs.Derived.{average_of, interpolate_of, overnight_of}
use Rattle.irs_answers.specs.declared.due.Found.{Found}
use Rattle.irs_answers.specs.declared.forms.ReadErr.{ReadErr}
use Rattle.irs_answers.specs.declared.refusals.Refusal.{Refusal}
use Rattle.irs_answers.specs.declared.refusals.Refusal.TheVariants.{Rule, Calendars, Fixings, Flows, Memory, Unreadable}
use Rattle.irs_answers.specs.declared.refusals.Refusal.TheVariants.{UnreadableFlows}
use Rattle.irs_answers.specs.declared.common.Common.{Common}
use Rattle.irs_answers.specs.declared.forms.ReadErr.TheVariants as reading
use Rattle.irs_answers.specs.declared.forms.Unread.TheVariants as unread

-- ---- what is due for a task and its files: a status and a text, by steps in order

-- the rates of a file of fixings, none without one
abbrev pub AreGivenFixings : Option (List ℕ) → RateTable → Type 0
AreGivenFixings None table = table ≡ []
AreGivenFixings (Some bytes) table = IsFixingFile bytes table

-- the first line of a file of fixings that is at fault, and how it is, where there is a file
abbrev pub IsFixingsFault : Option (List ℕ) → FixErr → Type 0
IsFixingsFault None f = ⊥
IsFixingsFault (Some bytes) f = IsFixingFault bytes f

-- no rule of the terms is broken
abbrev pub KeepsTerms : Swap → List Section → Type 0
KeepsTerms swap cal = (b : Broken) → BreaksTerms swap cal b → ⊥

-- the sides of the streams, where the task needs them
abbrev pub SidesIf : Bool → Data → Option Sides → Type 0
SidesIf true v None = ⊥
SidesIf true v (Some sides) = SidesOf v sides
SidesIf false v sides = sides ≡ None

-- the first stream whose parties aren't those of the first stream, where the task needs the sides
abbrev pub BreaksSidesIf : Bool → Data → Broken → Type 0
BreaksSidesIf true v b = First is_before (BreaksK8Of v) b
BreaksSidesIf false v b = ⊥

-- the sides that a task needs
abbrev pub HasSides : Task → Data → Option Sides → Type 0
HasSides t v sides = SidesIf (nets t) v sides

-- the first break of K8, for a task that needs the sides
abbrev pub BreaksSides : Task → Data → Broken → Type 0
BreaksSides t v b = BreaksSidesIf (nets t) v b

-- the rates that a task's schedule is made with
abbrev pub rates_for : Task → RateTable → RateTable
rates_for t table = if uses_rates t then table else []

-- what the files of a task say, and the schedule
pub record Facts : Type 0 where
  pub swap : Swap
  pub sides : Option Sides
  pub cal : List Section
  pub table : RateTable
  pub parts : List Part

-- the facts made of these
abbrev pub facts : Swap → Option Sides → List Section → RateTable → List Part → Facts
facts swap sides cal table parts = record { swap = swap; sides = sides; cal = cal; table = table; parts = parts }

-- ---- the last step of each task

-- status 0, with a text that meets P
abbrev pub told_by : (List ℕ → Type 0) → Spec Answer Answer
told_by P = given_by (λ a. (a.0 ≡ 0) × P a.1)

-- what a task answers where no rule is broken and the schedule is the only one
abbrev pub answer_for : Task → Given → Facts → Spec Answer Answer
answer_for Check g f = answer (0, all_kept)
answer_for Schedule g f = answer (0, schedule_text f.parts)
answer_for Audit g f = audit_of f.parts g.flows
answer_for (Breaks from) g f = breaks_of from f.parts g.flows
answer_for Emit g f = answer (0, emit_text f.parts)
answer_for EmitXml g f = answer (0, flows_text f.parts)
answer_for (Accrue date) g f = told_by (TellsAccrued date (accruing f.swap f.cal f.table) f.parts)
answer_for Net g f = told_by (TellsNet f.sides f.parts)
answer_for (Observations stream) g f = observations_of stream (accruing f.swap f.cal f.table) f.parts
answer_for (Overnight stream) g f = overnight_of stream f.swap f.cal f.table f.parts
answer_for (Average stream mean step) g f = average_of stream mean step f.swap f.cal f.table f.parts
answer_for (Interpolate stream side low high) g f = interpolate_of stream side low high f.swap f.table f.parts

-- ---- the steps that the tasks share

-- the sides of the streams, where the task needs them; or the first stream whose parties aren't those of the first
abbrev pub sides_of : Task → Data → Spec (Option Sides) Broken
sides_of t v = record {
  Answers = HasSides t v;
  Refuses = BreaksSides t v;
}

-- the sections of the calendar files, or their first line at fault
abbrev pub sections_of : List (List ℕ) → Spec (List Section) Spot
sections_of files = record {
  Answers = CalFiles files;
  Refuses = IsFirstCalendarFault files;
}

-- the rates of the file of fixings, or its first line at fault
abbrev pub rates_of : Option (List ℕ) → Spec RateTable FixErr
rates_of file = record {
  Answers = AreGivenFixings file;
  Refuses = IsFixingsFault file;
}

-- what is due where a line of a calendar file is at fault
abbrev pub faulty_calendar : Spot → Answer
faulty_calendar s = (3, bad_calendar s)

-- what is due where a line of the file of fixings is at fault
abbrev pub faulty_fixings : FixErr → Answer
faulty_fixings f = (3, bad_fixings f)

-- the one schedule of a swap; or the first broken rule of its terms, then of its dates and amounts
abbrev pub one_schedule_of : Swap → List Section → RateTable → Spec (List Part) Answer
one_schedule_of swap cal table = do
  terms ← refused_as broken_rule (terms_of swap cal)
  dates ← refused_as broken_rule (keeping (DatedKept swap cal table) (DatedBroken swap cal table))
  given_by (Only (IsSchedule swap cal table))

-- what the files of a task say, and the schedule; or what is due for the first step that fails. K1: the document has
-- no reading. Then come K2 to K7, K8, the calendars, the fixings, and the rules of the swap.
unfoldable pub found_of : Task → Given → Spec Facts Answer
found_of t g = do
  value ← refused_as (λ _. broken_rule unreadable) (value_of g.document)
  swap ← refused_as broken_rule (swap_of_document value)
  sides ← refused_as broken_rule (sides_of t value)
  cal ← refused_as faulty_calendar (sections_of g.calendars)
  table ← refused_as faulty_fixings (rates_of g.fixings)
  parts ← one_schedule_of swap cal (rates_for t table)
  answer (facts swap sides cal table parts)

-- the task's own answer where every step passes, or what is due for the first that fails
unfoldable pub due : Task → Given → Spec Answer Answer
due t g = do
  f ← found_of t g
  answer_for t g f

-- what is due for a task and its files
abbrev pub DueFor : Task → Given → ℕ → List ℕ → Type 0
DueFor t g status text = Gives (due t g) status text

-- the text has a reading, it means the swap, and these are the sides that the task needs
pub record SpellsTask (t : Task) (document : SourceText) (swap : Swap) (sides : Option Sides) : Type 0 where
  pub value : Data
  pub reads : TextReads document value
  pub means : Means value swap
  pub has_sides : HasSides t value sides

-- the files of a task pass every step, and these are the facts
pub record PassesEachStep (t : Task) (g : Given) (f : Facts) : Type 0 where
  pub document : SpellsTask t g.document f.swap f.sides
  pub calendars : CalFiles g.calendars f.cal
  pub fixings : AreGivenFixings g.fixings f.table
  pub terms : KeepsTerms f.swap f.cal
  pub dated : DatedKept f.swap f.cal (rates_for t f.table)
  pub schedule : Only (IsSchedule f.swap f.cal (rates_for t f.table)) f.parts

-- every list in the relations of dates, fractions and amounts has this text
abbrev pub IsTextOfEach : Facts → List ℕ → Type 0
IsTextOfEach f text = (s : List Part) → IsSchedule f.swap f.cal f.table s → text ≡ schedule_text s

-- it can't be otherwise: P in the usual logic of mathematics, where it isn't said which case holds
abbrev pub IsCertain : Type 0 → Type 0
IsCertain P = (P → ⊥) → ⊥

-- ---- what the code keeps of what the files of a task say

-- the facts that the code keeps
abbrev pub facts_by : Found → Facts
facts_by f = facts f.swap f.sides f.calendars.now f.fixings.now f.schedule

-- ---- what a task comes to: a reply, or a refusal

-- the error of the JSON reader as an error of reading a document, with its line and column
abbrev pub of_json : JsonErr → ReadErr
of_json (json.NotJson line column) = reading.Unreadable (unread.Json line column)
of_json json.Memory = reading.Memory

-- the error of the XML reader, with its line and column
abbrev pub of_xml : XmlErr → ReadErr
of_xml (xml.NotXml line column) = reading.Unreadable (unread.Xml line column)
of_xml xml.Memory = reading.Memory

-- the refusal where a document has no reading, or memory ran out
abbrev pub of_read : ReadErr → Refusal
of_read (reading.Unreadable u) = Unreadable u
of_read reading.Memory = Memory

-- the refusal where a document or a swap breaks a rule, or memory ran out
abbrev pub of_stopped : Stopped Broken → Refusal
of_stopped (stopped.Broken b) = Rule b
of_stopped stopped.Memory = Memory

-- the answer of a faulty calendar file; none where memory ran out
abbrev pub calendars_answer : CalErr → Option Answer
calendars_answer e = option_map faulty_calendar (spot_of e)

-- the answer of a faulty file of fixings; none where memory ran out
abbrev pub fixings_answer : FixErr → Option Answer
fixings_answer (fixing.Syntax line) = Some (3, bad_fixings (fixing.Syntax line))
fixings_answer (fixing.Repeat line) = Some (3, bad_fixings (fixing.Repeat line))
fixings_answer fixing.Memory = None

-- the answer of faulty cash flows; none where memory ran out
abbrev pub flows_answer : FlowErr → Option Answer
flows_answer (flowing.Shape kind place) = Some (3, bad_flows kind place)
flows_answer flowing.Memory = None

-- the answer of a refusal; none where memory ran out
abbrev pub answer_of : Refusal → Option Answer
answer_of (Unreadable u) = Some (2, refused unreadable)
answer_of (Rule b) = Some (2, refused b)
answer_of (Calendars e) = calendars_answer e
answer_of (Fixings e) = fixings_answer e
answer_of (UnreadableFlows u) = Some (3, bad_flows NotJson whole_document)
answer_of (Flows e) = flows_answer e
answer_of Memory = None

-- the refusal is a right one, or memory ran out
abbrev pub RefusedBy : {A : Type 0} → Spec A Answer → Refusal → Type 0
RefusedBy spec r = IfSome (answer_of r) spec.Refuses

-- a result is a right answer or a right refusal, or memory ran out
abbrev pub MeetsTask : {A : Type 0} → Spec A Answer → Result A Refusal → Type 0
MeetsTask spec (Ok a) = spec.Answers a
MeetsTask spec (Err r) = RefusedBy spec r

-- P holds of the status and the text, and the status is none of those of bad words, a fetch or a write
pub record Ends (P : ℕ → List ℕ → Type 0) (status : ℕ) (text : List ℕ) : Type 0 where
  pub due : P status text
  pub verdict : status < 4

-- an error of a file of fixings reports its first line at fault, or that memory ran out
abbrev pub FixingsFail : Option (List ℕ) → FixErr → Type 0
FixingsFail bytes (fixing.Syntax line) = IsFixingsFault bytes (fixing.Syntax line)
FixingsFail bytes (fixing.Repeat line) = IsFixingsFault bytes (fixing.Repeat line)
FixingsFail bytes fixing.Memory = Unit {0}

-- an error of reading a text reports how it has no reading, or that memory ran out
abbrev pub ReadFails : SourceText → ReadErr → Type 0
ReadFails w (reading.Unreadable u) = IsUnread w u
ReadFails w reading.Memory = Unit {0}

-- ---- what was read of the calendar files and of the file of fixings that tasks have in common

-- calendar files spell the sections, or have the first fault; out of memory says nothing
abbrev pub CalendarsRead : List (List ℕ) → Result (List Section) CalErr → Type 0
CalendarsRead files (Ok cal) = CalFiles files cal
CalendarsRead files (Err e) = IfSome (spot_of e) (IsFirstCalendarFault files)

-- a file of fixings gives the rates, or has the first fault; out of memory says nothing
abbrev pub FixingsRead : Option (List ℕ) → Result RateTable FixErr → Type 0
FixingsRead bytes (Ok table) = AreGivenFixings bytes table
FixingsRead bytes (Err e) = FixingsFail bytes e

-- what is kept of the files is what they say, or their first fault
pub record AreRead (c : Common) : Type 0 where
  pub calendars : CalendarsRead (files_given_by c.files).calendars c.calendars
  pub fixings : FixingsRead (files_given_by c.files).fixings c.fixings
