-- What a task prints, what a reply is, and the step that decides it.
use Rattle.std.specs.Prelude.{ℕ, List, [], ◌∷◌, ◌++◌, codes, decimal, ◌≡◌, ◌⊎◌, ◌<◌, ◌==◌, if◌then◌else◌}
use Rattle.irs_terms.specs.Elements.{document}
use Rattle.irs_terms.specs.Paths.{path_of}
use Rattle.irs_base.specs.Outcomes.{Spec}
use Rattle.irs_terms.specs.Faults.{rule_number}
use Rattle.irs_terms.specs.declared.places.Broken.{Broken}
use Rattle.irs_terms.specs.declared.places.Rule.TheVariants.{K1}
use Rattle.irs_terms.specs.declared.places.Place.{Place}
use Rattle.irs_flows.specs.declared.error.ShapeKind.{ShapeKind}
use Rattle.irs_flows.specs.declared.error.FlowErr.{FlowErr}
use Rattle.irs_flows.specs.declared.error.ShapeKind.TheVariants.{NotJson}
use Rattle.irs_flows.specs.declared.error.ShapeKind.TheVariants as shape
use Rattle.irs_flows.specs.declared.error.FlowErr.TheVariants as flowing
use Rattle.irs_calendar.specs.Grammar.{Spot}
use Rattle.irs_calendar.specs.declared.machine.Fault.{Fault}
use Rattle.irs_calendar.specs.declared.machine.Fault.TheVariants.{Syntax, Repeat, TooMany}
use Rattle.irs_calendar.specs.declared.calendars.CalErr.{CalErr}
use Rattle.irs_calendar.specs.declared.calendars.CalErr.TheVariants as calendar
use Rattle.irs_resets.specs.declared.fixings.FixErr.{FixErr}
use Rattle.irs_resets.specs.declared.fixings.FixErr.TheVariants as fixings
use Rattle.irs_schedule.specs.RowsOf.{schedule_text}
use Rattle.irs_audit.specs.Verdicts.{field_name, row_name}
use Rattle.irs_audit.specs.declared.departures.Departure.{Departure}
use Rattle.irs_audit.specs.declared.departures.Verdict.{Verdict}
use Rattle.irs_audit.specs.declared.departures.Verdict.TheVariants.{Yes, No}
use Rattle.irs_answers.specs.declared.refusals.Refusal.{Refusal}
use Rattle.irs_answers.specs.declared.replies.Reply.{Reply}
use Rattle.irs_answers.specs.declared.replies.Reply.TheVariants.{Text, Rows}
use Rattle.irs_answers.specs.declared.causes.Cause.{Cause}
use Rattle.irs_answers.specs.declared.causes.Cause.TheVariants.{Done, Uncompared, NotAgreed}
use Rattle.irs_answers.specs.declared.tasks.Task.{Task}
use Rattle.irs_answers.specs.declared.refusals.Refusal.TheVariants as refusal
use Rattle.irs_answers.specs.declared.replies.Reply.TheVariants as reply
use Rattle.irs_answers.specs.declared.tasks.Task.TheVariants as task
use Rattle.irs_answers.specs.declared.causes.Cause.TheVariants as cause

-- ---- the lines of a task that prints no schedule

-- the line of a broken rule with a path: rule, stream, path and index
abbrev pub refused_at : Broken → List ℕ → List ℕ
refused_at b path =
    codes "refused K" ++ decimal (rule_number b.rule) ++ 32 ∷ decimal b.place.stream ++ 32 ∷ path
    ++ 32 ∷ decimal b.place.index ++ codes "\n"

-- the line of a broken rule, with the path of its element
abbrev pub refused : Broken → List ℕ
refused b = refused_at b (path_of b.place.elem)

-- the rule that a document without a reading breaks
abbrev pub unreadable : Broken
unreadable = record { rule = K1; place = record { stream = 0; elem = document; index = 0 } }

-- the name of the way in which a line of a calendar file is at fault
abbrev pub calendar_fault : Fault → List ℕ
calendar_fault Syntax = codes "syntax"
calendar_fault Repeat = codes "repeat"
calendar_fault TooMany = codes "toomany"

-- the line of a calendar file outside its grammar or limits: the file, its line and how
abbrev pub bad_calendar : Spot → List ℕ
bad_calendar s =
    codes "bad calendar " ++ decimal s.file ++ 32 ∷ decimal s.line ++ 32 ∷ calendar_fault s.fault ++ codes "\n"

-- the line of a file of fixings outside its grammar: the line and how
abbrev pub bad_fixings : FixErr → List ℕ
bad_fixings (fixings.Syntax line) = codes "bad fixings " ++ decimal line ++ codes " syntax\n"
bad_fixings (fixings.Repeat line) = codes "bad fixings " ++ decimal line ++ codes " repeat\n"
bad_fixings fixings.Memory = []

-- the line of a document that keeps every rule
abbrev pub all_kept : List ℕ
all_kept = codes "ok\n"

-- ---- the lines that an audit prints: the verdict, and the first fault of the flows

-- ---- the first fault of the flows

-- the name of the way in which the flows are out of shape
abbrev pub shape_name : ShapeKind → List ℕ
shape_name shape.NotJson = codes "notjson"
shape_name shape.Missing = codes "missing"
shape_name shape.Kind = codes "kind"
shape_name shape.Unknown = codes "unknown"
shape_name shape.Profile = codes "profile"
shape_name shape.Value = codes "value"
shape_name shape.Count = codes "count"

-- the line of a fault of the flows with a path: kind, stream, path and index
abbrev pub bad_flows_at : ShapeKind → Place → List ℕ → List ℕ
bad_flows_at kind place path =
    codes "bad flows " ++ shape_name kind ++ 32 ∷ decimal place.stream ++ 32 ∷ path ++ 32 ∷ decimal place.index
    ++ codes "\n"

-- the line of a fault of the flows, with the path of its element
abbrev pub bad_flows : ShapeKind → Place → List ℕ
bad_flows kind place = bad_flows_at kind place (path_of place.elem)

-- the document as a whole
abbrev pub whole_document : Place
whole_document = record { stream = 0; elem = document; index = 0 }

-- ---- the verdict

-- the line of a departure: stream, kind of row, row and field
abbrev pub departure_text : Departure → List ℕ
departure_text d =
    codes "no " ++ decimal d.stream ++ 32 ∷ row_name d.kind ++ 32 ∷ decimal d.row ++ 32 ∷ field_name d.field
    ++ codes "\n"

-- the line of a verdict: where the flows agree, how many rows the schedule has, and how many payments without amount
abbrev pub verdict_text : Verdict → List ℕ
verdict_text (Yes rows unfixed) = codes "yes " ++ decimal rows ++ 32 ∷ decimal unfixed ++ codes "\n"
verdict_text (No d) = departure_text d

-- the status of a verdict
abbrev pub verdict_status : Verdict → ℕ
verdict_status (Yes rows unfixed) = 0
verdict_status (No d) = 1

-- ---- what a reply is: its status and its text

-- ---- a refusal

-- the line of a faulty calendar file; none where memory ran out
abbrev pub calendars_text : CalErr → List ℕ
calendars_text (calendar.Syntax file line) = bad_calendar (record { fault = Syntax; file = file; line = line })
calendars_text (calendar.Repeat file line) = bad_calendar (record { fault = Repeat; file = file; line = line })
calendars_text (calendar.TooMany file line) = bad_calendar (record { fault = TooMany; file = file; line = line })
calendars_text calendar.Memory = []

-- the line of a faulty file of fixings; none where memory ran out
abbrev pub fixings_text : FixErr → List ℕ
fixings_text e = bad_fixings e

-- the line of faulty cash flows; none where memory ran out
abbrev pub flows_fault_text : FlowErr → List ℕ
flows_fault_text (flowing.Shape kind place) = bad_flows kind place
flows_fault_text flowing.Memory = []

-- the status of a refusal
abbrev pub refusal_status : Refusal → ℕ
refusal_status (refusal.Unreadable u) = 2
refusal_status (refusal.Rule b) = 2
refusal_status (refusal.Calendars e) = 3
refusal_status (refusal.Fixings e) = 3
refusal_status (refusal.UnreadableFlows u) = 3
refusal_status (refusal.Flows e) = 3
refusal_status refusal.Memory = 7

-- the line of a refusal; none where memory ran out
abbrev pub refusal_text : Refusal → List ℕ
refusal_text (refusal.Unreadable u) = refused unreadable
refusal_text (refusal.Rule b) = refused b
refusal_text (refusal.Calendars e) = calendars_text e
refusal_text (refusal.Fixings e) = fixings_text e
refusal_text (refusal.UnreadableFlows u) = bad_flows NotJson whole_document
refusal_text (refusal.Flows e) = flows_fault_text e
refusal_text refusal.Memory = []

-- ---- a reply

-- the status of a reply
abbrev pub reply_status : Reply → ℕ
reply_status (Text text) = 0
reply_status (Rows schedule) = 0
reply_status (reply.Breaks text) = 1
reply_status (reply.Verdict w) = verdict_status w
reply_status (reply.Refused r) = refusal_status r

-- the text of a reply
abbrev pub reply_text : Reply → List ℕ
reply_text (Text text) = text.items
reply_text (Rows schedule) = schedule_text schedule
reply_text (reply.Breaks text) = text.items
reply_text (reply.Verdict w) = verdict_text w
reply_text (reply.Refused r) = refusal_text r

-- ---- what a specification over a status and a text gives, and steps that are rules

-- a status and a text
abbrev pub Answer : Type 0
Answer = ℕ × List ℕ

-- the specification answers with the status and the text, or refuses with them
abbrev pub Gives : Spec Answer Answer → ℕ → List ℕ → Type 0
Gives spec status text = spec.Answers (status, text) ⊎ spec.Refuses (status, text)

-- the status and the text are these
abbrev pub Is : ℕ → List ℕ → ℕ → List ℕ → Type 0
Is s t status text = (status ≡ s) × (text ≡ t)

-- what is due where a rule is broken: the line of the rule
abbrev pub broken_rule : Broken → Answer
broken_rule b = (2, refused b)

-- rules are kept, or one is the first that is broken
abbrev pub keeping : Type 0 → (Broken → Type 0) → Spec (Unit {0}) Broken
keeping Keeps IsFirst = record {
  Answers = λ _. Keeps;
  Refuses = IsFirst;
}

-- ---- what a reply says, for the sentence about it; and when that is said of a status and a text

-- ---- the cause of a reply

-- what a verdict says
abbrev pub verdict_cause : Verdict → Cause
verdict_cause (Yes rows unfixed) = if unfixed == 0 then Done else Uncompared unfixed
verdict_cause (No d) = NotAgreed d

-- what a reply says
abbrev pub cause_of : Reply → Cause
cause_of (reply.Text text) = Done
cause_of (reply.Rows schedule) = Done
cause_of (reply.Breaks text) = cause.Breaks
cause_of (reply.Verdict w) = verdict_cause w
cause_of (reply.Refused r) = cause.Refused r

-- the status of a reply with this cause
abbrev pub cause_status : Cause → ℕ
cause_status Done = 0
cause_status (Uncompared n) = 0
cause_status (NotAgreed d) = 1
cause_status cause.Breaks = 1
cause_status (cause.Refused r) = refusal_status r

-- ---- the cause of a status and a text

-- the text of an audit says that no amount lacks a fixing
abbrev pub IsCompared : List ℕ → Type 0
IsCompared text = (rows : ℕ) × (text ≡ verdict_text (Yes rows 0))

-- the text of an audit says that this number of amounts lacks a fixing
abbrev pub IsUncompared : ℕ → List ℕ → Type 0
IsUncompared n text = (0 < n) × ((rows : ℕ) × (text ≡ verdict_text (Yes rows n)))

-- the cause is that of a status and a text
abbrev pub IsCause : Cause → ℕ → List ℕ → Type 0
IsCause Done status text = status ≡ 0
IsCause (Uncompared n) status text = (status ≡ 0) × IsUncompared n text
IsCause (NotAgreed d) status text = Is 1 (departure_text d) status text
IsCause cause.Breaks status text = status ≡ 1
IsCause (cause.Refused r) status text = Is (refusal_status r) (refusal_text r) status text

-- the cause is that of the status and the text that a task comes to
pub record IsCauseOf (t : Task) (c : Cause) (status : ℕ) (text : List ℕ) : Type 0 where
  pub is : IsCause c status text
  -- where there is nothing to say of an audit, no amount lacks a fixing
  pub compared : t ≡ task.Audit → c ≡ Done → IsCompared text

-- ---- an audit

-- the reply is a verdict or a refusal
abbrev pub IsJudged : Reply → Type 0
IsJudged (reply.Text text) = ⊥
IsJudged (reply.Rows schedule) = ⊥
IsJudged (reply.Breaks text) = ⊥
IsJudged (reply.Verdict w) = Unit {0}
IsJudged (reply.Refused r) = Unit {0}
