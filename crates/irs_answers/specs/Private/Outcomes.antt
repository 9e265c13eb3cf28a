-- Private: no public contract rests on this file.
-- Of private functions: what the tasks come to.
use Rattle.std.specs.Prelude.{List, ℕ, Result, IfOk, IfSome, [], ◌≡◌, length, Option, Some, Ok, Err}
use Rattle.serde_json.specs.Data.{Data}
use Rattle.irs_base.specs.Outcomes.{Spec}
use Rattle.irs_terms.specs.Lawful.{IsLawfulSwap}
use Rattle.irs_terms.specs.declared.stream_list.Swap.{Swap}
use Rattle.irs_terms.specs.declared.amounts.FloatTerms.{FloatTerms}
use Rattle.irs_terms.specs.declared.parameters.CalculationParameters.{CalculationParameters}
use Rattle.irs_terms.specs.declared.stream.Stream.{Stream}
use Rattle.irs_xml.specs.Document.{XmlReads}
use Rattle.irs_flows.specs.FlowReading.{FlowPart, FlowsOf, IsFirstFlowFault}
use Rattle.irs_flows.specs.declared.error.FlowErr.{FlowErr}
use Rattle.irs_calendar.specs.declared.sections.Section.{Section}
use Rattle.irs_rules.specs.TermsRules.{BreaksNone}
use Rattle.irs_schedule.specs.Schedules.{DatedKept, IsSchedule}
use Rattle.irs_schedule.specs.Parts.{Part}
use Rattle.irs_net.specs.declared.sides.Sides.{Sides}
use Rattle.irs_answers.specs.Tasks.{Accruing, DailyStream}
use Rattle.irs_answers.specs.declared.refusals.Refusal.{Refusal}
use Rattle.irs_answers.specs.declared.replies.Reply.{Reply}
use Rattle.irs_answers.specs.declared.tasks.Task.{Task}
use Rattle.irs_answers.specs.Messages.{IsJudged, reply_status, reply_text, Answer}
use Rattle.irs_answers.specs.Forms.{IsUnread, TextReads, SourceText, IsPlacedRefusal, IsPlacedReply}
use Rattle.irs_answers.specs.declared.refusals.Refusal.TheVariants.{Rule, Calendars, Fixings, Flows, Memory, Unreadable}
use Rattle.irs_answers.specs.declared.refusals.Refusal.TheVariants.{UnreadableFlows}
use Rattle.irs_answers.specs.Due.{RefusedBy, answer_of}
use Rattle.irs_answers.specs.declared.replies.Reply.TheVariants.{Text, Rows, Breaks, Verdict, Refused}
use Rattle.irs_answers.specs.declared.tasks.Task.TheVariants as task

-- ---- the text of `accrue`: what has accrued on a day, a line a stream

-- a lawful swap breaks no rule, and this is its schedule
pub record IsAccruing (x : Accruing) (parts : List Part) : Type 0 where
  pub lawful : IsLawfulSwap x.swap
  pub terms : BreaksNone x.swap x.cal
  pub dated : DatedKept x.swap x.cal x.table
  pub schedule : IsSchedule x.swap x.cal x.table parts

-- ---- what is due for `carrier`: the value of FpML XML as a JSON text

-- some bytes mean the value as FpML XML
abbrev pub MeansXml : Data → Type 0
MeansXml v = (bytes : List ℕ) × XmlReads bytes v

-- ---- what a reply says, for the sentence about it; and when that is said of a status and a text

-- ---- an audit

-- the reply of an audit, if there is one, is a verdict or a refusal
abbrev pub JudgedIf : Task → Result Reply Refusal → Type 0
JudgedIf task.Check r = Unit {0}
JudgedIf task.Schedule r = Unit {0}
JudgedIf task.Audit r = IfOk r IsJudged
JudgedIf (task.Breaks from) r = Unit {0}
JudgedIf task.Emit r = Unit {0}
JudgedIf task.EmitXml r = Unit {0}
JudgedIf (task.Accrue date) r = Unit {0}
JudgedIf task.Net r = Unit {0}
JudgedIf (task.Observations stream) r = Unit {0}
JudgedIf (task.Overnight stream) r = Unit {0}
JudgedIf (task.Average stream mean step) r = Unit {0}
JudgedIf (task.Interpolate stream side low high) r = Unit {0}

-- ---- what is due for the tasks that derive rates for a floating stream: their own rules, then a fixing file

-- a lawful swap breaks no rule without fixings, by these calendars, and this is its schedule
pub record IsUnfixedSchedule (swap : Swap) (cal : List Section) (parts : List Part) : Type 0 where
  pub lawful : IsLawfulSwap swap
  pub terms : BreaksNone swap cal
  pub dated : DatedKept swap cal []
  pub schedule : IsSchedule swap cal [] parts

-- ---- the text of `net`: what falls due between the two parties, a line for each date and currency

-- the sides were read, one for each stream
abbrev pub IsSided : Option Sides → List Part → Type 0
IsSided read parts = (sides : Sides) × (read ≡ Some sides) × (sides.count ≡ length parts)

-- ---- what is due for `observations`: the days that each rate of a stream with calculation parameters is made of

-- a stream with these floating terms and calculation parameters
abbrev pub daily_stream : Stream → FloatTerms → CalculationParameters → DailyStream
daily_stream s float parameters = record { stream = s; float = float; parameters = parameters }

-- ---- what a task comes to: a reply, or a refusal

-- a reply is a right answer, or a refusal is a right one, or memory ran out
abbrev pub MeetsReply : Spec Answer Answer → Result Reply Refusal → Type 0
MeetsReply spec (Ok o) = spec.Answers (reply_status o, reply_text o)
MeetsReply spec (Err r) = RefusedBy spec r

-- P holds of the refusal's answer, if it has one
abbrev pub IfRefused : Refusal → (ℕ → List ℕ → Type 0) → Type 0
IfRefused r P = IfSome (answer_of r) (λ a. P a.0 a.1)

-- P holds of the answer, if there is one
abbrev pub IfAnswered : Result Reply Refusal → (ℕ → List ℕ → Type 0) → Type 0
IfAnswered (Ok o) P = P (reply_status o) (reply_text o)
IfAnswered (Err r) P = IfRefused r P

-- the text has a reading, and it states the flows
abbrev pub SpellsFlows : SourceText → List FlowPart → Type 0
SpellsFlows w flows = (v : Data) × TextReads w v × FlowsOf v flows

-- an error of flows that have a reading reports its first fault, or that memory ran out
abbrev pub FlowsFail : SourceText → FlowErr → Type 0
FlowsFail w e = (v : Data) × TextReads w v × IsFirstFlowFault v e

-- a refusal of flows reports how they have no reading, their first fault, or that memory ran out
abbrev pub FlowsRefused : SourceText → Refusal → Type 0
FlowsRefused w (Unreadable u) = ⊥
FlowsRefused w (Rule b) = ⊥
FlowsRefused w (Calendars e) = ⊥
FlowsRefused w (Fixings e) = ⊥
FlowsRefused w (UnreadableFlows u) = IsUnread w u
FlowsRefused w (Flows e) = FlowsFail w e
FlowsRefused w Memory = Unit {0}

-- ---- what a reply is: its status and its text

-- ---- a reply

-- the task is carried out: the reply is no refusal
abbrev pub IsCarriedOut : Reply → Type 0
IsCarriedOut (Text text) = Unit {0}
IsCarriedOut (Rows schedule) = Unit {0}
IsCarriedOut (Breaks text) = Unit {0}
IsCarriedOut (Verdict w) = Unit {0}
IsCarriedOut (Refused r) = ⊥

-- ---- what a reply and a refusal say of texts that have no reading

-- the same of either
abbrev pub AllPlaced : SourceText → SourceText → Result Reply Refusal → Type 0
AllPlaced document flows (Ok r) = IsPlacedReply document flows r
AllPlaced document flows (Err r) = IsPlacedRefusal document flows r

-- the reply isn't of a text without a reading
abbrev pub IsOfReadText : Reply → Type 0
IsOfReadText r = (document flows : SourceText) → IsPlacedReply document flows r

-- the refusal isn't of a document without a reading
abbrev pub IsOfFlows : SourceText → Refusal → Type 0
IsOfFlows flows r = (document : SourceText) → IsPlacedRefusal document flows r

-- neither a reply nor a refusal is of a text without a reading
abbrev pub NoneUnread : Result Reply Refusal → Type 0
NoneUnread r = (document flows : SourceText) → AllPlaced document flows r

-- neither a reply nor a refusal is of a document without a reading
abbrev pub FlowsAlone : SourceText → Result Reply Refusal → Type 0
FlowsAlone flows r = (document : SourceText) → AllPlaced document flows r
