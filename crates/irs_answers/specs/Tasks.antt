-- The tasks, and what is due for those that print something other than a schedule.
use Rattle.std.specs.Prelude.{◌≤◌, Bool, true, false, ◌≡◌, ℕ, ◌+◌, ◌-◌, List, [], ◌∷◌, ◌++◌, Some, codes, slice_get, ℤ}
use Rattle.std.specs.Prelude.{Option, ◌⊎◌}
use Rattle.std.specs.List.{flat_map}
use Rattle.serde_json.specs.Data.{Data}
use Rattle.serde_json.specs.Written.{compact_text}
use Rattle.irs_base.specs.Outcomes.{Only, Spec, ◌>>=◌, answer, given_by, refused_as}
use Rattle.irs_terms.specs.Faults.{fault_at, in_stream}
use Rattle.irs_base.specs.Texts.{day_text}
use Rattle.irs_terms.specs.Elements.{swap_stream}
use Rattle.irs_terms.specs.declared.places.Broken.{Broken}
use Rattle.irs_terms.specs.declared.places.Rule.TheVariants.{K49}
use Rattle.irs_terms.specs.Lawful.{IsLawfulTenor}
use Rattle.irs_terms.specs.declared.stream.Stream.{Stream}
use Rattle.irs_terms.specs.declared.stream_list.Swap.{Swap}
use Rattle.irs_terms.specs.declared.amounts.FloatTerms.{FloatTerms}
use Rattle.irs_terms.specs.declared.amounts.Leg.TheVariants.{Floating}
use Rattle.irs_terms.specs.declared.parameters.CalculationParameters.{CalculationParameters}
use Rattle.irs_terms.specs.declared.results.Span.{Span}
use Rattle.irs_json.specs.Reading.{Reads}
use Rattle.irs_xml.specs.Document.{XmlReads}
use Rattle.irs_flows.specs.FlowReading.{flows_of_document, FlowPart, shape_kind_of}
use Rattle.irs_flows.specs.declared.error.ShapeKind.TheVariants.{NotJson}
use Rattle.irs_calendar.specs.declared.sections.Section.{Section}
use Rattle.irs_periods.specs.Spans.{Regular}
use Rattle.irs_resets.specs.Rates.{RateTable}
use Rattle.irs_observed.specs.OvernightRates.{OvernightSource, overnight_source}
use Rattle.irs_daily.specs.ObservedRows.{AreObservedRows, observations_text}
use Rattle.irs_daily.specs.declared.rows.ObservedRow.{ObservedRow}
use Rattle.irs_schedule.specs.DaySets.{applicable_days}
use Rattle.irs_schedule.specs.Parts.{Part}
use Rattle.irs_schedule.specs.RowsOf.{footer}
use Rattle.irs_average.specs.Averages.{most_step}
use Rattle.irs_accrue.specs.Accruals.{accrual_text}
use Rattle.irs_accrue.specs.DailyAccruals.{IsAccrualOf}
use Rattle.irs_accrue.specs.declared.accruals.Accrual.{Accrual}
use Rattle.irs_net.specs.Nets.{Net, net_text}
use Rattle.irs_net.specs.declared.sides.Sides.{Sides}
use Rattle.irs_net.specs.declared.table.NetRow.{NetRow}
use Rattle.irs_audit.specs.Verdicts.{IsVerdict, row_count, unfixed_count}
use Rattle.irs_audit.specs.declared.departures.Verdict.TheVariants.{Yes}
use Rattle.irs_breaks.specs.BreakLists.{HasBreak, IsBreakList}
use Rattle.irs_breaks.specs.BreakTexts.{breaks_text}
use Rattle.irs_breaks.specs.Findings.{Findings}
use Rattle.irs_answers.specs.declared.tasks.Task.{Task}
use Rattle.irs_answers.specs.declared.tasks.Task.TheVariants.{Check, Schedule, Audit, Emit, Accrue, Overnight, Average}
use Rattle.irs_answers.specs.declared.tasks.Task.TheVariants.{Breaks, EmitXml, Interpolate, Observations}
use Rattle.irs_answers.specs.Messages.{Answer, broken_rule, bad_flows, verdict_status, verdict_text, whole_document}
use Rattle.irs_answers.specs.Messages.{unreadable, Gives}
use Rattle.irs_answers.specs.Forms.{SourceText, value_of, xml_text}
use Rattle.irs_answers.specs.declared.tasks.Task.TheVariants as task

-- ---- what else the tasks need: rates in the schedule, and the sides of the streams; and the ranges of their
-- parameters

-- whether a task's schedule is made with the rates of the file of fixings; where there is no file, there are no rates
abbrev pub uses_rates : Task → Bool
uses_rates Check = true
uses_rates Schedule = true
uses_rates Audit = true
uses_rates (Breaks from) = true
uses_rates Emit = true
uses_rates EmitXml = true
uses_rates (Accrue date) = true
uses_rates task.Net = true
uses_rates (Observations stream) = true
uses_rates (Overnight stream) = false
uses_rates (Average stream mean step) = false
uses_rates (Interpolate stream side low high) = false

-- whether a task needs to know which party pays each stream
abbrev pub nets : Task → Bool
nets Check = false
nets Schedule = false
nets Audit = false
nets (Breaks from) = false
nets Emit = false
nets EmitXml = false
nets (Accrue date) = false
nets task.Net = true
nets (Observations stream) = false
nets (Overnight stream) = false
nets (Average stream mean step) = false
nets (Interpolate stream side low high) = false

-- whether a task states the amounts of payments
abbrev pub states_amounts : Task → Bool
states_amounts Check = false
states_amounts Schedule = true
states_amounts Audit = true
states_amounts (Breaks from) = true
states_amounts Emit = true
states_amounts EmitXml = true
states_amounts (Accrue date) = true
states_amounts task.Net = true
states_amounts (Observations stream) = false
states_amounts (Overnight stream) = false
states_amounts (Average stream mean step) = false
states_amounts (Interpolate stream side low high) = false

-- the parameters of a task lie in their ranges: a step of 1 to 6,993 days, two tenors
abbrev pub IsLawfulTask : Task → Type 0
IsLawfulTask Check = Unit {0}
IsLawfulTask Schedule = Unit {0}
IsLawfulTask Audit = Unit {0}
IsLawfulTask (Breaks from) = Unit {0}
IsLawfulTask Emit = Unit {0}
IsLawfulTask EmitXml = Unit {0}
IsLawfulTask (Accrue date) = Unit {0}
IsLawfulTask task.Net = Unit {0}
IsLawfulTask (Observations stream) = Unit {0}
IsLawfulTask (Overnight stream) = Unit {0}
IsLawfulTask (Average stream mean step) = (1 ≤ step) × (step ≤ most_step)
IsLawfulTask (Interpolate stream side low high) = IsLawfulTenor low × IsLawfulTenor high

-- ---- the text of `accrue`: what has accrued on a day, a line a stream

-- a swap with the files beside it, by which its streams accrue
pub record Accruing : Type 0 where
  pub swap : Swap
  pub cal : List Section
  pub table : RateTable

-- a swap with these calendars and rates
abbrev pub accruing : Swap → List Section → RateTable → Accruing
accruing swap cal table = record { swap = swap; cal = cal; table = table }

-- what has accrued on d in the stream with this number, from 1, of which p is the part of the schedule
pub record AccruesAt (x : Accruing) (d : ℤ) (number : ℕ) (p : Part) (a : Accrual) : Type 0 where
  pub stream : Stream
  pub at : slice_get x.swap.streams (number - 1) ≡ Some stream
  pub accrues : IsAccrualOf stream (applicable_days x.cal stream) x.table p d a

-- `irs-accrued 1 DATE`
abbrev pub accrued_header : ℤ → List ℕ
accrued_header d = codes "irs-accrued 1 " ++ day_text d ++ codes "\n"

-- the lines of streams, the first of them with this number: each that of the one accrual of its stream on the day
abbrev pub AreAccrued : Accruing → ℤ → ℕ → List Part → List ℕ → Type 0
AreAccrued x d k [] lines = lines ≡ []
AreAccrued x d k (p ∷ ps) lines =
    (a : Accrual) × Only (AccruesAt x d k p) a
    × ((rest : List ℕ) × AreAccrued x d (k + 1) ps rest × (lines ≡ accrual_text k a ++ rest))

-- the whole text, of its lines
abbrev pub accrued_page : ℤ → List ℕ → List ℕ
accrued_page d lines = (accrued_header d ++ lines) ++ footer

-- the text says what has accrued on the day in each stream
abbrev pub TellsAccrued : ℤ → Accruing → List Part → List ℕ → Type 0
TellsAccrued d x parts text = (lines : List ℕ) × AreAccrued x d 1 parts lines × (text ≡ accrued_page d lines)

-- ---- the text of `net`: what falls due between the two parties, a line for each date and currency

-- `irs-net 1`
abbrev pub net_header : List ℕ
net_header = codes "irs-net 1\n"

-- the whole text of these rows
abbrev pub net_page : List NetRow → List ℕ
net_page rows = (net_header ++ flat_map net_text rows) ++ footer

-- the text has the rows of the only table of these sides
abbrev pub TellsNetOf : Sides → List Part → List ℕ → Type 0
TellsNetOf sides parts text = (rows : List NetRow) × Only (Net parts sides.forward) rows × (text ≡ net_page rows)

-- the sides were read, and the text has the rows of the only table of these sides
abbrev pub TellsNet : Option Sides → List Part → List ℕ → Type 0
TellsNet read parts text = (sides : Sides) × (read ≡ Some sides) × TellsNetOf sides parts text

-- ---- what is due for `observations`: the days that each rate of a stream with calculation parameters is made of

-- a stream with its floating terms and their calculation parameters
pub record DailyStream : Type 0 where
  pub stream : Stream
  pub float : FloatTerms
  pub parameters : CalculationParameters

-- the swap has it as the stream with that number, from 1
pub record IsDailyAt (swap : Swap) (number : ℕ) (y : DailyStream) : Type 0 where
  pub from_one : 1 ≤ number
  pub at : slice_get swap.streams (number - 1) ≡ Some y.stream
  pub pays : y.stream.leg ≡ Floating y.float
  pub has : y.float.parameters ≡ Some y.parameters

-- K49 at the stream with that number
abbrev pub no_daily_stream : ℕ → Broken
no_daily_stream number = in_stream number (fault_at K49 swap_stream 0)

-- the stream with that number; or K49 where the swap has no such stream, or it has no calculationParameters
abbrev pub daily_of : Swap → ℕ → Spec DailyStream Broken
daily_of swap number = record {
  Answers = IsDailyAt swap number;
  Refuses = λ b. ((y : DailyStream) → IsDailyAt swap number y → ⊥) × (b ≡ no_daily_stream number);
}

-- what its observed rates are found from: its regular span, the adjusted boundaries of its part of the schedule, and
-- its applicable business days
abbrev pub source_in : List Section → DailyStream → Span → Part → OvernightSource
source_in cal y span p = overnight_source y.stream span p.adjusted (applicable_days cal y.stream) y.float y.parameters

-- the rows of the stream with that number, by its part of the schedule
pub record AreRowsIn (number : ℕ) (x : Accruing) (parts : List Part) (y : DailyStream) (rows : List ObservedRow)
    : Type 0 where
  pub part : Part
  pub there : slice_get parts (number - 1) ≡ Some part
  pub span : Span
  pub regular : Regular y.stream span
  pub are : AreObservedRows (source_in x.cal y span part) x.table rows

-- the text of the only list of the days that each rate of the stream with that number is made of
abbrev pub observations_of : ℕ → Accruing → List Part → Spec Answer Answer
observations_of number x parts = do
  y ← refused_as broken_rule (daily_of x.swap number)
  rows ← given_by (Only (AreRowsIn number x parts y))
  answer (0, observations_text number rows)

-- ---- what is due for the tasks that read cash flows: the verdict of an audit, and the list of breaks

-- what is due where the flows have no reading
abbrev pub unread_flows : Answer
unread_flows = (3, bad_flows NotJson whole_document)

-- what is due for the first fault of flows that have a reading
abbrev pub faulty_flows : Broken → Answer
faulty_flows b = (3, bad_flows (shape_kind_of b.rule) b.place)

-- the flows that a text states; or what is due where it has no reading, or for its first fault
abbrev pub flows_in : SourceText → Spec (List FlowPart) Answer
flows_in w = do
  value ← refused_as (λ _. unread_flows) (value_of w)
  refused_as faulty_flows (flows_of_document value)

-- the line of the only verdict on the flows of a text against a schedule
abbrev pub audit_of : List Part → SourceText → Spec Answer Answer
audit_of s w = do
  flows ← flows_in w
  verdict ← given_by (Only (IsVerdict flows s))
  answer (verdict_status verdict, verdict_text verdict)

-- the audit of the text against the schedule is yes, with the counts of the schedule's rows
abbrev pub IsAuditedYes : List Part → SourceText → Type 0
IsAuditedYes s w = (audit_of s w).Answers (0, verdict_text (Yes (row_count s) (unfixed_count s)))

-- 1 where there is a break, and 0 where there is none
abbrev pub IsStatusOf : Findings → ℕ → Type 0
IsStatusOf list status = (HasBreak list × (status ≡ 1)) ⊎ (¬ (HasBreak list) × (status ≡ 0))

-- the text of the only list of breaks between the flows of a text and a schedule, for what is due from a day on, or for
-- all
abbrev pub breaks_of : Option ℤ → List Part → SourceText → Spec Answer Answer
breaks_of from s w = do
  flows ← flows_in w
  list ← given_by (Only (IsBreakList from s flows))
  status ← given_by (IsStatusOf list)
  answer (status, breaks_text from list)

-- ---- what is due for `carrier`: the value of FpML XML as a JSON text

-- the value as serde_json writes it, without spaces and its members in byte order of their names, and LF
abbrev pub carrier_text : Data → List ℕ
carrier_text v = compact_text v ++ 10 ∷ []

-- the text of the value that bytes mean as FpML XML; or K1 where they mean none
abbrev pub carrier_of : List ℕ → Spec Answer Answer
carrier_of bytes = do
  value ← refused_as (λ _. broken_rule unreadable) (value_of (xml_text bytes))
  answer (0, carrier_text value)

-- what is due for the carrier of bytes
abbrev pub DueCarrier : List ℕ → ℕ → List ℕ → Type 0
DueCarrier bytes status text = Gives (carrier_of bytes) status text

-- the text reads, as JSON, as the value that the bytes mean as FpML XML
abbrev pub ReadsBack : List ℕ → List ℕ → Type 0
ReadsBack bytes text = (v : Data) × XmlReads bytes v × Reads text v
