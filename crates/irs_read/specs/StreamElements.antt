-- The elements of a swap's streams (FpML's InterestRateStream), a line each: its name, how often it occurs, how its
-- text is read, the field that it gives, and what holds where it is absent. A name continues the path of the object
-- that it stands in. Which elements are in the profile, their counts, their order and the defaults are our rule.
use Rattle.irs_base.specs.Limits.{most_centers, most_steps}
use Rattle.irs_base.specs.{Lists.Pairs, declared.rounding.Direction.TheVariants.Nearest}
use Rattle.irs_elements.specs.Codes.{calculation_method_at, compounding_at, convention_at, day_count_at, day_kind_at}
use Rattle.irs_elements.specs.Codes.{direction_at, offset_unit_at, relative_at, roll_at, stub_kind_at, tenor_unit_at}
use Rattle.irs_elements.specs.Codes.{treatment_at, truth_at, period_unit_at}
use Rattle.irs_elements.specs.Leaves.{leaf_date_at, currency_at, is_center_name, is_index_name}
use Rattle.irs_elements.specs.Lines.{at_most_one, at_most_one_of_three, exactly_one, object}
use Rattle.irs_elements.specs.Numbers.{leaf_rate_at, multiplier_at, notional_at, observation_days_at, offset_at}
use Rattle.irs_elements.specs.declared.table.Count.TheVariants.{Maybe, OneTo, UpTo}
use Rattle.irs_elements.specs.declared.table.Leaf.TheVariants as Leaf
use Rattle.irs_elements.specs.{Elements.once, Lines.reference as reference_form, Numbers.precision_at}
use Rattle.irs_read.specs.Readings.{ReadPart, Says, Value, each, either_member, holds, member_lines, maybe, one, or}
use Rattle.irs_read.specs.Readings.{or_by, text, unread, ◌also◌, ◌gives◌, has_id, href_of, lists_of, streams_in}
use Rattle.irs_read.specs.Readings.{the_one}
use Rattle.irs_terms.specs.declared.adjustments.Centers.TheVariants.{Absent, Listed, Dangling}
use Rattle.irs_terms.specs.declared.adjustments.{AdjustableDate.AdjustableDate, Adjustments.Adjustments, Offset.Offset}
use Rattle.irs_terms.specs.declared.amounts.StubRate.TheVariants.{Index, Fixed as FixedStub}
use Rattle.irs_terms.specs.declared.amounts.{FloatTerms.FloatTerms, Leg.TheVariants.Fixed, Leg.TheVariants.Floating}
use Rattle.irs_terms.specs.declared.amounts.{Rounding.Rounding, StubRate.StubRate, StubTerms.StubTerms}
use Rattle.irs_terms.specs.declared.codes.RefState.TheVariants.{Absent as NoReference, Good, Dangling as NoTarget}
use Rattle.irs_terms.specs.declared.codes.{CompCode.TheVariants.Simple, ConvCode.TheVariants.Unadjusted}
use Rattle.irs_terms.specs.declared.codes.{DayKind.TheVariants.Unsaid, RefState.RefState, Relative.TheVariants.Start}
use Rattle.irs_terms.specs.declared.parameters.ObservationOffset.TheVariants.{Absent as NoOffset, Shift, Lookback}
use Rattle.irs_terms.specs.declared.parameters.ObservationOffset.{ObservationOffset, TheVariants.Lockout}
use Rattle.irs_terms.specs.declared.{adjustments.Centers.Centers, amounts.ExchangeFlags.ExchangeFlags, amounts.Leg.Leg}
use Rattle.irs_terms.specs.declared.{codes.Treatment.TheVariants.AsIs, dates.FixTerms.FixTerms, dates.PayTerms.PayTerms}
use Rattle.irs_terms.specs.declared.{dates.ResetTerms.ResetTerms, frequency.Frequency.Frequency, step_list.Step.Step}
use Rattle.irs_terms.specs.declared.{parameters.CalculationParameters.CalculationParameters, stream.Stream.Stream}
use Rattle.irs_terms.specs.declared.{step_list.StepValues.StepValues, stream_list.Swap.Swap}
use Rattle.serde_json.specs.Data.{Data}
use Rattle.std.specs.Prelude.{◌≡◌, ℕ, Bool, false, List, [], ◌++◌, ℤ, pos, Option, Some, None, codes, if◌then◌else◌}

-- ---- leaves

-- a date
abbrev pub date : Value ℤ
date = text Leaf.Date leaf_date_at

-- a notional, in units of 10^-4
abbrev pub notional : Value ℤ
notional = text Leaf.Notional notional_at

-- a rate, a spread or a multiplier, in units of 10^-9
abbrev pub rate : Value ℤ
rate = text Leaf.Rate leaf_rate_at

-- a truth value
abbrev pub truth : Value Bool
truth = text Leaf.Truth truth_at

-- the name of a business centre, and the index of a rate: the texts as they are
abbrev pub center_name : Value (List ℕ)
center_name = text Leaf.CenterName (λ s. if is_center_name s then Some s else None)

-- the index of a rate
abbrev pub index_name : Value (List ℕ)
index_name = text Leaf.IndexName (λ s. if is_index_name s then Some s else None)

-- ---- blocks

-- a reference to the target, by the target's `@id`
abbrev pub reference : Option Data → Value RefState
reference target = record {
  form = reference_form;
  lines = [];
  says = λ x r. r ≡ (if has_id (href_of x) target then Good else NoTarget);
}

-- FREQ: a number of periods
abbrev pub frequency : ReadPart Frequency
frequency =
    one "periodMultiplier" (text Leaf.Multiplier multiplier_at) gives (λ (f : Frequency). f.count)
    also one "period" (text Leaf.PeriodUnit period_unit_at) gives (λ (f : Frequency). f.unit)

-- the same of the tenor of an index
abbrev pub tenor : ReadPart Frequency
tenor =
    one "periodMultiplier" (text Leaf.Multiplier multiplier_at) gives (λ (f : Frequency). f.count)
    also one "period" (text Leaf.TenorUnit tenor_unit_at) gives (λ (f : Frequency). f.unit)

-- OFF: an offset, always in days
abbrev pub offset : ReadPart Offset
offset =
    one "periodMultiplier" (text Leaf.OffsetDays offset_at) gives (λ (o : Offset). o.days)
    also unread "period" (text Leaf.OffsetUnit offset_unit_at)
    also or "dayType" (text Leaf.DayType day_kind_at) Unsaid gives (λ (o : Offset). o.kind)

-- a list of business centres
abbrev pub center_list : Value (List (List ℕ))
center_list = holds object (each "businessCenter" (OneTo most_centers) center_name)

-- the centres of the list that a reference names among these lists; else of the list that stands here
abbrev pub centers : List (Option Data) → ReadPart Centers
centers lists = record {
  lines = member_lines "businessCentersReference" Maybe (reference None) ++ member_lines "businessCenters" Maybe center_list;
  says =
      λ d. Says (once (codes "businessCentersReference") d)
      (λ r. Says (the_one (href_of r) lists) center_list.says Listed (λ c. c ≡ Dangling)) (λ c. c)
      (Says (once (codes "businessCenters") d) center_list.says Listed (λ c. c ≡ Absent));
}

-- ADJ: the members of adjustments
abbrev pub adjusting : List (Option Data) → ReadPart Adjustments
adjusting lists =
    one "businessDayConvention" (text Leaf.Convention convention_at) gives (λ (a : Adjustments). a.code)
    also centers lists gives (λ (a : Adjustments). a.centers)

-- adjustments
abbrev pub adjustments : List (Option Data) → Value Adjustments
adjustments lists = holds (at_most_one "businessCentersReference" "businessCenters") (adjusting lists)

-- no adjustments
abbrev pub unadjusted : Adjustments
unadjusted = record { code = Unadjusted; centers = Absent }

-- a date with its adjustments
abbrev pub adjustable : List (Option Data) → Value AdjustableDate
adjustable lists =
    holds object (one "unadjustedDate" date gives (λ (a : AdjustableDate). a.day)
    also one "dateAdjustments" (adjustments lists) gives (λ (a : AdjustableDate). a.adj))

-- a step to a value
abbrev pub step : Value ℤ → Value Step
step number =
    holds object (one "stepDate" date gives (λ (s : Step). s.day)
    also one "stepValue" number gives (λ (s : Step). s.value))

-- SCHED: a value with its steps
abbrev pub schedule : Value ℤ → ReadPart StepValues
schedule number =
    one "initialValue" number gives (λ (s : StepValues). s.initial)
    also each "step" (UpTo most_steps) (step number) gives (λ (s : StepValues). s.steps)

-- a value without steps
abbrev pub always : ℤ → StepValues
always z = record { initial = z; steps = [] }

-- ---- the dates of a stream

-- `calculationPeriodFrequency`
abbrev pub frequency_terms : ReadPart Stream
frequency_terms =
    frequency gives (λ (s : Stream). s.freq)
    also one "rollConvention" (text Leaf.Roll roll_at) gives (λ (s : Stream). s.roll)

-- `calculationPeriodDates`, but for the frequency
abbrev pub period_terms : List (Option Data) → ReadPart Stream
period_terms lists =
    one "effectiveDate" (adjustable lists) gives (λ (s : Stream). s.effective)
    also one "terminationDate" (adjustable lists) gives (λ (s : Stream). s.termination)
    also one "calculationPeriodDatesAdjustments" (adjustments lists) gives (λ (s : Stream). s.period_adj)
    also maybe "firstPeriodStartDate" (adjustable lists) gives (λ (s : Stream). s.first_start)
    also maybe "firstRegularPeriodStartDate" date gives (λ (s : Stream). s.first_regular)
    also maybe "lastRegularPeriodEndDate" date gives (λ (s : Stream). s.last_regular)
    also maybe "stubPeriodType" (text Leaf.StubType stub_kind_at) gives (λ (s : Stream). s.stub)

-- `calculationPeriodDates`
abbrev pub period_dates : List (Option Data) → ReadPart Stream
period_dates lists = period_terms lists also one "calculationPeriodFrequency" (holds object frequency_terms)

-- `paymentDates`
abbrev pub payment_dates : List (Option Data) → Option Data → Value PayTerms
payment_dates lists dates =
    holds object (
    or "calculationPeriodDatesReference" (reference dates) NoReference gives (λ (p : PayTerms). p.calc_ref)
    also one "paymentFrequency" (holds object frequency) gives (λ (p : PayTerms). p.freq)
    also maybe "firstPaymentDate" date gives (λ (p : PayTerms). p.first)
    also maybe "lastRegularPaymentDate" date gives (λ (p : PayTerms). p.last)
    also one "payRelativeTo" (text Leaf.PayRelative relative_at) gives (λ (p : PayTerms). p.relative)
    also or "paymentDaysOffset" (holds object offset) (record { days = pos 0; kind = Unsaid })
    gives (λ (p : PayTerms). p.offset)
    also or "paymentDatesAdjustments" (adjustments lists) unadjusted gives (λ (p : PayTerms). p.adj))

-- `fixingDates` of resets: their offset and adjustments, and a reference to the resets
abbrev pub fixing_dates : List (Option Data) → Option Data → Value (FixTerms × RefState)
fixing_dates lists resets =
    holds (at_most_one "businessCentersReference" "businessCenters") (
    offset gives (λ (f : FixTerms × RefState). f.0.offset)
    also adjusting lists gives (λ (f : FixTerms × RefState). f.0.adj)
    also or "dateRelativeTo" (reference resets) NoReference gives (λ (f : FixTerms × RefState). f.1))

-- the fixing dates of resets, if they are there
abbrev pub fixings : List (Option Data) → ReadPart ResetTerms
fixings lists = record {
  lines = member_lines "fixingDates" Maybe (fixing_dates lists None);
  says =
      λ d r. Says {B = Option FixTerms × RefState} (once (codes "fixingDates") d)
      (fixing_dates lists (Some d)).says
      (λ f. (Some f.0, f.1)) (λ f. f ≡ (None, NoReference)) (r.fixing, r.fixing_ref);
}

-- `resetDates`
abbrev pub reset_dates : List (Option Data) → Option Data → Value ResetTerms
reset_dates lists dates =
    holds object (
    or "calculationPeriodDatesReference" (reference dates) NoReference gives (λ (r : ResetTerms). r.calc_ref)
    also or "resetRelativeTo" (text Leaf.ResetRelative relative_at) Start gives (λ (r : ResetTerms). r.relative)
    also fixings lists
    also one "resetFrequency" (holds object frequency) gives (λ (r : ResetTerms). r.freq)
    also or "resetDatesAdjustments" (adjustments lists) unadjusted gives (λ (r : ResetTerms). r.adj))

-- ---- the amounts of a stream

-- an index of a rate, with its tenor
abbrev pub indexed : ReadPart (List ℕ × Option Frequency)
indexed =
    one "floatingRateIndex" index_name gives (λ (i : List ℕ × Option Frequency). i.0)
    also maybe "indexTenor" (holds object tenor) gives (λ (i : List ℕ × Option Frequency). i.1)

-- how a rate is rounded
abbrev pub rounding_read : Value Rounding
rounding_read =
    holds object (one "roundingDirection" (text Leaf.Direction direction_at) gives (λ (r : Rounding). r.dir)
    also one "precision" (text Leaf.Precision precision_at) gives (λ (r : Rounding). r.places))

-- the decimals of a rate where they aren't said: 7 if daily rates give it by `calculationParameters` (2006 ISDA
-- Definitions, 8.1(a)), else 9
abbrev pub places_by : Option Data → ℕ
places_by None = 9
places_by (Some stated) = 7

-- the days of an observation shift, a lookback or a lockout
abbrev pub observed : Value ℕ
observed = holds object (one "offsetDays" (text Leaf.ObservationDays observation_days_at))

-- an observation shift, a lookback or a lockout, whichever is there
abbrev pub observing : ReadPart ObservationOffset
observing = record {
  lines = member_lines "observationShift" Maybe observed ++ member_lines "lookback" Maybe observed
      ++ member_lines "lockout" Maybe observed;
  says =
      λ d. Says (once (codes "observationShift") d) observed.says Shift
      (Says (once (codes "lookback") d) observed.says Lookback
      (Says (once (codes "lockout") d) observed.says Lockout (λ o. o ≡ NoOffset)));
}

-- `calculationParameters`: how daily rates become the rate of a period
abbrev pub parameters : Value CalculationParameters
parameters =
    holds (at_most_one_of_three "observationShift" "lookback" "lockout")
    (one "calculationMethod" (text Leaf.CalculationMethod calculation_method_at)
    gives (λ (p : CalculationParameters). p.method)
    also observing gives (λ (p : CalculationParameters). p.offset)
    also one "applicableBusinessDays" center_list gives (λ (p : CalculationParameters). p.centers))

-- `floatingRateCalculation`
abbrev pub floating : Value FloatTerms
floating =
    holds object (indexed gives (λ (f : FloatTerms). (f.index, f.tenor))
    also or "floatingRateMultiplierSchedule" (holds object (schedule rate)) (always (pos 1_000_000_000))
    gives (λ (f : FloatTerms). f.multiplier)
    also or "spreadSchedule" (holds object (schedule rate)) (always (pos 0)) gives (λ (f : FloatTerms). f.spread)
    also maybe "initialRate" rate gives (λ (f : FloatTerms). f.initial_rate)
    also or_by "finalRateRounding" rounding_read
    (λ d. record { dir = Nearest; places = places_by (once (codes "calculationParameters") d) })
    gives (λ (f : FloatTerms). f.rounding)
    also or "negativeInterestRateTreatment" (text Leaf.Treatment treatment_at) AsIs
    gives (λ (f : FloatTerms). f.treatment)
    also maybe "calculationParameters" parameters gives (λ (f : FloatTerms). f.parameters))

-- a fixed or a floating leg
abbrev pub leg : ReadPart Leg
leg = record {
  lines = member_lines "fixedRateSchedule" Maybe (holds object (schedule rate))
      ++ member_lines "floatingRateCalculation" Maybe floating;
  says =
      (either_member "floatingRateCalculation" floating Floating
      "fixedRateSchedule" (holds object (schedule rate)) Fixed).says;
}

-- `notionalStepSchedule`
abbrev pub notional_terms : ReadPart Stream
notional_terms =
    schedule notional gives (λ (s : Stream). s.notional)
    also one "currency" (text Leaf.CurrencyName currency_at) gives (λ (s : Stream). s.currency)

-- `calculation`, but for the notionals
abbrev pub rate_terms : ReadPart Stream
rate_terms =
    leg gives (λ (s : Stream). s.leg)
    also one "dayCountFraction" (text Leaf.DayCount day_count_at) gives (λ (s : Stream). s.day_count)
    also or "compoundingMethod" (text Leaf.Compounding compounding_at) Simple gives (λ (s : Stream). s.compounding)

-- `calculation`
abbrev pub calculation : ReadPart Stream
calculation =
    one "notionalSchedule" (holds object (one "notionalStepSchedule" (holds object notional_terms))) also rate_terms

-- the rate of a stub: that of an index, or a rate that is stated
abbrev pub stub : Value StubRate
stub =
    holds (exactly_one "floatingRate" "stubRate")
    (either_member "floatingRate" (holds object indexed) (λ (i : List ℕ × Option Frequency). Index i.0 i.1) "stubRate" rate
    FixedStub)

-- `stubCalculationPeriodAmount`
abbrev pub stubs : Option Data → Value StubTerms
stubs dates =
    holds object (
    or "calculationPeriodDatesReference" (reference dates) NoReference gives (λ (s : StubTerms). s.calc_ref)
    also maybe "initialStub" stub gives (λ (s : StubTerms). s.initial)
    also maybe "finalStub" stub gives (λ (s : StubTerms). s.last))

-- `principalExchanges`
abbrev pub exchanges : Value ExchangeFlags
exchanges =
    holds object (one "initialExchange" truth gives (λ (e : ExchangeFlags). e.initial)
    also one "finalExchange" truth gives (λ (e : ExchangeFlags). e.last)
    also one "intermediateExchange" truth gives (λ (e : ExchangeFlags). e.intermediate))

-- ---- streams

-- a stream, with the lists of centres of all streams and its own `calculationPeriodDates`
abbrev pub stream_by : List (Option Data) → Option Data → ReadPart Stream
stream_by lists dates =
    one "calculationPeriodDates" (holds object (period_dates lists))
    also one "paymentDates" (payment_dates lists dates) gives (λ (s : Stream). s.pay)
    also maybe "resetDates" (reset_dates lists dates) gives (λ (s : Stream). s.reset)
    also one "calculationPeriodAmount" (holds object (one "calculation"
    (holds (exactly_one "fixedRateSchedule" "floatingRateCalculation") calculation)))
    also maybe "stubCalculationPeriodAmount" (stubs dates) gives (λ (s : Stream). s.stubs)
    also or "principalExchanges" exchanges (record { initial = false; intermediate = false; last = false })
    gives (λ (s : Stream). s.exchanges)

-- what a stream says, with the lists of centres of all streams
unfoldable pub StreamSays : List (Option Data) → Data → Stream → Type 0
StreamSays lists d = (stream_by lists (once (codes "calculationPeriodDates") d)).says d

-- what a swap says: what each of its streams does
abbrev pub SwapSays : Data → Swap → Type 0
SwapSays d s = Pairs (StreamSays (lists_of (streams_in d))) (streams_in d) s.streams
