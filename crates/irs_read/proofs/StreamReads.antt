-- A stream that breaks no rule says one stream, and that one is lawful: each part reads as the table does.
use Rattle.irs_base.specs.{Days.IsDay, Limits.most_steps}
use Rattle.irs_base.specs.declared.rounding.Direction.TheVariants.{Nearest}
use Rattle.irs_elements.specs.Elements.{once}
use Rattle.irs_elements.specs.declared.table.{Count.TheVariants.UpTo}
use Rattle.irs_elements.specs.declared.table.Leaf.TheVariants as Leaf
use Rattle.irs_read.proofs.CenterLists.{GoodLists, list_reads, one_good}
use Rattle.irs_read.proofs.ReadParts.{Reads, RowFacts, Whole, always, any, by_field, currencies, dates, each, either}
use Rattle.irs_read.proofs.ReadParts.{indices, leaf, maybe, member, multipliers, named, notionals, observations}
use Rattle.irs_read.proofs.ReadParts.{offsets, one}
use Rattle.irs_read.proofs.ReadParts.{or, precisions, rates, rolls, tenor_units, unread, whole, ◌also◌, ◌gives◌}
use Rattle.irs_read.proofs.Rows.{At, facts, most_of, row_of}
use Rattle.irs_read.proofs.Tells.{Any, Tells, Told, just, member_tells, perhaps, told}
use Rattle.irs_read.specs.Readings.{Says, Value, has_id, href_of, the_one}
use Rattle.irs_read.specs.StreamElements.{StreamSays, adjustable, adjusting, center_list, centers}
use Rattle.irs_read.specs.StreamElements.{exchanges, fixing_dates}
use Rattle.irs_read.specs.StreamElements.{fixings, floating, frequency, indexed, leg, notional, observing, offset}
use Rattle.irs_read.specs.StreamElements.{parameters, payment_dates, places_by, rate, reference, reset_dates}
use Rattle.irs_read.specs.StreamElements.{rounding_read as rounding, schedule, step, stream_by, stub, stubs, tenor}
use Rattle.irs_read.specs.StreamElements.{always as constant, unadjusted}
use Rattle.irs_terms.specs.Lawful.{IsLawfulAdjustableDate, IsLawfulCenters, IsLawfulFix, IsLawfulFloat, IsLawfulValues}
use Rattle.irs_terms.specs.Lawful.{IsLawfulFrequency, IsLawfulIndex, IsLawfulLeg, IsLawfulObservationOffset}
use Rattle.irs_terms.specs.Lawful.{IsLawfulOffset, IsLawfulParameters, IsLawfulPay}
use Rattle.irs_terms.specs.Lawful.{IsRate, IsLawfulReset}
use Rattle.irs_terms.specs.Lawful.{IsLawfulStream, IsLawfulStubRate, IsLawfulStubs, IsLawfulTenor}
use Rattle.irs_terms.specs.declared.adjustments.Adjustments.{Adjustments}
use Rattle.irs_terms.specs.declared.adjustments.Centers.TheVariants.{Absent, Listed, Dangling}
use Rattle.irs_terms.specs.declared.amounts.{FloatTerms.FloatTerms, Leg.TheVariants.Fixed, Leg.TheVariants.Floating}
use Rattle.irs_terms.specs.declared.amounts.{Rounding.Rounding, StubRate.TheVariants.Index}
use Rattle.irs_terms.specs.declared.amounts.StubRate.TheVariants.{Fixed as FixedStub}
use Rattle.irs_terms.specs.declared.codes.RefState.TheVariants.{Absent as NoReference, Good, Dangling as NoTarget}
use Rattle.irs_terms.specs.declared.codes.{CompCode.TheVariants.Simple, DayKind.TheVariants.Unsaid}
use Rattle.irs_terms.specs.declared.codes.{RefState.RefState, Relative.TheVariants.Start, Treatment.TheVariants.AsIs}
use Rattle.irs_terms.specs.declared.dates.{FixTerms.FixTerms, ResetTerms.ResetTerms}
use Rattle.irs_terms.specs.declared.parameters.CalculationParameters.{CalculationParameters}
use Rattle.irs_terms.specs.declared.parameters.ObservationOffset.TheVariants.{Absent as NoOffset, Lockout}
use Rattle.irs_terms.specs.declared.parameters.ObservationOffset.TheVariants.{Lookback, Shift}
use Rattle.irs_terms.specs.declared.{frequency.Frequency.Frequency, step_list.Step.Step, stream.Stream.Stream}
use Rattle.serde_json.specs.Data.{Data}
use Rattle.std.proofs.Common.{IfSome, List, None, Option, Some, ap, arith, codes, false, if◌then◌else◌, pos, refl, ℤ, ℕ}
use Rattle.std.proofs.Common.{[], true, ◌≡◌, ◌≤◌, ◌∷◌}

-- ---- numbers of periods and offsets

-- a frequency
abbrev frequency_reads : Whole frequency.says IsLawfulFrequency
frequency_reads =
    whole (one "periodMultiplier" multipliers
    also one "period" (any Leaf.PeriodUnit (λ s. refl))) _ (λ s t. (refl, refl, λ l. assumption))

-- the tenor of an index
abbrev tenor_reads : Whole tenor.says IsLawfulTenor
tenor_reads =
    whole (one "periodMultiplier" multipliers
    also one "period" tenor_units) _ (λ s t. (refl, refl, λ l. assumption))

-- an offset
abbrev offset_reads : Whole offset.says IsLawfulOffset
offset_reads =
    whole (one "periodMultiplier" offsets
    also unread
    also or "dayType" (any Leaf.DayType (λ s. refl)) Unsaid tt) _ (λ s t. (refl, refl, λ l. assumption))

-- ---- adjustments

-- the centres that a reference to one of these lists names
named_told : (lists : List (Option Data)) → GoodLists lists → (ref : Option Data)
    → Told (λ r. Says (the_one (href_of r) lists) center_list.says Listed (λ c. c ≡ Dangling)) IsLawfulCenters ref
named_told lists g None = tt
named_told lists g (Some r) =
    member_tells _ _ _ _ (λ a l. l) (one_good (href_of r) lists g) (λ e. just Dangling tt)

-- those of the list that stands here, if no list is referenced
abbrev listed_reads : Whole (λ d. Says (once (codes "businessCenters") d) center_list.says Listed (λ c. c ≡ Absent))
    IsLawfulCenters
listed_reads = member "businessCenters" list_reads Listed (λ a l. l) (always (λ d. Absent) (λ d. tt))

-- the centres of adjustments
abbrev centers_reads : (lists : List (Option Data)) → GoodLists lists → Whole (centers lists).says IsLawfulCenters
centers_reads lists g = record {
  Facts = listed_reads.Facts;
  found = listed_reads.found;
  stated = listed_reads.stated;
  tells = λ p e d clean.
      member_tells _ _ _ (once (codes "businessCentersReference") d) (λ a l. l) (named_told lists g _)
      (λ none. listed_reads.tells p e d clean);
}

-- adjustments with lawful centres
abbrev adjusting_reads : (lists : List (Option Data)) → GoodLists lists
    → Whole (adjusting lists).says (λ (a : Adjustments). IsLawfulCenters a.centers)
adjusting_reads lists g =
    whole (one "businessDayConvention" (any Leaf.Convention (λ s. refl))
    also centers_reads lists g gives (λ (a : Adjustments). a.centers)) _ (λ s t. (refl, refl, λ l. assumption))

-- a date with its adjustments
abbrev dated_reads : (lists : List (Option Data)) → GoodLists lists
    → Whole (adjustable lists).says IsLawfulAdjustableDate
dated_reads lists g =
    whole (one "unadjustedDate" dates
    also one "dateAdjustments" (adjusting_reads lists g)) _ (λ s t. (refl, refl, λ l. assumption))

-- a reference to the target
abbrev reference_reads : (target : Option Data) → Whole (reference target).says (λ r. Any r)
reference_reads target = always (λ x. if has_id (href_of x) target then Good else NoTarget) (λ x. tt)

-- ---- payments and resets

-- `paymentDates`
abbrev pay_reads : (lists : List (Option Data)) → GoodLists lists → (target : Option Data)
    → Whole (payment_dates lists target).says IsLawfulPay
pay_reads lists g target =
    whole (or "calculationPeriodDatesReference" (reference_reads target) NoReference tt
    also one "paymentFrequency" frequency_reads
    also maybe "firstPaymentDate" dates
    also maybe "lastRegularPaymentDate" dates
    also one "payRelativeTo" (any Leaf.PayRelative (λ s. refl))
    also or "paymentDaysOffset" offset_reads (record { days = pos 0; kind = Unsaid }) (omega arith)
    also or "paymentDatesAdjustments" (adjusting_reads lists g) unadjusted tt) _ (λ s t. (refl, refl, λ l. assumption))

-- `fixingDates`
abbrev fixing_reads : (lists : List (Option Data)) → GoodLists lists → (target : Option Data)
    → Whole (fixing_dates lists target).says (λ (f : FixTerms × RefState). IsLawfulFix f.0)
fixing_reads lists g target =
    whole (offset_reads gives (λ (f : FixTerms × RefState). f.0.offset)
    also adjusting_reads lists g gives (λ (f : FixTerms × RefState). f.0.adj)
    also or "dateRelativeTo" (reference_reads target) NoReference tt) _ (λ s t. (refl, refl, λ l. assumption))

-- fixing dates, which refer to the resets that they are in
abbrev fixings_reads : (lists : List (Option Data)) → GoodLists lists
    → Reads {A = Option FixTerms × RefState} (λ (r : ResetTerms). (r.fixing, r.fixing_ref)) (fixings lists).says
    (λ (f : Option FixTerms × RefState). IfSome f.0 IsLawfulFix)
fixings_reads lists g = record {
  Facts = RowFacts × (fixing_reads lists g None).Facts;
  found = λ p. (facts p (row_of ("fixingDates" ∷ p)), (fixing_reads lists g None).found ("fixingDates" ∷ p));
  stated = λ p. (named p "fixingDates" false, (fixing_reads lists g None).stated ("fixingDates" ∷ p));
  tells = λ p e d clean.
      by_field {A = Option FixTerms × RefState} (λ (r : ResetTerms). (r.fixing, r.fixing_ref))
      (member_tells _ _ _ _ (λ a l. l)
      (told ((fixing_reads lists g (Some d)).tells ("fixingDates" ∷ p) (ap (λ t. t.1) e)) _
      (perhaps p "fixingDates" (ap (λ t. t.0) e) (Some d) clean))
      (λ none. just (None, NoReference) tt));
}

-- `resetDates`
abbrev reset_reads : (lists : List (Option Data)) → GoodLists lists → (target : Option Data)
    → Whole (reset_dates lists target).says IsLawfulReset
reset_reads lists g target =
    whole (or "calculationPeriodDatesReference" (reference_reads target) NoReference tt
    also or "resetRelativeTo" (any Leaf.ResetRelative (λ s. refl)) Start tt
    also fixings_reads lists g
    also one "resetFrequency" frequency_reads
    also or "resetDatesAdjustments" (adjusting_reads lists g) unadjusted tt) _ (λ s t. (refl, refl, λ l. assumption))

-- ---- schedules

-- a step with a day in range and a value in its range
abbrev step_reads : {L : ℤ → Type 0} (number : Value ℤ) → Whole number.says L
    → Whole (step number).says (λ (s : Step). IsDay s.day × L s.value)
step_reads number values =
    whole (one "stepDate" dates also one "stepValue" values) _ (λ s t. (refl, refl, λ l. assumption))

-- a schedule
abbrev schedule_reads : {L : ℤ → Type 0} (number : Value ℤ) → Whole number.says L
    → Whole (schedule number).says (IsLawfulValues L)
schedule_reads number values =
    whole (one "initialValue" values
    also each "step" (UpTo most_steps) (step_reads number values)) _ (λ s t. (refl, refl, λ l. assumption))

-- one rate is lawful
constant_lawful : (z : ℤ) → IsRate z → IsLawfulValues IsRate (constant z)
constant_lawful z lawful = (lawful, omega arith, λ k d lt. absurd (omega (arith, lt)))

-- ---- rates

-- an index with its tenor
abbrev indexed_reads : Whole indexed.says
    (λ (i : List ℕ × Option Frequency). IsLawfulIndex i.0 × IfSome i.1 IsLawfulTenor)
indexed_reads =
    whole (one "floatingRateIndex" (leaf indices)
    also maybe "indexTenor" tenor_reads) _ (λ s t. (refl, refl, λ l. assumption))

-- a rounding to at most 9 decimals
abbrev rounding_reads : Whole rounding.says (λ (r : Rounding). r.places ≤ 9)
rounding_reads =
    whole (one "roundingDirection" (any Leaf.Direction (λ s. refl))
    also one "precision" precisions) _ (λ s t. (refl, refl, λ l. assumption))

few_places : (stated : Option Data) → places_by stated ≤ 9
few_places None = omega arith
few_places (Some d) = omega arith

-- an observation shift, a lookback or a lockout
abbrev observing_reads : Whole observing.says IsLawfulObservationOffset
observing_reads =
    let days = one "offsetDays" observations in
    member "observationShift" days Shift (λ n h. h)
    (member "lookback" days Lookback (λ n h. h)
    (member "lockout" days Lockout (λ n h. h) (always (λ d. NoOffset) (λ d. tt))))

-- `calculationParameters`
abbrev parameters_reads : Whole parameters.says IsLawfulParameters
parameters_reads =
    whole (one "calculationMethod" (any Leaf.CalculationMethod (λ s. refl))
    also observing_reads gives (λ (p : CalculationParameters). p.offset)
    also one "applicableBusinessDays" list_reads) _ (λ s t. (refl, refl, λ l. assumption))

-- `floatingRateCalculation`
abbrev floating_reads : Whole floating.says IsLawfulFloat
floating_reads =
    whole (indexed_reads gives (λ (f : FloatTerms). (f.index, f.tenor))
    also or "floatingRateMultiplierSchedule" (schedule_reads rate rates) _
    (constant_lawful (pos 1_000_000_000) (omega arith))
    also or "spreadSchedule" (schedule_reads rate rates) _ (constant_lawful (pos 0) (omega arith))
    also maybe "initialRate" rates
    also member "finalRateRounding" rounding_reads (λ r. r) (λ r l. l)
    (always (λ d. record { dir = Nearest; places = places_by (once (codes "calculationParameters") d) })
    (λ d. few_places (once (codes "calculationParameters") d)))
    also or "negativeInterestRateTreatment" (any Leaf.Treatment (λ s. refl)) AsIs tt
    also maybe "calculationParameters" parameters_reads) _ (λ s t. (refl, refl, λ l. assumption))

-- ---- legs and stubs

-- a fixed or a floating leg
abbrev leg_reads : Whole leg.says IsLawfulLeg
leg_reads =
    either false "floatingRateCalculation" floating_reads Floating (λ a l. l)
    "fixedRateSchedule" (schedule_reads rate rates) Fixed (λ b l. l)

-- the rate of a stub
abbrev stub_reads : Whole stub.says IsLawfulStubRate
stub_reads =
    either true "floatingRate" indexed_reads (λ (i : List ℕ × Option Frequency). Index i.0 i.1) (λ a l. l)
    "stubRate" rates FixedStub (λ b l. l)

-- `stubCalculationPeriodAmount`
abbrev stubs_reads : (target : Option Data) → Whole (stubs target).says IsLawfulStubs
stubs_reads target =
    whole (or "calculationPeriodDatesReference" (reference_reads target) NoReference tt
    also maybe "initialStub" stub_reads
    also maybe "finalStub" stub_reads) _ (λ s t. (refl, refl, λ l. assumption))

-- `principalExchanges`
abbrev exchanges_reads : Whole exchanges.says (λ e. Any e)
exchanges_reads =
    let flags = any Leaf.Truth (λ s. refl) in
    whole (one "initialExchange" flags
    also one "finalExchange" flags
    also one "intermediateExchange" flags) _ (λ s t. (refl, refl, λ l. assumption))

-- ---- streams

-- a stream
abbrev stream_reads : (lists : List (Option Data)) → GoodLists lists → (target : Option Data)
    → Whole (stream_by lists target).says IsLawfulStream
stream_reads lists g target =
    whole (one "calculationPeriodDates" (
    (one "effectiveDate" (dated_reads lists g)
    also one "terminationDate" (dated_reads lists g)
    also one "calculationPeriodDatesAdjustments" (adjusting_reads lists g)
    also maybe "firstPeriodStartDate" (dated_reads lists g)
    also maybe "firstRegularPeriodStartDate" dates
    also maybe "lastRegularPeriodEndDate" dates
    also maybe "stubPeriodType" (any Leaf.StubType (λ s. refl)))
    also one "calculationPeriodFrequency" (frequency_reads gives (λ (s : Stream). s.freq)
    also one "rollConvention" rolls))
    also one "paymentDates" (pay_reads lists g target)
    also maybe "resetDates" (reset_reads lists g target)
    also one "calculationPeriodAmount" (one "calculation" (
    one "notionalSchedule" (one "notionalStepSchedule" (
    schedule_reads notional notionals gives (λ (s : Stream). s.notional)
    also one "currency" currencies))
    also leg_reads gives (λ (s : Stream). s.leg)
    also one "dayCountFraction" (any Leaf.DayCount (λ s. refl))
    also or "compoundingMethod" (any Leaf.Compounding (λ s. refl)) Simple tt))
    also maybe "stubCalculationPeriodAmount" (stubs_reads target)
    also or "principalExchanges" exchanges_reads
    (record { initial = false; intermediate = false; last = false }) tt) _ (λ s t. (refl, refl, λ l. assumption))

-- a stream that breaks no rule says one stream, and that one is lawful
pub stream_tells : (lists : List (Option Data)) → GoodLists lists → (d : Data) → At [] d
    → Tells (StreamSays lists d) IsLawfulStream
unfolding StreamSays facts row_of most_of
stream_tells lists g d clean =
    (stream_reads lists g (once (codes "calculationPeriodDates") d)).tells [] refl d clean
