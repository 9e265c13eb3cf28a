-- The rules of a swap's terms, K10 to K21 and K47.
use Rattle.std.specs.Prelude.{◌≡◌, ℕ, ◌+◌, ◌⊎◌, List, IfSome, IsSomeAnd, ℤ, Some, slice_get}
use Rattle.irs_terms.specs.declared.places.Rule.{Rule}
use Rattle.irs_terms.specs.declared.places.Fault.{Fault}
use Rattle.irs_base.specs.Outcomes.{Spec, unbroken}
use Rattle.irs_terms.specs.Faults.{fault_at, in_stream, is_before}
use Rattle.irs_terms.specs.declared.places.Rule.TheVariants.{K10, K11, K12, K13, K14, K15, K16, K17, K18, K19, K20, K21}
use Rattle.irs_terms.specs.declared.places.Rule.TheVariants.{K47}
use Rattle.irs_terms.specs.declared.places.Broken.{Broken}
use Rattle.irs_terms.specs.Elements as elements
use Rattle.irs_terms.specs.declared.dates.PayTerms.{PayTerms}
use Rattle.irs_terms.specs.declared.dates.ResetTerms.{ResetTerms}
use Rattle.irs_terms.specs.declared.stream.Stream.{Stream}
use Rattle.irs_terms.specs.Centers.{NamesTarget, NamesOneList, StartNamesOneList, FixingNamesOneList, HasCentersBy}
use Rattle.irs_terms.specs.Centers.{HasCentersWith, StartHasCenters, FixingHasCenters, names_by, names_with}
use Rattle.irs_terms.specs.Centers.{reset_names, fixing_names, IsSaid, IsSaidReset}
use Rattle.irs_terms.specs.TermDates.{EndsAfterStart, StartsBefore, FirstRegularInside, LastRegularInside}
use Rattle.irs_terms.specs.TermDates.{FrequencySuits, PaymentSuits, FirstPaymentStands, LastPaymentStands, StepStands}
use Rattle.irs_terms.specs.TermDates.{termination_of, first_date_of, StepsRise, LegStepsRise, DatesInOrder}
use Rattle.irs_terms.specs.declared.amounts.Leg.{Leg}
use Rattle.irs_terms.specs.declared.amounts.Leg.TheVariants.{Fixed, Floating}
use Rattle.irs_terms.specs.Lawful.{FitsResets, FitsStubs, FitsCompounding, FitsLeg}
use Rattle.irs_terms.specs.declared.stream_list.Swap.{Swap}
use Rattle.irs_calendar.specs.declared.sections.Section.{Section}
use Rattle.irs_rules.specs.Parameters.{IsFoundAt, start_names, applicable_names, DayCountFits, FinalStubFits}
use Rattle.irs_rules.specs.Parameters.{InitialRateFits, InitialStubFits, ResetFits, TenorFits, AreFound, FitsParameters}

-- ---- rules that are broken where something isn't kept

-- the rule is broken at the element, as it isn't kept
pub record Breaks (rule : Rule) (elem : ℕ) (Kept : Type 0) (f : Fault) : Type 0 where
  pub place : f ≡ fault_at rule elem 0
  pub broken : Kept → ⊥

-- an item of the repeated element breaks the rule. Items count from 0, positions in a fault from 1
pub record BreaksItem (rule : Rule) (elem : ℕ) (Kept : ℕ → Type 0) (f : Fault) : Type 0 where
  pub item : ℕ
  pub place : f ≡ fault_at rule elem (item + 1)
  pub broken : Kept item → ⊥

-- ---- K10 to K12: references name what they refer to, and centres that are needed are given and known

-- K10 below calculationPeriodDates: a businessCentersReference names one list, also where no days are needed; the
-- effective date's also where a firstPeriodStartDate is given
abbrev pub BreaksK10InPeriods : Stream → Fault → Type 0
BreaksK10InPeriods s f =
    Breaks K10 elements.effective_date_centers_reference (NamesOneList s.effective.adj.centers) f
    ⊎ (Breaks K10 elements.termination_date_centers_reference (NamesOneList s.termination.adj.centers) f
    ⊎ (Breaks K10 elements.period_dates_centers_reference (NamesOneList s.period_adj.centers) f
    ⊎ Breaks K10 elements.first_period_start_centers_reference (StartNamesOneList s.first_start) f))

-- below paymentDates
abbrev pub BreaksK10InPayments : PayTerms → Fault → Type 0
BreaksK10InPayments p f =
    Breaks K10 elements.payment_dates_reference (NamesTarget p.calc_ref) f
    ⊎ Breaks K10 elements.payment_dates_centers_reference (NamesOneList p.adj.centers) f

-- below resetDates
abbrev pub BreaksK10InResets : ResetTerms → Fault → Type 0
BreaksK10InResets r f =
    Breaks K10 elements.reset_dates_reference (NamesTarget r.calc_ref) f
    ⊎ (Breaks K10 elements.fixing_dates_centers_reference (FixingNamesOneList r.fixing) f
    ⊎ (Breaks K10 elements.fixing_dates_relative_to (NamesTarget r.fixing_ref) f
    ⊎ Breaks K10 elements.reset_dates_centers_reference (NamesOneList r.adj.centers) f))

-- K10: a reference names no target, or a businessCentersReference no list or more than one; place: the reference
abbrev pub BreaksK10 : Stream → Fault → Type 0
BreaksK10 s f =
    BreaksK10InPeriods s f
    ⊎ (BreaksK10InPayments s.pay f
    ⊎ (IsSomeAnd s.reset (λ r. BreaksK10InResets r f)
    ⊎ Breaks K10 elements.stub_amount_reference (IfSome s.stubs (λ stubs. NamesTarget stubs.calc_ref)) f))

-- K11 below resetDates
abbrev pub BreaksK11InResets : ResetTerms → Fault → Type 0
BreaksK11InResets r f =
    Breaks K11 elements.fixing_dates (FixingHasCenters r.fixing) f
    ⊎ Breaks K11 elements.reset_dates_adjustments (HasCentersBy r.adj) f

-- K11: an element needs days and has no centres; place: its adjustments. The rule applies to the effective
-- date also where no date is adjusted by its adjustments, as a firstPeriodStartDate is given
abbrev pub BreaksK11 : Stream → Fault → Type 0
BreaksK11 s f =
    Breaks K11 elements.effective_date_adjustments (HasCentersBy s.effective.adj) f
    ⊎ (Breaks K11 elements.termination_date_adjustments (HasCentersBy s.termination.adj) f
    ⊎ (Breaks K11 elements.period_dates_adjustments (HasCentersBy s.period_adj) f
    ⊎ (Breaks K11 elements.first_period_start_adjustments (StartHasCenters s.first_start) f
    ⊎ (Breaks K11 elements.payment_dates_adjustments (HasCentersWith s.pay.offset s.pay.adj) f
    ⊎ IsSomeAnd s.reset (λ r. BreaksK11InResets r f)))))

-- K12: an element needs days and a centre of it is in no calendar; place: its adjustments, with the centre's position.
-- The rule applies to the effective date also where a firstPeriodStartDate is given. Applicable business days are
-- always needed, and their place is applicableBusinessDays
abbrev pub BreaksK12 : List Section → Stream → Fault → Type 0
BreaksK12 cal s f =
    BreaksItem K12 elements.effective_date_adjustments (IsFoundAt cal (names_by s.effective.adj)) f
    ⊎ (BreaksItem K12 elements.termination_date_adjustments (IsFoundAt cal (names_by s.termination.adj)) f
    ⊎ (BreaksItem K12 elements.period_dates_adjustments (IsFoundAt cal (names_by s.period_adj)) f
    ⊎ (BreaksItem K12 elements.first_period_start_adjustments (IsFoundAt cal (start_names s.first_start)) f
    ⊎ (BreaksItem K12 elements.payment_dates_adjustments (IsFoundAt cal (names_with s.pay.offset s.pay.adj)) f
    ⊎ (BreaksItem K12 elements.fixing_dates (IsFoundAt cal (fixing_names s.reset)) f
    ⊎ (BreaksItem K12 elements.reset_dates_adjustments (IsFoundAt cal (reset_names s.reset)) f
    ⊎ BreaksItem K12 elements.applicable_business_days (IsFoundAt cal (applicable_names s.leg)) f))))))

-- ---- K13 to K16
-- The dates of the term are in order, and frequencies suit each other and the roll. Regular payment dates are where
-- they may be.

-- K13: a date of the term or of its regular part is out of order; place: that date
abbrev pub BreaksK13 : Stream → Fault → Type 0
BreaksK13 s f =
    Breaks K13 elements.termination_date (EndsAfterStart s) f
    ⊎ (Breaks K13 elements.first_period_start_date (StartsBefore s) f
    ⊎ (Breaks K13 elements.first_regular_period_start_date (FirstRegularInside s) f
    ⊎ Breaks K13 elements.last_regular_period_end_date (LastRegularInside s) f))

-- K14: the calculation frequency and the roll don't suit each other; place: the frequency
abbrev pub BreaksK14 : Stream → Fault → Type 0
BreaksK14 s f = Breaks K14 elements.calculation_period_frequency (FrequencySuits s) f

-- K15: a payment doesn't have whole calculation periods; place: paymentFrequency
abbrev pub BreaksK15 : Stream → Fault → Type 0
BreaksK15 s f = Breaks K15 elements.payment_frequency (PaymentSuits s) f

-- K16: the first or the last regular payment date may not be there, or the first one is missing; place: that date
abbrev pub BreaksK16 : Stream → Fault → Type 0
BreaksK16 s f =
    Breaks K16 elements.first_payment_date (FirstPaymentStands s) f
    ⊎ Breaks K16 elements.last_regular_payment_date (LastPaymentStands s) f

-- ---- K17 to K21 and K47
-- Offsets say which days they count, steps are in order inside the term, and the other elements suit the rate of the
-- stream.

-- K17: an offset other than 0 has no dayType; place: the offset
abbrev pub BreaksK17 : Stream → Fault → Type 0
BreaksK17 s f =
    Breaks K17 elements.payment_days_offset (IsSaid s.pay.offset) f
    ⊎ Breaks K17 elements.fixing_dates (IsSaidReset s) f

-- K18 for the steps of the rate of a stream
abbrev pub BreaksK18InLeg : ℤ → ℤ → Leg → Fault → Type 0
BreaksK18InLeg from to (Fixed rates) f = BreaksItem K18 elements.fixed_rate_step_date (StepStands from to rates.steps) f
BreaksK18InLeg from to (Floating float) f =
    BreaksItem K18 elements.multiplier_step_date (StepStands from to float.multiplier.steps) f
    ⊎ BreaksItem K18 elements.spread_step_date (StepStands from to float.spread.steps) f

-- K18: a step's date isn't strictly after the previous one, or isn't strictly between the effective and the
-- termination date. An earlier start of the first period changes nothing. Place: stepDate, with the position
abbrev pub BreaksK18 : Stream → Fault → Type 0
BreaksK18 s f =
    BreaksItem K18 elements.notional_step_date (StepStands s.effective.day (termination_of s) s.notional.steps) f
    ⊎ BreaksK18InLeg s.effective.day (termination_of s) s.leg f

-- K19: a fixed stream has resetDates or stubCalculationPeriodAmount, or a floating one has no resetDates; place:
-- that element
abbrev pub BreaksK19 : Stream → Fault → Type 0
BreaksK19 s f =
    Breaks K19 elements.reset_dates (FitsResets s.leg s.reset) f
    ⊎ Breaks K19 elements.stub_amount (FitsStubs s.leg s.stubs) f

-- K20: the reset frequency isn't as long as the calculation frequency, nor 1D beside calculationParameters; place:
-- resetFrequency
abbrev pub BreaksK20 : Stream → Fault → Type 0
BreaksK20 s f = Breaks K20 elements.reset_frequency (ResetFits s) f

-- K21: the stream compounds, but its rate may not be compounded; place: compoundingMethod
abbrev pub BreaksK21 : Stream → Fault → Type 0
BreaksK21 s f = Breaks K21 elements.compounding_method (FitsCompounding s) f

-- K47: an element doesn't go with calculationParameters, which work the rate out of daily rates; place: that element
abbrev pub BreaksK47 : Stream → Fault → Type 0
BreaksK47 s f =
    Breaks K47 elements.index_tenor (TenorFits s.leg) f
    ⊎ (Breaks K47 elements.initial_rate (InitialRateFits s.leg) f
    ⊎ (Breaks K47 elements.day_count_fraction (DayCountFits s) f
    ⊎ (Breaks K47 elements.initial_stub_floating_rate (InitialStubFits s) f
    ⊎ Breaks K47 elements.final_stub_floating_rate (FinalStubFits s) f)))

-- ---- the rules of a swap's terms, K10 to K21 and K47, together

-- of references and centres; K12 alone depends on the calendars
abbrev pub BreaksNames : List Section → Stream → Fault → Type 0
BreaksNames cal s f = BreaksK10 s f ⊎ (BreaksK11 s f ⊎ BreaksK12 cal s f)

-- of dates and frequencies
abbrev pub BreaksDates : Stream → Fault → Type 0
BreaksDates s f = BreaksK13 s f ⊎ (BreaksK14 s f ⊎ (BreaksK15 s f ⊎ BreaksK16 s f))

-- of what is worked out with them
abbrev pub BreaksAmounts : Stream → Fault → Type 0
BreaksAmounts s f = BreaksK17 s f ⊎ (BreaksK18 s f ⊎ (BreaksK19 s f ⊎ (BreaksK20 s f ⊎ BreaksK21 s f)))

-- a stream breaks a rule of the terms
abbrev pub BreaksStream : List Section → Stream → Fault → Type 0
BreaksStream cal s f = BreaksNames cal s f ⊎ (BreaksDates s f ⊎ (BreaksAmounts s f ⊎ BreaksK47 s f))

-- a stream of the swap, numbered from 1, breaks a rule of the terms
pub record BreaksTerms (swap : Swap) (cal : List Section) (f : Broken) : Type 0 where
  pub position : ℕ
  pub stream : Stream
  pub there : slice_get swap.streams position ≡ Some stream
  pub fault : Fault
  pub numbered : f ≡ in_stream (position + 1) fault
  pub breaks : BreaksStream cal stream fault

-- the swap breaks no rule of the terms
abbrev pub BreaksNone : Swap → List Section → Type 0
BreaksNone swap cal = (f : Broken) → BreaksTerms swap cal f → ⊥

-- ---- what a stream keeps that breaks no rule of the terms (K10 to K21, K47)

-- what the stages rely on: the dates, the frequency, the offsets, the leg, the parameters, the steps and the
-- centres keep the rules
pub record TermsKept (cal : List Section) (s : Stream) : Type 0 where
  pub dates : DatesInOrder s
  pub frequency : FrequencySuits s
  pub said : IsSaid s.pay.offset
  pub said_reset : IsSaidReset s
  pub legs : FitsLeg s
  pub parameters : FitsParameters s
  pub notional_rises : StepsRise s.notional.steps
  pub leg_rises : LegStepsRise s.leg
  pub start_found : AreFound cal (names_by (first_date_of s).adj)
  pub end_found : AreFound cal (names_by s.termination.adj)
  pub middle_found : AreFound cal (names_by s.period_adj)
  pub payment_found : AreFound cal (names_with s.pay.offset s.pay.adj)
  pub reset_found : AreFound cal (reset_names s.reset)
  pub fixing_found : AreFound cal (fixing_names s.reset)
  pub applicable_found : AreFound cal (applicable_names s.leg)

-- ---- what the call of this crate answers, and what it refuses

-- the terms of the swap break no rule, or the first of K10 to K21 and K47 that they break
abbrev pub terms_of : Swap → List Section → Spec (Unit {0}) Broken
terms_of swap cal = unbroken is_before (BreaksTerms swap cal)
