-- Private: no public contract rests on this file.
-- Of private functions: observations and observed rates, one after another.
use Rattle.std.specs.Prelude.{ℕ, ◌+◌, ◌<◌, ◌==◌, List, length, ℤ, pos, ◌-ℤ◌, ◌<ℤ◌, if◌then◌else◌, Option, Some, None}
use Rattle.std.specs.Prelude.{[], ◌∷◌, ◌≡◌, ◌-◌, slice_get, Result, Ok, Err}
use Rattle.irs_base.specs.Lists.{day_at, EachNumbered}
use Rattle.irs_terms.specs.declared.places.Fault.{Fault}
use Rattle.irs_base.specs.Outcomes.{Spec, unless_broken}
use Rattle.irs_terms.specs.Faults.{comes_before}
use Rattle.irs_base.specs.declared.stopped.Stopped.{Stopped}
use Rattle.irs_base.specs.declared.stopped.Stopped.TheVariants.{Broken as OfBroken, Memory as OfMemory}
use Rattle.irs_terms.specs.declared.parameters.ObservationOffset.{ObservationOffset}
use Rattle.irs_terms.specs.declared.amounts.StubRate.{StubRate as RateOfStub}
use Rattle.irs_terms.specs.declared.amounts.StubRate.TheVariants.{Index, Fixed}
use Rattle.irs_terms.specs.declared.amounts.StubTerms.{StubTerms}
use Rattle.irs_terms.specs.declared.results.Reset.{Reset}
use Rattle.irs_calendar.specs.GoodDays.{DaySet, IsGood, Prev}
use Rattle.irs_resets.specs.declared.observed.PeriodKind.{PeriodKind}
use Rattle.irs_resets.specs.declared.observed.PeriodKind.TheVariants.{InitialStub, FinalStub, FirstRegular}
use Rattle.irs_resets.specs.declared.observed.PeriodKind.TheVariants.{LaterRegular}
use Rattle.irs_resets.specs.Rates.{RateTable}
use Rattle.irs_observed.specs.Observations.{MovesBack, ObservesOn, place_observed, member_or_end, ObservedPeriod}
use Rattle.irs_observed.specs.Observations.{LacksObservations, reported_before}
use Rattle.irs_observed.specs.declared.observation.Observation.{Observation}
use Rattle.irs_observed.specs.OvernightRates.{LacksAt, OvernightSource, observation_fault, printed_at, IsOvernightRate}
use Rattle.irs_observed.specs.OvernightRates.{IsRateOver}
use Rattle.irs_observed.specs.declared.observation.NoObservations.{NoObservations}
use Rattle.irs_observed.specs.declared.observation.NoObservations.TheVariants.{FewMembers, NoDay}
use Rattle.irs_observed.specs.declared.overnight_rates.Unobserved.{Unobserved}
use Rattle.irs_observed.specs.declared.overnight_rate.OvernightRate.{OvernightRate}
use Rattle.irs_observed.specs.ObservedRates.{DailyRates}
use Rattle.irs_observed.specs.declared.method.DailyRateMethod.{DailyRateMethod}

-- ---- what is known of the members of an observation period, one after another

-- the last business day at or before the member at a place; q is that of the first member
abbrev pub good_at : ℤ → List ℤ → ℕ → ℤ
good_at q u k = if k == 0 then q else day_at u k

-- the members rise up to the end b, and q is the last business day at or before the first. Every later one is
-- a business day, and between two of them there is none
pub record IsWalk (set : DaySet) (q : ℤ) (u : List ℤ) (b : ℤ) : Type 0 where
  pub rises : (k : ℕ) → k < length u → day_at u k <ℤ member_or_end u b (k + 1)
  pub first : Prev set (day_at u 0) q
  pub good : (k : ℕ) → 0 < k → k < length u → IsGood set (day_at u k)
  pub before : (k : ℕ) → k + 1 < length u → Prev set (day_at u (k + 1) -ℤ pos 1) (good_at q u k)

-- r is the last business day at or before d, moved back by n business days
abbrev pub LooksBack : ℕ → DaySet → ℤ → ℤ → Type 0
LooksBack n set d r = (q : ℤ) × Prev set d q × MovesBack n set q r

-- a member has no observation day
pub record IsUnseen (offset : ObservationOffset) (set : DaySet) (u : List ℤ) : Type 0 where
  pub place : ℕ
  pub within : place < length u
  pub none : (o : ℤ) → ObservesOn offset set (day_at u (place_observed offset (length u) place)) o → ⊥

-- ---- where the observed rate of a calculation period comes from

-- ---- the same by functions

-- the rate that is stated for a stub
abbrev pub own_of : Option RateOfStub → Option ℤ
own_of None = None
own_of (Some (Index index tenor)) = None
own_of (Some (Fixed rate)) = Some rate

-- the rate that is stated for the stub that the period is
abbrev pub own_rate_of : PeriodKind → Option StubTerms → Option ℤ
own_rate_of kind None = None
own_rate_of InitialStub (Some stubs) = own_of stubs.initial
own_rate_of FinalStub (Some stubs) = own_of stubs.last
own_rate_of FirstRegular (Some stubs) = None
own_rate_of LaterRegular (Some stubs) = None

-- ---- the rate of a calculation period up to a day of it: by the daily rates of the members before that day

-- the first member comes before b
abbrev pub BeginsBefore : ℤ → List Observation → Type 0
BeginsBefore b [] = ⊥
BeginsBefore b (o ∷ os) = o.day <ℤ b

-- ---- what is known of the periods of a stream with calculation parameters, one after another

-- no period before this number lacks observations
abbrev pub NoneLacksBefore : OvernightSource → ℕ → Type 0
NoneLacksBefore source n = (i : ℕ) (why : NoObservations) → i < n → LacksAt source i why → ⊥

-- no period does
abbrev pub NoneLacks : OvernightSource → Type 0
NoneLacks source = (i : ℕ) (why : NoObservations) → LacksAt source i why → ⊥

-- the first period that lacks observations, and why: too few members are reported before a day without a result
pub record StopsAt (source : OvernightSource) (u : Unobserved) : Type 0 where
  pub before : NoneLacksBefore source u.number
  pub lacks : LacksAt source u.number u.why
  pub not_few : u.why ≡ NoDay → LacksAt source u.number FewMembers → ⊥

-- a period after this number has too few members
abbrev pub HasFewAfter : OvernightSource → ℕ → ℕ → Type 0
HasFewAfter source n i = (n < i) × LacksAt source i FewMembers

-- K48 of the first period with too few members, else K33 of the first one without a day
abbrev pub fault_by : Option ℕ → ℕ → Fault
fault_by (Some few) no_day = observation_fault FewMembers few
fault_by None no_day = observation_fault NoDay no_day

-- ---- the resets of a stream with calculation parameters, and the rules that they break
-- Periods count from 1.

-- ---- rows

-- the row of period i is that of the rows with what is printed of its rate
pub record IsPrintedRow (rows : List Reset) (rs : List OvernightRate) (i : ℕ) (row : Reset) : Type 0 where
  pub dated : Reset
  pub at : slice_get rows (i - 1) ≡ Some dated
  pub reset : row.reset ≡ dated.reset
  pub fixing : row.fixing ≡ dated.fixing
  pub observed : row.observed ≡ printed_at rs i

-- the rows with what is printed of these rates
pub record ArePrinted (rows : List Reset) (rs : List OvernightRate) (printed : List Reset) : Type 0 where
  pub many : length printed ≡ length rows
  pub each : EachNumbered (IsPrintedRow rows rs) 1 printed

-- ---- two calls

-- a broken rule of observations, or an earlier one of dates
abbrev pub with_dates : Result (List Reset) (Stopped Fault) → Fault → Stopped Fault
with_dates (Ok rows) g = OfBroken g
with_dates (Err (OfBroken f)) g = OfBroken (if comes_before g f then g else f)
with_dates (Err OfMemory) g = OfMemory

-- ---- what the calls of this crate answer, and what they refuse

-- the rate by a calculation period's daily rates, or the first reason why it has no observations
abbrev pub rate_over_of : DailyRateMethod → DailyRates → ObservedPeriod → Spec OvernightRate NoObservations
rate_over_of method daily p = unless_broken reported_before (LacksObservations p) (IsRateOver method daily p)

-- the observed rate of period i, or the first reason why it has no observations
abbrev pub rate_at_of : OvernightSource → RateTable → ℕ → Spec OvernightRate NoObservations
rate_at_of source rates i = unless_broken reported_before (LacksAt source i) (IsOvernightRate source rates i)
