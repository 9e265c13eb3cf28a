-- Payments without an amount, and the first fixing that one lacks.
use Rattle.std.specs.Prelude.{◌≡◌, ◌⊎◌, List, [], ◌∷◌, None, IsSome, ℤ, ℕ, ◌-◌, length, Option, Some, ◌≤◌, Bool, nat_lt}
use Rattle.std.specs.Prelude.{slice_get, sum_by}
use Rattle.irs_base.specs.Lists.{HoldsOf, day_at, Every}
use Rattle.irs_base.specs.Outcomes.{level, First}
use Rattle.irs_terms.specs.declared.amounts.FloatTerms.{FloatTerms}
use Rattle.irs_terms.specs.declared.amounts.Leg.{Leg}
use Rattle.irs_terms.specs.declared.amounts.Leg.TheVariants.{Fixed, Floating}
use Rattle.irs_terms.specs.declared.amounts.StubTerms.{StubTerms}
use Rattle.irs_terms.specs.declared.frequency.Frequency.{Frequency}
use Rattle.irs_terms.specs.declared.parameters.CalculationParameters.{CalculationParameters}
use Rattle.irs_terms.specs.declared.results.Reset.{Reset}
use Rattle.irs_terms.specs.declared.results.Span.{Span}
use Rattle.irs_terms.specs.declared.stream.Stream.{Stream}
use Rattle.irs_terms.specs.Lawful.{IsLawfulSwap}
use Rattle.irs_terms.specs.declared.stream_list.Swap.{Swap}
use Rattle.irs_calendar.specs.declared.sections.Section.{Section}
use Rattle.irs_periods.specs.Spans.{Regular}
use Rattle.irs_resets.specs.Rates.{ComesFrom, IsPeriodKind, Line, RateTable, rate_at}
use Rattle.irs_resets.specs.declared.observed.PeriodKind.{PeriodKind}
use Rattle.irs_observed.specs.ObservedRates.{DailyRates, daily_rates, one_day}
use Rattle.irs_observed.specs.Observations.{ObservedPeriod, AreObservations, observed_period}
use Rattle.irs_observed.specs.declared.observation.Observation.{Observation}
use Rattle.irs_observed.specs.OvernightRates.{HasOwnRate}
use Rattle.irs_rules.specs.TermsRules.{BreaksNone}
use Rattle.irs_schedule.specs.DaySets.{applicable_days}
use Rattle.irs_schedule.specs.Parts.{Part}
use Rattle.irs_schedule.specs.declared.entries.PaymentEntry.{PaymentEntry}
use Rattle.irs_schedule.specs.declared.entries.PeriodEntry.{PeriodEntry}
use Rattle.irs_schedule.specs.Schedules.{DatedKept, IsSchedule}
use Rattle.irs_unfixed.specs.declared.places.PaymentPlace.{PaymentPlace}
use Rattle.irs_unfixed.specs.declared.missing.Missing.{Missing}

-- ---- the observation days of a calculation period that have no daily rate

-- d is the first observation day without a daily rate
abbrev pub FirstAbsent : DailyRates → List Observation → ℤ → Type 0
FirstAbsent daily [] d = ⊥
FirstAbsent daily (o ∷ os) d =
    ((daily o.observed ≡ None) × (d ≡ o.observed)) ⊎ (IsSome (daily o.observed) × FirstAbsent daily os d)

-- d is the first observation day of a calculation period that has no daily rate
pub record IsAbsentDay (daily : DailyRates) (p : ObservedPeriod) (d : ℤ) : Type 0 where
  pub observations : List Observation
  pub are_observations : AreObservations p observations
  pub first : FirstAbsent daily observations d

-- ---- the fixing that the rate of a calculation period rests on
-- Periods count from 1.

-- a fixing: the rate of an index and a tenor on a day
pub record Fixing : Type 0 where
  pub index : List ℕ
  pub tenor : Option Frequency
  pub day : ℤ

-- no line of the fixings has it
abbrev pub HasNoLine : RateTable → Fixing → Type 0
HasNoLine rates f = rate_at rates f.index (record { date = f.day; tenor = f.tenor }) ≡ None

-- ---- by the fixing date of a reset

-- the rate of period i, of this kind, is the line of an index and a tenor on the fixing date of its reset. They are
-- those of the stream, or those that are given for the stub that it is
pub record RestsOnReset (kind : PeriodKind) (float : FloatTerms) (stubs : Option StubTerms) (resets : List Reset) (i : ℕ)
    (f : Fixing) : Type 0 where
  pub comes_from : ComesFrom kind float stubs (Line f.index f.tenor)
  pub fixed_on : HoldsOf (λ (r : Reset). r.fixing ≡ f.day) resets i

-- ---- by daily rates

-- the rate of a calculation period of this kind is by daily rates: those of the stream's index, of the tenor 1D. The
-- fixing is that of the first observation day that has none
pub record RestsOnDays (kind : PeriodKind) (float : FloatTerms) (stubs : Option StubTerms) (rates : RateTable)
    (p : ObservedPeriod) (f : Fixing) : Type 0 where
  pub not_own : HasOwnRate kind stubs → ⊥
  pub index : f.index ≡ float.index
  pub tenor : f.tenor ≡ Some one_day
  pub day : IsAbsentDay (daily_rates rates float.index) p f.day

-- ---- the one or the other

-- period i of the stream s, whose part of the schedule is p, as its daily rates are observed
abbrev pub daily_period : List Section → Stream → CalculationParameters → Part → ℕ → ObservedPeriod
daily_period cal s parameters p i =
    observed_period parameters.offset (applicable_days cal s) (day_at p.adjusted (i - 1)) (day_at p.adjusted i)

-- by the calculation parameters, where the stream has them
abbrev pub RestsBy : Option CalculationParameters → FloatTerms → List Section → RateTable → Stream → Part → ℕ → PeriodKind
    → Fixing → Type 0
RestsBy None float cal rates s p i kind f = RestsOnReset kind float s.stubs p.resets i f
RestsBy (Some parameters) float cal rates s p i kind f =
    RestsOnDays kind float s.stubs rates (daily_period cal s parameters p i) f

-- the rate of period i of a floating stream rests on this fixing
pub record FloatsOn (float : FloatTerms) (cal : List Section) (rates : RateTable) (s : Stream) (p : Part) (i : ℕ)
    (f : Fixing) : Type 0 where
  pub span : Span
  pub regular : Regular s span
  pub kind : PeriodKind
  pub is_kind : IsPeriodKind s span (length p.periods) i kind
  pub rests : RestsBy float.parameters float cal rates s p i kind f

-- by what the stream pays: a fixed rate rests on no fixing
abbrev pub RestsIn : Leg → List Section → RateTable → Stream → Part → ℕ → Fixing → Type 0
RestsIn (Fixed values) cal rates s p i f = ⊥
RestsIn (Floating float) cal rates s p i f = FloatsOn float cal rates s p i f

-- the rate of period i of the stream s, whose part of the schedule is p, lacks this fixing. It rests on it, and no
-- line of the fixings has it
pub record LacksFixing (cal : List Section) (rates : RateTable) (s : Stream) (p : Part) (i : ℕ) (f : Fixing) : Type 0 where
  pub rests : RestsIn s.leg cal rates s p i f
  pub absent : HasNoLine rates f

-- ---- payments without an amount, and calculation periods without a rate
-- Streams, payments and periods count from 1.

-- the payment has no amount
abbrev pub LacksAmount : PaymentEntry → Type 0
LacksAmount y = y.amount ≡ None

-- the payment at this place of a schedule is unfixed: it has no amount
abbrev pub UnfixedAt : List Part → PaymentPlace → Type 0
UnfixedAt parts u = HoldsOf (λ (p : Part). HoldsOf LacksAmount p.payments u.payment) parts u.stream

-- the order of a schedule: the lower stream comes first, then the lower payment
abbrev pub place_before : PaymentPlace → PaymentPlace → Bool
place_before a b = level a.stream b.stream (nat_lt a.payment b.payment)

-- every payment of the schedule has its amount
abbrev pub EachHasAmount : List Part → Type 0
EachHasAmount parts = Every (λ (p : Part). Every (λ (y : PaymentEntry). IsSome y.amount) p.payments) parts

-- the rate of the calculation period isn't known
abbrev pub LacksRate : PeriodEntry → Type 0
LacksRate e = e.rate ≡ None

-- period i is one of the payment's, and its rate isn't known
pub record IsUnrated (p : Part) (y : PaymentEntry) (i : ℕ) : Type 0 where
  pub from : y.first_period ≤ i
  pub to : i ≤ y.last_period
  pub lacks : HoldsOf LacksRate p.periods i

-- ---- the first payment of a schedule without an amount, and the fixing that it lacks

-- a swap, with the calendars and the fixings by which its schedule is made
pub record MadeFrom : Type 0 where
  pub swap : Swap
  pub cal : List Section
  pub rates : RateTable

-- a swap with these calendars and rates
abbrev pub made_from : Swap → List Section → RateTable → MadeFrom
made_from swap cal rates = record { swap = swap; cal = cal; rates = rates }

-- a lawful swap breaks no rule, and this is its schedule
pub record IsMadeFrom (x : MadeFrom) (parts : List Part) : Type 0 where
  pub lawful : IsLawfulSwap x.swap
  pub terms : BreaksNone x.swap x.cal
  pub dated : DatedKept x.swap x.cal x.rates
  pub schedule : IsSchedule x.swap x.cal x.rates parts

-- the payment at this place lacks this fixing: the rate of its first calculation period whose rate isn't known does
pub record PaymentLacks (x : MadeFrom) (parts : List Part) (u : PaymentPlace) (f : Fixing) : Type 0 where
  pub stream : Stream
  pub is_stream : slice_get x.swap.streams (u.stream - 1) ≡ Some stream
  pub part : Part
  pub is_part : slice_get parts (u.stream - 1) ≡ Some part
  pub payment : PaymentEntry
  pub is_payment : slice_get part.payments (u.payment - 1) ≡ Some payment
  pub period : ℕ
  pub is_period : First nat_lt (IsUnrated part payment) period
  pub lacks : LacksFixing x.cal x.rates stream part period f

-- the first payment of the schedule without an amount is at this place, and it lacks this fixing
pub record IsFirstLacking (x : MadeFrom) (parts : List Part) (u : PaymentPlace) (f : Fixing) : Type 0 where
  pub first : First place_before (UnfixedAt parts) u
  pub lacks : PaymentLacks x parts u f

-- ---- what the code hands on

-- the fixing that is missing
abbrev pub missing_fixing : Missing → Fixing
missing_fixing m = record { index = m.index.now; tenor = m.tenor; day = m.day }

-- the place of the payment that lacks it
abbrev pub missing_place : Missing → PaymentPlace
missing_place m = record { stream = m.stream; payment = m.payment }

-- m names the first payment of the schedule without an amount, and the fixing that it lacks
abbrev pub IsFirstMissing : MadeFrom → List Part → Missing → Type 0
IsFirstMissing x parts m = IsFirstLacking x parts (missing_place m) (missing_fixing m)

-- ---- how many payments a schedule has
-- How many of them have no amount is a word of irs_audit.

-- how many payments a stream has
abbrev pub stream_payments : Part → ℕ
stream_payments p = length p.payments

-- how many payments a schedule has
abbrev pub payment_count : List Part → ℕ
payment_count parts = sum_by stream_payments parts
