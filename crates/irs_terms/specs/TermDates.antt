-- The dates and frequencies of a stream's terms, and what fits together.
use Rattle.std.specs.Prelude.{ℤ, unwrap_or, ℕ, Option, Some, None, IfSome, ◌≤ℤ◌, ◌<ℤ◌, ◌≡◌, ◌*◌, ◌==◌, Bool, false, ◌<◌}
use Rattle.std.specs.Prelude.{IsTrue, ◌≤◌, ◌≢◌, ◌⊎◌, IsSome, IsNone, IsSomeAnd, zero, suc, List, ◌∷◌, slice_get}
use Rattle.irs_terms.specs.Elements.{effective_date, first_period_start_date}
use Rattle.irs_terms.specs.declared.adjustments.AdjustableDate.{AdjustableDate}
use Rattle.irs_terms.specs.declared.stream.Stream.{Stream}
use Rattle.irs_terms.specs.declared.frequency.Unit.{Unit as FrequencyUnit}
use Rattle.irs_terms.specs.declared.frequency.Unit.TheVariants.{D, W, M, Y, T}
use Rattle.irs_terms.specs.declared.frequency.Frequency.{Frequency}
use Rattle.irs_terms.specs.declared.lengths.Length.{Length}
use Rattle.irs_terms.specs.declared.lengths.Length.TheVariants.{Days, Months, Term}
use Rattle.irs_terms.specs.declared.codes.RollCode.{RollCode}
use Rattle.irs_terms.specs.declared.codes.RollCode.TheVariants.{Eom, Dom, Imm, OnWeekday, NoRoll}
use Rattle.irs_terms.specs.declared.codes.Relative.TheVariants.{End}
use Rattle.irs_terms.specs.declared.codes.StubKind.{StubKind}
use Rattle.irs_terms.specs.declared.codes.StubKind.TheVariants.{ShortInitial, LongInitial}
use Rattle.irs_terms.specs.declared.dates.PayTerms.{PayTerms}
use Rattle.irs_terms.specs.declared.amounts.Leg.{Leg}
use Rattle.irs_terms.specs.declared.amounts.Leg.TheVariants.{Fixed, Floating}
use Rattle.irs_terms.specs.declared.step_list.Step.{Step}

-- ---- where the first calculation period of a stream begins

-- the date at which the first calculation period begins, with its adjustments: FpML's
-- firstPeriodStartDate where it is given, else the effective date
abbrev pub first_date_of : Stream → AdjustableDate
first_date_of s = unwrap_or s.first_start s.effective

-- its unadjusted day
abbrev pub first_day_of : Stream → ℤ
first_day_of s = (first_date_of s).day

-- ---- the dates of a stream's term, and their order

-- the element of the first day, with which the first calculation period begins: firstPeriodStartDate
-- where it is given, else the effective date
abbrev pub first_day_element_by : Option AdjustableDate → ℕ
first_day_element_by None = effective_date
first_day_element_by (Some start) = first_period_start_date

-- the element of the stream's first day
abbrev pub first_day_element : Stream → ℕ
first_day_element s = first_day_element_by s.first_start

-- the unadjusted termination date, with which the last calculation period ends
abbrev pub termination_of : Stream → ℤ
termination_of s = s.termination.day

-- the termination date is after the effective date
abbrev pub EndsAfterStart : Stream → Type 0
EndsAfterStart s = s.effective.day <ℤ termination_of s

-- firstPeriodStartDate, where it is given, is before the effective date
abbrev pub StartsBefore : Stream → Type 0
StartsBefore s = IfSome s.first_start (λ start. start.day <ℤ s.effective.day)

-- the first regular date, where it is given, isn't before the first day, nor after the termination date
abbrev pub FirstRegularInside : Stream → Type 0
FirstRegularInside s = IfSome s.first_regular (λ f. (first_day_of s ≤ℤ f) × (f ≤ℤ termination_of s))

-- The last regular date, where it is given, isn't after the termination date. It isn't before the first
-- regular date, or before the first day where none is given.
abbrev pub LastRegularInside : Stream → Type 0
LastRegularInside s =
    IfSome s.last_regular (λ l. (unwrap_or s.first_regular (first_day_of s) ≤ℤ l) × (l ≤ℤ termination_of s))

-- K13 isn't broken: the dates of the term and of its regular part are in order
pub record DatesInOrder (s : Stream) : Type 0 where
  pub ends : EndsAfterStart s
  pub starts : StartsBefore s
  pub first : FirstRegularInside s
  pub last : LastRegularInside s

-- ---- the length of a frequency: days, months, or the whole term

-- a week is 7 days and a year 12 months; the term keeps its multiplier
abbrev pub length_by : FrequencyUnit → ℕ → Length
length_by D count = Days count
length_by W count = Days (7 * count)
length_by M count = Months count
length_by Y count = Months (12 * count)
length_by T count = Term count

-- the length of a frequency
abbrev pub length_of : Frequency → Length
length_of f = length_by f.unit f.count

-- both are as long: 7D is 1W, 12M is 1Y, and the term is the term
abbrev pub is_same_length : Length → Length → Bool
is_same_length (Days a) (Days b) = a == b
is_same_length (Months a) (Months b) = a == b
is_same_length (Term a) (Term b) = a == b
is_same_length _ _ = false

-- frequencies of the same length: 12M and 1Y, 7D and 1W
abbrev pub same_length : Frequency → Frequency → Bool
same_length a b = is_same_length (length_of a) (length_of b)

-- ---- how the payment and the reset frequency of a stream fit its calculation frequency (FpML paymentFrequency,
-- resetFrequency, calculationPeriodFrequency)

-- a whole multiple
abbrev pub IsWholeMultiple : ℕ → ℕ → Type 0
IsWholeMultiple whole part = (times : ℕ) × (whole ≡ times * part)

-- a whole multiple, more than once
abbrev pub IsLargerMultiple : ℕ → ℕ → Type 0
IsLargerMultiple whole part = (times : ℕ) × (1 < times) × (whole ≡ times * part)

-- A payment has whole calculation periods: days are a whole multiple of days, and months of months.
-- A single payment for the whole term has them all. Where the one period is the term, so is the payment.
abbrev pub HasWholePeriods : Length → Length → Type 0
HasWholePeriods (Days pay) (Days calc) = IsWholeMultiple pay calc
HasWholePeriods (Months pay) (Months calc) = IsWholeMultiple pay calc
HasWholePeriods (Term pay) _ = pay ≡ 1
HasWholePeriods _ _ = ⊥

-- K15 isn't broken: the payment frequency suits the calculation frequency
abbrev pub PaymentSuits : Stream → Type 0
PaymentSuits s = HasWholePeriods (length_of s.pay.freq) (length_of s.freq)

-- a payment has more than one calculation period: the payment frequency isn't T, and it is a whole
-- number above 1 of calculation frequencies
abbrev pub GroupsPeriods : Length → Length → Type 0
GroupsPeriods (Days pay) (Days calc) = IsLargerMultiple pay calc
GroupsPeriods (Months pay) (Months calc) = IsLargerMultiple pay calc
GroupsPeriods _ _ = ⊥

-- K20 isn't broken: the reset frequency, where there is one, is as long as the calculation frequency
abbrev pub ResetSuits : Stream → Type 0
ResetSuits s = IfSome s.reset (λ r. IsTrue (same_length r.freq s.freq))

-- ---- which roll conventions suit a frequency, and which rules apply to a stream's own (FpML
-- calculationPeriodFrequency, rollConvention)

-- a roll for months: the last day, a day number from 1 to 30, or the third Wednesday
abbrev pub RollsMonths : RollCode → Type 0
RollsMonths Eom = Unit {0}
RollsMonths (Dom number) = (1 ≤ number) × (number ≤ 30)
RollsMonths Imm = Unit {0}
RollsMonths _ = ⊥

-- a roll for weeks: a weekday, or none
abbrev pub RollsWeeks : RollCode → Type 0
RollsWeeks (OnWeekday name) = Unit {0}
RollsWeeks NoRoll = Unit {0}
RollsWeeks _ = ⊥

-- months and years ask for a roll of months, weeks for one of weeks, days for none, and the term for nothing
abbrev pub SuitsBy : FrequencyUnit → RollCode → Type 0
SuitsBy D roll = roll ≡ NoRoll
SuitsBy W roll = RollsWeeks roll
SuitsBy M roll = RollsMonths roll
SuitsBy Y roll = RollsMonths roll
SuitsBy T roll = Unit {0}

-- the frequency and the roll suit each other
abbrev pub Suits : Frequency → RollCode → Type 0
Suits freq roll = SuitsBy freq.unit roll

-- the frequency is the whole term
abbrev pub IsWholeTerm : Frequency → Type 0
IsWholeTerm freq = freq.unit ≡ T

-- K14 isn't broken: the roll suits the frequency; the term counts once, and has no regular date
pub record FrequencySuits (s : Stream) : Type 0 where
  pub suits : Suits s.freq s.roll
  pub once : IsWholeTerm s.freq → s.freq.count ≡ 1
  pub no_first : IsWholeTerm s.freq → s.first_regular ≡ None
  pub no_last : IsWholeTerm s.freq → s.last_regular ≡ None

-- ---- where the first and the last regular payment date may be (FpML firstPaymentDate, lastRegularPaymentDate)

-- a first regular date other than the first day of the first period is given
abbrev pub StartsLater : Stream → Type 0
StartsLater s = IsSomeAnd s.first_regular (λ d. d ≢ first_day_of s)

-- the stub type is ShortInitial or LongInitial
abbrev pub IsInitialKind : Option StubKind → Type 0
IsInitialKind (Some ShortInitial) = Unit {0}
IsInitialKind (Some LongInitial) = Unit {0}
IsInitialKind _ = ⊥

-- no regular date is given, and the stub type is that of an initial stub
abbrev pub HasInitialKind : Stream → Type 0
HasInitialKind s = IsNone s.first_regular × IsNone s.last_regular × IsInitialKind s.stub

-- the terms call for an initial stub, by a later start or by the stub type; for frequency T they never do
abbrev pub AsksInitialStub : Stream → Type 0
AsksInitialStub s = (IsWholeTerm s.freq → ⊥) × (StartsLater s ⊎ HasInitialKind s)

-- Payments have more than one period and the terms call for an initial stub. Then the first payment date
-- alone says how many periods the first payment has.
abbrev pub NeedsFirstPayment : Stream → Type 0
NeedsFirstPayment s = GroupsPeriods (length_of s.pay.freq) (length_of s.freq) × AsksInitialStub s

-- regular payment dates go with payments at the periods' ends, and with more than one payment
abbrev pub HasRegularPayments : PayTerms → Type 0
HasRegularPayments p = (p.relative ≡ End) × (IsWholeTerm p.freq → ⊥)

-- the day is after the first day of the first period, and not after the termination date
abbrev pub IsPaymentInside : Stream → ℤ → Type 0
IsPaymentInside s d = (first_day_of s <ℤ d) × (d ≤ℤ termination_of s)

-- a given first payment date lies inside the term
pub record IsFirstPayment (s : Stream) (first : ℤ) : Type 0 where
  pub regular : HasRegularPayments s.pay
  pub inside : IsPaymentInside s first

-- firstPaymentDate is given where it is needed, and where it is given it is a lawful one
pub record FirstPaymentStands (s : Stream) : Type 0 where
  pub needed : NeedsFirstPayment s → IsSome s.pay.first
  pub given : IfSome s.pay.first (IsFirstPayment s)

-- a given last regular payment date lies inside the term, and not before a given first payment date
pub record IsLastPayment (s : Stream) (last : ℤ) : Type 0 where
  pub regular : HasRegularPayments s.pay
  pub inside : IsPaymentInside s last
  pub behind_first : IfSome s.pay.first (λ first. first ≤ℤ last)

-- lastRegularPaymentDate, where it is given, is a lawful one
abbrev pub LastPaymentStands : Stream → Type 0
LastPaymentStands s = IfSome s.pay.last (IsLastPayment s)

-- ---- the order of steps, and that they lie inside the term (FpML stepDate)

-- each step is after the one before it
abbrev pub StepsRise : List Step → Type 0
StepsRise (s ∷ t ∷ ss) = (s.day <ℤ t.day) × StepsRise (t ∷ ss)
StepsRise _ = Unit {0}

-- the steps of a fixed rate rise, and so do those of the multiplier and of the spread
abbrev pub LegStepsRise : Leg → Type 0
LegStepsRise (Fixed values) = StepsRise values.steps
LegStepsRise (Floating float) = StepsRise float.multiplier.steps × StepsRise float.spread.steps

-- the step before the one at this position, counted from 0
abbrev pub step_before : List Step → ℕ → Option Step
step_before steps zero = None
step_before steps (suc i) = slice_get steps i

-- a step strictly between two days, and strictly after the step before the position
pub record IsStepInside (from to : ℤ) (steps : List Step) (i : ℕ) (step : Step) : Type 0 where
  pub after_start : from <ℤ step.day
  pub before_end : step.day <ℤ to
  pub in_order : IfSome (step_before steps i) (λ before. before.day <ℤ step.day)

-- the step at the position, where there is one, lies inside
abbrev pub StepStands : ℤ → ℤ → List Step → ℕ → Type 0
StepStands from to steps i = IfSome (slice_get steps i) (IsStepInside from to steps i)
