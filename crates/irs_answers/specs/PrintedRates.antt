-- What `schedule` makes of derived rates, and what the schedules of a task keep.
use Rattle.std.specs.Prelude.{List, ◌≡◌, ℕ, ◌-◌, ◌<◌, ◌≤◌, Some, None, IsSome, IsSomeAnd, ℤ, unsigned_abs, slice_get}
use Rattle.std.specs.Prelude.{[], ◌∷◌}
use Rattle.irs_base.specs.Limits.{most_rate}
use Rattle.irs_base.specs.Lists.{HoldsOf}
use Rattle.irs_base.specs.Outcomes.{Only}
use Rattle.irs_terms.specs.Lawful.{IsLawfulSwap, IsRate}
use Rattle.irs_terms.specs.declared.stream_list.Swap.{Swap}
use Rattle.irs_terms.specs.declared.results.Frac.{Frac}
use Rattle.irs_terms.specs.declared.stream.Stream.{Stream}
use Rattle.irs_terms.specs.declared.frequency.Frequency.{Frequency}
use Rattle.irs_calendar.specs.declared.sections.Section.{Section}
use Rattle.irs_calendar.specs.GoodDays.{DaySet}
use Rattle.irs_resets.specs.Rates.{RateTable}
use Rattle.irs_rules.specs.TermsRules.{BreaksNone}
use Rattle.irs_schedule.specs.Schedules.{DatedKept, IsSchedule}
use Rattle.irs_schedule.specs.Parts.{Part}
use Rattle.irs_schedule.specs.declared.entries.PaymentEntry.{PaymentEntry}
use Rattle.irs_schedule.specs.declared.entries.PeriodEntry.{PeriodEntry}
use Rattle.irs_schedule.specs.DaySets.{reset_days}
use Rattle.irs_overnight.specs.Texts.{AreFixings, file_text}
use Rattle.irs_overnight.specs.Overnight.{OvernightAsked, IsOvernight, asked}
use Rattle.irs_overnight.specs.declared.derived.DerivedRow.{DerivedRow}
use Rattle.irs_average.specs.Averages.{IsAverage, averaged}
use Rattle.irs_average.specs.Interpolations.{IsInterpolated, HasStub, Stub, StubAsked, stub_asked}
use Rattle.irs_average.specs.declared.means.Mean.{Mean}
use Rattle.irs_average.specs.declared.stubs.Side.{Side}
use Rattle.irs_accrue.specs.DailyAccruals.{IsAccrualOf}
use Rattle.irs_accrue.specs.declared.accruals.Accrual.TheVariants.{Inside}
use Rattle.irs_answers.specs.Derived.{FloatingStream, IsFloatingAt, HasRateOf, HasRowRates}
use Rattle.irs_answers.specs.Due.{DueFor, Facts, PassesEachStep}
use Rattle.irs_answers.specs.Forms.{Given}
use Rattle.irs_answers.specs.declared.tasks.Task.TheVariants.{Schedule, Overnight, Average, Interpolate}

-- ---- the schedule of a swap that breaks no rule

-- a lawful swap breaks no rule by these calendars and fixings, and the parts are its schedule
pub record IsKeptSchedule (swap : Swap) (cal : List Section) (fix : RateTable) (parts : List Part) : Type 0 where
  pub lawful : IsLawfulSwap swap
  pub terms : BreaksNone swap cal
  pub dated : DatedKept swap cal fix
  pub schedule : IsSchedule swap cal fix parts

-- ---- rates past 10 in size, which is above 1,000 per cent
-- They are in payments without an amount alone.

-- y is a payment of the part, and it pays calculation period i, counted from 1
pub record PaysPeriod (p : Part) (y : PaymentEntry) (i : ℕ) (e : PeriodEntry) : Type 0 where
  pub place : ℕ
  pub payment : slice_get p.payments place ≡ Some y
  pub from_one : 1 ≤ i
  pub from : y.first_period ≤ i
  pub to : i ≤ y.last_period
  pub period : slice_get p.periods (i - 1) ≡ Some e

-- in a payment with an amount the rate of each period is known, and at most 10 in size
abbrev pub PaidWithinTen : Part → Type 0
PaidWithinTen p =
    (y : PaymentEntry) (i : ℕ) (e : PeriodEntry) → PaysPeriod p y i e → IsSome y.amount → IsSomeAnd e.rate IsRate

-- a payment of a period whose rate is past 10 in size has no amount
abbrev pub PastTenUnpaid : Part → Type 0
PastTenUnpaid p =
    (y : PaymentEntry) (i : ℕ) (e : PeriodEntry) (rate : ℤ) → PaysPeriod p y i e → e.rate ≡ Some rate
    → most_rate < unsigned_abs rate → y.amount ≡ None

-- where what has accrued of a period has no amount, its payment has none
abbrev pub UnaccruedUnpaid : Stream → Part → Type 0
UnaccruedUnpaid s p =
    (applicable : DaySet) (fix : RateTable) (d : ℤ) (i : ℕ) (days : ℤ) (frac : Frac) (y : PaymentEntry) (e : PeriodEntry)
    → IsAccrualOf s applicable fix p d (Inside i days frac None) → PaysPeriod p y i e → y.amount ≡ None

-- ---- what `schedule` makes of the fixing file that `overnight`, `average` or `interpolate` printed

-- the files of a task, with this text as the file of fixings
abbrev pub with_fixings : Given → List ℕ → Given
with_fixings g text =
    record { document = g.document; fixings = Some text; flows = g.flows; calendars = g.calendars }

-- The text is that of the only rows that meet Is, for the stream with that number. It is a fixing file with exactly
-- their rates. `schedule` over the same files, with the text as fixings, has the rates of the rows.
pub record PrintsRates (g : Given) (f : Facts) (number : ℕ) (Is : FloatingStream → List DerivedRow → Type 0)
    (text : List ℕ) : Type 0 where
  pub stream : FloatingStream
  pub floats : IsFloatingAt f.swap number stream
  pub rows : List DerivedRow
  pub only : Only (Is stream) rows
  pub printed : text ≡ file_text rows stream.float.tenor stream.float.index
  pub file : AreFixings rows stream.float.tenor stream.float.index
  pub used : (u : Facts) → PassesEachStep Schedule (with_fixings g text) u → HoldsOf (HasRowRates stream rows) u.parts number

-- The text is that of the only row that meets `IsInterpolated`. It is a fixing file with exactly its rate. `schedule`
-- over the same files, with the text as fixings, has this rate in the stub's period.
pub record PrintsRate (g : Given) (f : Facts) (a : StubAsked) (text : List ℕ) : Type 0 where
  pub row : DerivedRow
  pub only : Only (IsInterpolated a) row
  pub stub : Stub
  pub has : HasStub a stub
  pub printed : text ≡ file_text (row ∷ []) stub.tenor stub.source.index
  pub file : AreFixings (row ∷ []) stub.tenor stub.source.index
  pub used : (u : Facts) → PassesEachStep Schedule (with_fixings g text) u → HoldsOf (HasRateOf row) u.parts a.number

-- the request for rates that a task makes of a stream, over what its files say
abbrev pub asked_of : Facts → ℕ → FloatingStream → OvernightAsked
asked_of f number x = asked f.swap number f.parts (reset_days f.cal x.stream) f.table

-- what `overnight` prints with status 0 is used
abbrev pub OvernightPrints : ℕ → Given → Facts → List ℕ → Type 0
OvernightPrints number g f text =
    PassesEachStep (Overnight number) g f → DueFor (Overnight number) g 0 text
    → PrintsRates g f number (λ x. IsOvernight (asked_of f number x)) text

-- so is what `average` prints
abbrev pub AveragePrints : ℕ → Mean → ℕ → Given → Facts → List ℕ → Type 0
AveragePrints number mean step g f text =
    PassesEachStep (Average number mean step) g f → DueFor (Average number mean step) g 0 text
    → PrintsRates g f number (λ x. IsAverage (averaged (asked_of f number x) mean step)) text

-- so is what `interpolate` prints
abbrev pub InterpolatePrints : ℕ → Side → Frequency → Frequency → Given → Facts → List ℕ → Type 0
InterpolatePrints number side low high g f text =
    PassesEachStep (Interpolate number side low high) g f → DueFor (Interpolate number side low high) g 0 text
    → PrintsRate g f (stub_asked f.swap number side low high f.parts f.table) text
