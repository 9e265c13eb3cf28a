-- Private: no public contract rests on this file.
-- Of private functions: what a schedule is worked out of, stage by stage.
use Rattle.std.specs.Prelude.{◌≡◌, ℕ, ◌≤◌, List, Contains, Option, Some, IfSome, length, slice_get, ◌+◌, if◌then◌else◌}
use Rattle.std.specs.Prelude.{◌<◌, Result, Ok, Err, ◌-◌, ℤ}
use Rattle.irs_base.specs.Limits.{most_centers, most_periods, most_exchanges}
use Rattle.irs_base.specs.Lists.{IsRising, AreDays, Every}
use Rattle.irs_terms.specs.Faults.{comes_before}
use Rattle.irs_terms.specs.declared.places.Fault.{Fault}
use Rattle.irs_base.specs.declared.stopped.Stopped.{Stopped}
use Rattle.irs_base.specs.declared.stopped.Stopped.TheVariants.{Broken, Memory}
use Rattle.irs_terms.specs.declared.stream.Stream.{Stream}
use Rattle.irs_terms.specs.declared.stream_list.Swap.{Swap}
use Rattle.irs_terms.specs.TermDates.{first_date_of, StepsRise, LegStepsRise}
use Rattle.irs_terms.specs.Centers.{names_by, names_with, reset_names, fixing_names}
use Rattle.irs_terms.specs.declared.results.Payment.{Payment}
use Rattle.irs_terms.specs.Lawful.{IsLawfulCurrency, IsLawfulValues, IsLawfulLeg, IsNotional}
use Rattle.irs_terms.specs.declared.results.Exchange.{Exchange}
use Rattle.irs_terms.specs.declared.results.Reset.{Reset}
use Rattle.irs_calendar.specs.declared.sections.Section.{Section}
use Rattle.irs_periods.specs.Boundaries.{AdjustedList, Boundaries}
use Rattle.irs_periods.specs.Spans.{SpanKept, Regular}
use Rattle.irs_observed.specs.declared.overnight_rate.OvernightRate.{OvernightRate}
use Rattle.irs_rules.specs.Parameters.{AreFound, applicable_names}
use Rattle.irs_schedule.specs.DaySets.{NamedCenters, FoundCenters, days_of_centers, StreamSets}
use Rattle.irs_schedule.specs.declared.center_table.StreamDays.{StreamDays}
use Rattle.irs_schedule.specs.declared.layouts.Layout.{Layout}
use Rattle.irs_schedule.specs.declared.amounts.PeriodTable.{PeriodTable}
use Rattle.irs_schedule.specs.Schedules.{StreamDates, dates_of}
use Rattle.irs_schedule.specs.Parts.{FactorPassesAt, HasRates, is_floating, EntriesCover, HasAmount, IsAmount}
use Rattle.irs_schedule.specs.Parts.{IsDatedExchange, IsDatedPayment, IsDatedReset, Rises}
use Rattle.irs_schedule.specs.declared.entries.PaymentEntry.{PaymentEntry}
use Rattle.irs_schedule.specs.declared.kept_terms.KeptTerms.{KeptTerms}

-- ---- the good business days of the centres that elements name, and a table of them for the streams of a swap

-- the element with these names over these calendars
abbrev pub centers_named : List Section → Option (List (List ℕ)) → NamedCenters
centers_named sections names = record { sections = sections; names = names }

-- the names of each element of the stream are among the lists
pub record HasStream (table : FoundCenters) (s : Stream) : Type 0 where
  pub start : Contains table.lists (names_by (first_date_of s).adj)
  pub end : Contains table.lists (names_by s.termination.adj)
  pub middle : Contains table.lists (names_by s.period_adj)
  pub payment : Contains table.lists (names_with s.pay.offset s.pay.adj)
  pub reset : Contains table.lists (reset_names s.reset)
  pub fixing : Contains table.lists (fixing_names s.reset)
  pub applicable : Contains table.lists (applicable_names s.leg)

-- the table has the names of each element of the swap, over these calendars
pub record HasSwap (cal : List Section) (swap : Swap) (table : FoundCenters) : Type 0 where
  pub sections : table.sections ≡ cal
  pub streams : (i : ℕ) (s : Stream) → slice_get swap.streams i ≡ Some s → HasStream table s

-- the table has its lists still, and may have more
pub record Grows (old now : FoundCenters) : Type 0 where
  pub sections : now.sections ≡ old.sections
  pub kept : (names : Option (List (List ℕ))) → Contains old.lists names → Contains now.lists names

-- the table has these names too
pub record HasMore (names : Option (List (List ℕ))) (old now : FoundCenters) : Type 0 where
  pub grows : Grows old now
  pub added : Contains now.lists names

-- the table has the names of the stream too
pub record HasMoreOf (s : Stream) (old now : FoundCenters) : Type 0 where
  pub grows : Grows old now
  pub added : HasStream now s

-- there are at most 16 names, and each is that of a section
abbrev pub CanFind : List Section → Option (List (List ℕ)) → Type 0
CanFind cal names = IfSome names (λ listed. length listed ≤ most_centers) × AreFound cal names

-- ---- the good business days by which a stream is worked out

-- the good business days that a table hands out for a stream
abbrev pub sets_of : StreamDays → StreamSets
sets_of days = record {
  boundaries =
      record {
        start = days_of_centers days.start.now;
        end = days_of_centers days.end.now;
        middle =
            days_of_centers days.middle.now;
      };
  payment = days_of_centers days.payment.now;
  reset = days_of_centers days.reset.now;
  fixing = days_of_centers days.fixing.now;
  applicable = days_of_centers days.applicable.now;
}

-- ---- the layouts of streams that break no rule of the span or of the boundaries

-- a layout of a stream that breaks no rule of the span or of the boundaries.
-- The roll fits, there aren't too many periods, and the adjusted boundaries rise.
pub record IsKeptLayout (sets : StreamSets) (s : Stream) (l : Layout) : Type 0 where
  pub regular : Regular s l.span
  pub kept : SpanKept s l.span
  pub unadjusted : Boundaries s l.span l.unadjusted
  pub few : length l.unadjusted ≤ most_periods + 1
  pub adjusted : AdjustedList s sets.boundaries l.unadjusted l.adjusted
  pub rises : IsRising l.adjusted

-- ---- what the calculation periods of a stream are worked out of, from a layout and from a table

-- the stream with those of a table
abbrev pub table_dates : Stream → PeriodTable → StreamDates
table_dates s table = dates_of s table.unadjusted.now table.adjusted.now table.resets.now table.rates.now

-- ---- the resets of a stream with its observed rates, as a stage, and what holds of them

-- ---- a compounded factor that passes its limit

-- k is the first place at which a compounded factor passes its limit
pub record IsFirstPassing (rates : List OvernightRate) (k : ℕ) : Type 0 where
  pub passes : FactorPassesAt rates k
  pub first : (j : ℕ) → j < k → FactorPassesAt rates j → ⊥

-- K39 of a factor, or a refusal of the amounts that is reported before
abbrev pub first_refusal : {A : Type 0} → Result A (Stopped Fault) → Fault → Stopped Fault
first_refusal (Ok entries) factor = Broken factor
first_refusal (Err (Broken other)) factor = Broken (if comes_before factor other then factor else other)
first_refusal (Err Memory) factor = Memory

-- ---- what holds of the table by which the calculation periods of a stream are worked out, and of a payment's periods
-- in it

-- the adjusted boundaries are days that rise, one for each unadjusted boundary, and rates keep their bounds
pub record IsTable (d : StreamDates) : Type 0 where
  pub some : 1 ≤ length d.adjusted
  pub few : length d.unadjusted ≤ most_periods + 1
  pub same_length : length d.adjusted ≡ length d.unadjusted
  pub rises : IsRising d.adjusted
  pub days : AreDays d.adjusted
  pub rates : HasRates d.stream.leg (length d.adjusted - 1) d.resets d.rates

-- the payment's periods are periods of the table, one at least
pub record HasPeriods (table : PeriodTable) (p : Payment) : Type 0 where
  pub from_one : 1 ≤ p.first_period
  pub some : p.first_period ≤ p.last_period
  pub to_end : p.last_period < length table.unadjusted.now

-- ---- what a part is made of, and what it keeps
-- These are the bounds of what is seen, and those of the values that its periods are worked out of.

-- boundaries, exchanges, payments, resets and observed rates that make a part by lawful terms, whose schedules of
-- steps rise
pub record MakePart (terms : KeptTerms) (unadjusted adjusted : List ℤ) (exchanges : List Exchange)
    (payments : List PaymentEntry) (resets : List Reset) (overnight : List OvernightRate) : Type 0 where
  pub currency : IsLawfulCurrency terms.currency
  pub notional : IsLawfulValues IsNotional terms.notional
  pub leg : IsLawfulLeg terms.leg
  pub notional_rises : StepsRise terms.notional.steps
  pub leg_rises : LegStepsRise terms.leg
  pub some : 2 ≤ length unadjusted
  pub few : length unadjusted ≤ most_periods + 1
  pub same_count : length adjusted ≡ length unadjusted
  pub rises : Rises unadjusted
  pub adjusted_rises : Rises adjusted
  pub exchanges_few : length exchanges ≤ most_exchanges
  pub exchanged : Every (λ x. IsAmount terms.currency x.amount) exchanges
  pub exchange_days : Every IsDatedExchange exchanges
  pub covers : EntriesCover 1 payments (length unadjusted - 1)
  pub paid : Every (HasAmount terms.currency) payments
  pub payment_days : Every IsDatedPayment payments
  pub resets_count : length resets ≡ (if is_floating terms.leg then length unadjusted - 1 else 0)
  pub rates : HasRates terms.leg (length adjusted - 1) resets overnight
  pub reset_days : Every IsDatedReset resets
