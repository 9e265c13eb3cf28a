-- The boundaries of a lawful stream that keeps its terms: they run over the term, they are days, and
-- payments over them cover its periods. The good business days of each kind of date lie in the range of days.
use Rattle.std.specs.Prelude.{◌-◌, ◌≤◌, List, length}
use Rattle.irs_base.specs.Lists.{AreDays, RunsFromTo}
use Rattle.irs_terms.specs.TermDates.{first_date_of, first_day_of, DatesInOrder}
use Rattle.irs_terms.specs.Lawful.{IsLawfulStream}
use Rattle.irs_terms.specs.Centers.{fixing_names, names_by, names_with, reset_names}
use Rattle.irs_terms.specs.declared.results.Payment.{Payment}
use Rattle.irs_terms.specs.declared.stream.Stream.{Stream}
use Rattle.irs_calendar.specs.declared.sections.Section.{Section}
use Rattle.irs_adjust.proofs.FoundDays.{InRange}
use Rattle.irs_periods.proofs.AdjustedBoundaries.{adjusted_days}
use Rattle.irs_periods.proofs.AdjustedLemmas.{two_boundaries}
use Rattle.irs_periods.proofs.BoundariesThere.{boundaries_days, boundaries_run}
use Rattle.irs_periods.proofs.TermOrder.{begins_before_end}
use Rattle.irs_payments.specs.Payments.{ArePayments, Covers}
use Rattle.irs_payments.proofs.PaymentsCover.{every_payments_cover}
use Rattle.irs_schedule.specs.DaySets.{StreamSets, stream_sets}
use Rattle.irs_schedule.specs.Private.Layouts.{IsKeptLayout}
use Rattle.irs_schedule.specs.declared.layouts.Layout.{Layout}
use Rattle.irs_schedule.proofs.CenterLemmas.{days_in_range}

-- every good business day of each kind of date is a day in range
pub record AreInRange (sets : StreamSets) : Type 0 where
  pub start : InRange sets.boundaries.start
  pub end : InRange sets.boundaries.end
  pub middle : InRange sets.boundaries.middle
  pub payment : InRange sets.payment
  pub reset : InRange sets.reset
  pub fixing : InRange sets.fixing

-- those of the centres that the stream's elements name are
pub sets_in_range : (cal : List Section) (s : Stream) → AreInRange (stream_sets cal s)
sets_in_range cal s = record {
  start = days_in_range cal (names_by (first_date_of s).adj);
  end = days_in_range cal (names_by s.termination.adj);
  middle = days_in_range cal (names_by s.period_adj);
  payment = days_in_range cal (names_with s.pay.offset s.pay.adj);
  reset = days_in_range cal (reset_names s.reset);
  fixing = days_in_range cal (fixing_names s.reset);
}

module _ (sets : StreamSets) (s : Stream) (lawful : IsLawfulStream s) (dates : DatesInOrder s) (l : Layout)
    (is : IsKeptLayout sets s l) where
  -- the boundaries go from the first day to the termination date
  pub layout_runs : RunsFromTo (first_day_of s) s.termination.day l.unadjusted
  layout_runs = boundaries_run s l.span dates is.regular is.kept l.unadjusted is.unadjusted

  -- the boundaries are days
  pub layout_days : AreDays l.unadjusted
  layout_days = boundaries_days s l.span lawful dates is.regular is.kept l.unadjusted is.unadjusted

  -- there is one period at least
  pub layout_some : 2 ≤ length l.unadjusted
  layout_some = two_boundaries s l.span l.unadjusted (begins_before_end s dates) is.unadjusted

  -- payments over a layout cover its periods
  pub layout_covers : (ps : List Payment) → ArePayments s sets.payment l.unadjusted l.adjusted ps
      → Covers 1 ps (length l.unadjusted - 1)
  layout_covers =
      every_payments_cover s sets.payment l.unadjusted l.adjusted lawful (begins_before_end s dates) layout_runs
      layout_days

  -- where the good business days are days in range, so are the adjusted boundaries
  pub layout_adjusted_days : AreInRange sets → AreDays l.adjusted
  layout_adjusted_days range =
      adjusted_days s sets.boundaries l.unadjusted layout_days range.start range.end range.middle l.adjusted
      is.adjusted
