-- The good business days by which each date of a stream is adjusted or moved.
use Rattle.std.specs.Prelude.{ℕ, true, List, Option, Some, None}
use Rattle.irs_base.specs.Days.{first_day, last_day}
use Rattle.irs_terms.specs.declared.stream.Stream.{Stream}
use Rattle.irs_terms.specs.TermDates.{first_date_of}
use Rattle.irs_terms.specs.Centers.{names_by, names_with, reset_names, fixing_names}
use Rattle.irs_calendar.specs.declared.sections.Section.{Section}
use Rattle.irs_calendar.specs.GoodDays.{DaySet}
use Rattle.irs_calendar.specs.Sections.{day_set_of}
use Rattle.irs_periods.specs.Boundaries.{BoundaryDays}
use Rattle.irs_rules.specs.Parameters.{applicable_names}

-- ---- the good business days by which each date of a stream is adjusted or moved

-- the whole range of dates, where every day is a good business day
abbrev pub whole_range : DaySet
whole_range = record { first = first_day; last = last_day; test = λ _. true }

-- the good business days of the centres with these names; without names the whole range
abbrev pub days_of_names : List Section → Option (List (List ℕ)) → DaySet
days_of_names cal None = whole_range
days_of_names cal (Some names) = day_set_of cal names

-- the good business days of the first boundary (firstPeriodStartDate, else the effective date), of the
-- termination date, and of the other boundaries
abbrev pub boundary_days : List Section → Stream → BoundaryDays
boundary_days cal s = record {
  start = days_of_names cal (names_by (first_date_of s).adj);
  end = days_of_names cal (names_by s.termination.adj);
  middle = days_of_names cal (names_by s.period_adj);
}

-- the good business days of payment dates and of principal exchanges
abbrev pub payment_days : List Section → Stream → DaySet
payment_days cal s = days_of_names cal (names_with s.pay.offset s.pay.adj)

-- the good business days of reset dates
abbrev pub reset_days : List Section → Stream → DaySet
reset_days cal s = days_of_names cal (reset_names s.reset)

-- the good business days of fixing dates
abbrev pub fixing_days : List Section → Stream → DaySet
fixing_days cal s = days_of_names cal (fixing_names s.reset)

-- its applicable business days, on which daily rates are observed; the whole range without calculation parameters
abbrev pub applicable_days : List Section → Stream → DaySet
applicable_days cal s = days_of_names cal (applicable_names s.leg)

-- the good business days of each kind of date of a stream
pub record StreamSets : Type 0 where
  pub boundaries : BoundaryDays
  pub payment : DaySet
  pub reset : DaySet
  pub fixing : DaySet
  pub applicable : DaySet

-- those of the centres that its elements name
abbrev pub stream_sets : List Section → Stream → StreamSets
stream_sets cal s =
    record {
      boundaries = boundary_days cal s;
      payment = payment_days cal s;
      reset = reset_days cal s;
      fixing = fixing_days cal s;
      applicable = applicable_days cal s;
    }

-- ---- the good business days of the centres that elements name, and a table of them for the streams of a swap

-- the names of the centres of an element, or none where it needs no days, and the calendars
pub record NamedCenters : Type 0 where
  pub sections : List Section
  pub names : Option (List (List ℕ))

-- the good business days of the centres with these names; without names the whole range
abbrev pub days_of_centers : NamedCenters → DaySet
days_of_centers centers = days_of_names centers.sections centers.names

-- the lists of names whose days were found, over these calendars
pub record FoundCenters : Type 0 where
  pub sections : List Section
  pub lists : List (Option (List (List ℕ)))
