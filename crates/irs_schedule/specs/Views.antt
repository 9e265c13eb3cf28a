-- How a part of a schedule is seen, and what it is made of.
use Rattle.std.specs.Prelude.{◌-◌, length}
use Rattle.irs_terms.specs.Lawful.{IsLawfulValues, IsLawfulLeg, IsNotional}
use Rattle.irs_terms.specs.TermDates.{StepsRise, LegStepsRise}
use Rattle.irs_schedule.specs.declared.streams.StreamPart.TheInside.{Inside}
use Rattle.irs_schedule.specs.Parts.{is_daily, is_floating, Part, KeepsBounds, HasRates}
use Rattle.irs_schedule.specs.Schedules.{periods_by}

-- ---- how a part is seen: its periods are in it, as if they were kept

-- the part, with its periods worked out
abbrev pub part_of : Inside → Part
part_of s = record {
  currency = s.terms.currency;
  day_count = s.terms.day_count;
  floating = is_floating s.terms.leg;
  daily = is_daily s.terms.leg;
  unadjusted = s.unadjusted;
  adjusted = s.adjusted;
  exchanges = s.exchanges;
  payments = s.payments;
  periods = periods_by s.terms s.unadjusted s.adjusted s.resets s.rates;
  resets = s.resets;
}

-- ---- what a part is made of, and what it keeps
-- These are the bounds of what is seen, and those of the values that its periods are worked out of.

-- within the bounds, of lawful terms, and the days of each schedule of steps rise
pub record IsKept (s : Inside) : Type 0 where
  pub bounds : KeepsBounds (part_of s)
  pub notional : IsLawfulValues IsNotional s.terms.notional
  pub leg : IsLawfulLeg s.terms.leg
  pub notional_rises : StepsRise s.terms.notional.steps
  pub leg_rises : LegStepsRise s.terms.leg
  pub rates : HasRates s.terms.leg (length s.adjusted - 1) s.resets s.rates
