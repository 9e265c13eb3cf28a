-- Private: no public contract rests on this file.
-- Of private functions: bounds of observations, and how a period fails.
use Rattle.std.specs.Prelude.{◌<◌, IfSome, unsigned_abs}
use Rattle.irs_base.specs.Days.{all_days, IsDay}
use Rattle.irs_terms.specs.Lawful.{IsRate}
use Rattle.irs_overnight.specs.declared.observations.Observation.{Observation}
use Rattle.irs_overnight.specs.Observations.{DailyPeriod, PeriodFails, LacksDays}
use Rattle.irs_overnight.specs.declared.periods.PeriodFault.{PeriodFault}
use Rattle.irs_overnight.specs.declared.periods.PeriodFault.TheVariants.{NoDays, OutOfRange}
use Rattle.irs_overnight.specs.declared.derived.DerivedRow.{DerivedRow}
use Rattle.irs_overnight.specs.Texts.{IsSmallFound}

-- ---- the bounds that observations keep, so that products fit

-- a rate of at most 10 in size, and fewer days than there are
pub record IsSmall (o : Observation) : Type 0 where
  pub rate : IfSome o.rate IsRate
  pub weight : unsigned_abs o.weight < all_days

-- ---- the way in which a period fails first

-- the period fails in no way
abbrev pub NoneFails : DailyPeriod → Type 0
NoneFails p = (why : PeriodFault) → PeriodFails why p → ⊥

-- it fails in this way, and in no earlier one
abbrev pub FirstWay : DailyPeriod → PeriodFault → Type 0
FirstWay p NoDays = PeriodFails NoDays p
FirstWay p OutOfRange = (LacksDays p.days p.start p.end → ⊥) × PeriodFails OutOfRange p

-- ---- derived rates as a fixing file

-- the fixing date and the rate of a row are in range
pub record IsInRange (row : DerivedRow) : Type 0 where
  pub day : IsDay row.fixing
  pub rate : IsSmallFound row.found
