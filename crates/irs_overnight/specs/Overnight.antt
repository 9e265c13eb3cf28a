-- The rates that daily rates give for a stream of a swap, and the rules K40 to K44.
use Rattle.std.specs.Prelude.{ℕ, ◌-◌, List, ℤ, slice_index_or, ◌≡◌, ◌+◌, length, Some, ◌⊎◌, ◌≤◌, Bool, None, ◌≤ℤ◌}
use Rattle.std.specs.Prelude.{nat_lt, ◌==◌, if◌then◌else◌, [], slice_get}
use Rattle.irs_base.specs.Lists.{day_at, EachNumbered}
use Rattle.irs_terms.specs.Elements.{swap_stream, reset_dates, calculation_period_amount, day_count_fraction}
use Rattle.irs_base.specs.Outcomes.{level, First}
use Rattle.irs_terms.specs.Faults.{fault_at, in_stream, rule_number}
use Rattle.irs_terms.specs.declared.places.Broken.{Broken}
use Rattle.irs_terms.specs.declared.places.Fault.{Fault}
use Rattle.irs_terms.specs.declared.places.Rule.{Rule}
use Rattle.irs_terms.specs.declared.places.Rule.TheVariants.{K40, K41, K42, K43, K44}
use Rattle.irs_terms.specs.declared.codes.DayCountCode.{DayCountCode}
use Rattle.irs_terms.specs.declared.results.Reset.{Reset}
use Rattle.irs_terms.specs.Lawful.{IsLawfulSwap}
use Rattle.irs_terms.specs.declared.amounts.FloatTerms.{FloatTerms}
use Rattle.irs_terms.specs.declared.stream_list.Swap.{Swap}
use Rattle.irs_calendar.specs.GoodDays.{DaySet, SameDays}
use Rattle.irs_calendar.specs.declared.sections.Section.{Section}
use Rattle.irs_resets.specs.Rates.{RateTable}
use Rattle.irs_resets.specs.Resets.{IsPeriod}
use Rattle.irs_rules.specs.TermsRules.{BreaksNone}
use Rattle.irs_schedule.specs.Parts.{Part}
use Rattle.irs_schedule.specs.RowsOf.{no_reset}
use Rattle.irs_schedule.specs.Schedules.{DatedKept, IsSchedule}
use Rattle.irs_schedule.specs.DaySets.{reset_days}
use Rattle.irs_overnight.specs.Observations.{RateLines, daily_lines, DailyPeriod, derived_period, FindsRate, basis_of}
use Rattle.irs_overnight.specs.Observations.{PeriodFails, Floats, PaysFloating}
use Rattle.irs_overnight.specs.declared.derived.DerivedRow.{DerivedRow}
use Rattle.irs_overnight.specs.declared.periods.PeriodFault.{PeriodFault}
use Rattle.irs_overnight.specs.declared.periods.PeriodFault.TheVariants.{NoDays, OutOfRange}
use Rattle.irs_overnight.specs.Texts.{AreFixings}

-- ---- what the daily rates of a stream are compounded from

-- the adjusted boundaries of the calculation periods and their resets, the day count, the business days of reset dates,
-- and the daily rates
pub record DerivedSource : Type 0 where
  pub adjusted : List ℤ
  pub resets : List Reset
  pub day_count : DayCountCode
  pub days : DaySet
  pub lines : RateLines

-- what the daily rates of a stream of a schedule are compounded from
abbrev pub derived_source : Part → List ℕ → DaySet → RateTable → DerivedSource
derived_source part index days rates = record {
  adjusted = part.adjusted;
  resets = part.resets;
  day_count = part.day_count;
  days = days;
  lines = daily_lines rates index;
}

-- the fixing date of period i
abbrev pub fixing_at : List Reset → ℕ → ℤ
fixing_at resets i = (slice_index_or resets (i - 1) no_reset).fixing

-- ---- the calculation periods whose daily rates are compounded

-- period i goes from adjusted boundary i - 1 to adjusted boundary i
abbrev pub derived_period_at : DerivedSource → ℕ → ℕ → DailyPeriod
derived_period_at source basis i =
    derived_period basis source.lines source.days (day_at source.adjusted (i - 1)) (day_at source.adjusted i)

-- ---- the rates that daily rates give, one for each calculation period

-- the row of period i
pub record IsDerivedRow (source : DerivedSource) (i : ℕ) (row : DerivedRow) : Type 0 where
  pub stands : IsPeriod source.adjusted i
  pub period : row.period ≡ i
  pub fixing : row.fixing ≡ fixing_at source.resets i
  pub basis : ℕ
  pub is_basis : basis_of source.day_count ≡ Some basis
  pub finds : FindsRate (derived_period_at source basis i) row.found

-- one row for each period, in order
pub record AreDerived (source : DerivedSource) (rows : List DerivedRow) : Type 0 where
  pub many : length rows + 1 ≡ length source.adjusted
  pub each : EachNumbered (IsDerivedRow source) 1 rows

-- ---- the rules of daily compounding, K40 to K44

-- K40: there is no such stream, or it is fixed, or it has calculationParameters
abbrev pub no_floating_stream : ℕ → Broken
no_floating_stream number = in_stream number (fault_at K40 swap_stream 0)

-- K42: the day count is neither ACT/360 nor ACT/365.FIXED
abbrev pub no_basis : Fault
no_basis = fault_at K42 day_count_fraction 0

-- K42 is broken
abbrev pub BreaksBasis : DerivedSource → Fault → Type 0
BreaksBasis source f = (basis_of source.day_count ≡ None) × (f ≡ no_basis)

-- the fixing date of the period isn't after that of the period before it
pub record FixingNotAfter (resets : List Reset) (number : ℕ) : Type 0 where
  pub second : 2 ≤ number
  pub within : number ≤ length resets
  pub not_after : fixing_at resets number ≤ℤ fixing_at resets (number - 1)

-- K41 at the period with this number
abbrev pub fixing_not_after_at : ℕ → Fault
fixing_not_after_at number = fault_at K41 reset_dates number

-- K41 is broken at a period
pub record BreaksFixing (source : DerivedSource) (f : Fault) : Type 0 where
  pub number : ℕ
  pub not_after : FixingNotAfter source.resets number
  pub is : f ≡ fixing_not_after_at number

-- what a period breaks by failing so: K43 or K44, with the number of the period
abbrev pub period_fault : PeriodFault → ℕ → Fault
period_fault NoDays i = fault_at K43 reset_dates i
period_fault OutOfRange i = fault_at K44 calculation_period_amount i

-- K43: the observations of a period lack a day; K44: its rates pass a limit. Where there is no basis no
-- period is considered
pub record BreaksPeriod (source : DerivedSource) (f : Fault) : Type 0 where
  pub basis : ℕ
  pub is_basis : basis_of source.day_count ≡ Some basis
  pub number : ℕ
  pub period : IsPeriod source.adjusted number
  pub why : PeriodFault
  pub fails : PeriodFails why (derived_period_at source basis number)
  pub is : f ≡ period_fault why number

-- one of the rules K41 to K44 is broken
abbrev pub BreaksDerived : DerivedSource → Fault → Type 0
BreaksDerived source f = BreaksBasis source f ⊎ (BreaksFixing source f ⊎ BreaksPeriod source f)

-- K42 comes first, then K41, then the others
abbrev pub derived_turn : Rule → ℕ
derived_turn rule = if rule_number rule == 42 then 0 else if rule_number rule == 41 then 1 else 2

-- by the turn, then by the period, then by the rule
abbrev pub derived_before : Fault → Fault → Bool
derived_before f g =
    level (derived_turn f.rule) (derived_turn g.rule)
    (level f.index g.index (level (rule_number f.rule) (rule_number g.rule) (nat_lt f.elem g.elem)))

-- ---- the rates that daily rates give for a stream of a swap, and the first broken rule

-- the stream of a swap by its number, the parts of a schedule, business days and daily rates
pub record OvernightAsked : Type 0 where
  pub swap : Swap
  pub number : ℕ
  pub parts : List Part
  pub days : DaySet
  pub rates : RateTable

-- a request for rates, of these parts
abbrev pub asked : Swap → ℕ → List Part → DaySet → RateTable → OvernightAsked
asked swap number parts days rates = record { swap = swap; number = number; parts = parts; days = days; rates = rates }

-- The stream floats without calculationParameters, and the parts are the schedule of the swap without fixings, by
-- calendars with which no rule is broken. The days are the business days of the stream's reset dates in these calendars:
-- they have the same cover and agree on each day of it.
pub record IsAsked (a : OvernightAsked) : Type 0 where
  pub lawful : IsLawfulSwap a.swap
  pub floats : Floats a.swap a.number
  pub calendars : List Section
  pub terms : BreaksNone a.swap calendars
  pub dates : DatedKept a.swap calendars []
  pub schedule : IsSchedule a.swap calendars [] a.parts
  pub reset_set : SameDays a.days (reset_days calendars floats.1.stream)

-- what the daily rates of the stream are compounded from
pub record HasSource (a : OvernightAsked) (source : DerivedSource) : Type 0 where
  pub float : FloatTerms
  pub pays : PaysFloating a.swap a.number float
  pub part : Part
  pub at : slice_get a.parts (a.number - 1) ≡ Some part
  pub is : source ≡ derived_source part float.index a.days a.rates

-- the rates that the daily rates of the stream give
pub record IsOvernight (a : OvernightAsked) (rows : List DerivedRow) : Type 0 where
  pub source : DerivedSource
  pub has : HasSource a source
  pub derived : AreDerived source rows

-- a rule of K41 to K44 that is broken
pub record BreaksDerivedRule (a : OvernightAsked) (f : Fault) : Type 0 where
  pub source : DerivedSource
  pub has : HasSource a source
  pub breaks : BreaksDerived source f

-- none is broken
abbrev pub OvernightKept : OvernightAsked → Type 0
OvernightKept a = (f : Fault) → BreaksDerivedRule a f → ⊥

-- x is the first that is broken: K42, else the lowest K41, else the lowest period with K43 or K44, K43 first
pub record IsFirstDerived (a : OvernightAsked) (x : Broken) : Type 0 where
  pub fault : Fault
  pub first : First derived_before (BreaksDerivedRule a) fault
  pub is : x ≡ in_stream a.number fault

-- with the index and the tenor of the stream the rows print a fixing file that has exactly their rates
abbrev pub RowsReadBack : OvernightAsked → List DerivedRow → Type 0
RowsReadBack a rows = (float : FloatTerms) → PaysFloating a.swap a.number float → AreFixings rows float.tenor float.index
