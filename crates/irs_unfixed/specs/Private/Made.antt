-- Private: no public contract rests on this file.
-- Of private functions: parts of a schedule that was made, and days without a rate.
use Rattle.std.specs.Prelude.{List, ℕ}
use Rattle.irs_base.specs.Lists.{HoldsOf}
use Rattle.irs_terms.specs.Lawful.{IsLawfulStream}
use Rattle.irs_terms.specs.declared.results.Span.{Span}
use Rattle.irs_terms.specs.declared.stream.Stream.{Stream}
use Rattle.irs_calendar.specs.declared.sections.Section.{Section}
use Rattle.irs_resets.specs.Rates.{RateTable}
use Rattle.irs_resets.specs.Resets.{ResetSource, source_of}
use Rattle.irs_observed.specs.ObservedRates.{AreKnown, DailyRates}
use Rattle.irs_observed.specs.Observations.{ObservedPeriod, AreObservations}
use Rattle.irs_observed.specs.declared.observation.Observation.{Observation}
use Rattle.irs_rules.specs.TermsRules.{TermsKept}
use Rattle.irs_schedule.specs.DaySets.{fixing_days, reset_days, stream_sets}
use Rattle.irs_schedule.specs.Schedules.{stream_of}
use Rattle.irs_schedule.specs.Parts.{KeepsBounds, Part}
use Rattle.irs_unfixed.specs.Unfixed.{LacksRate, Fixing}
use Rattle.irs_unfixed.specs.declared.needed.Needed.{Needed}

-- ---- the observation days of a calculation period that have no daily rate

-- an observation of a calculation period has no daily rate
pub record HasAbsentDay (daily : DailyRates) (p : ObservedPeriod) : Type 0 where
  pub observations : List Observation
  pub are_observations : AreObservations p observations
  pub unknown : AreKnown daily observations → ⊥

-- ---- a part of a schedule that was made, and a calculation period of it whose rate isn't known

-- what the resets of a stream are worked out from, over the boundaries of its part of the schedule
abbrev pub reset_source : List Section → Stream → Part → Span → ResetSource
reset_source cal s p span = source_of s span p.adjusted (reset_days cal s) (fixing_days cal s)

-- p is what a lawful stream comes to, whose terms keep the rules
pub record IsMade (cal : List Section) (rates : RateTable) (s : Stream) (p : Part) : Type 0 where
  pub lawful : IsLawfulStream s
  pub kept : TermsKept cal s
  pub made : (stream_of (stream_sets cal s) rates s).Answers p
  pub bounds : KeepsBounds p

-- the same, and the rate of its period i isn't known
pub record IsGap (cal : List Section) (rates : RateTable) (s : Stream) (p : Part) (i : ℕ) : Type 0 where
  pub made : IsMade cal rates s p
  pub unrated : HoldsOf LacksRate p.periods i

-- ---- the first payment of a schedule without an amount, and the fixing that it lacks

-- ---- what the code hands on

-- the fixing that a period needs
abbrev pub fixing_in : Needed → Fixing
fixing_in n = record { index = n.index.now; tenor = n.tenor; day = n.day }
