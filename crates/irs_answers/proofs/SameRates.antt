-- A schedule and the rules of dates and amounts depend on a table of rates by its rates alone.
use Rattle.std.proofs.Common.{◌≡◌, inl, inr, List, [], ◌∷◌, Option, Some, None, sym, subst}
use Rattle.irs_base.specs.Outcomes.{refused_as}
use Rattle.irs_terms.specs.Faults.{in_stream}
use Rattle.irs_base.specs.Lists.{Pairs}
use Rattle.irs_terms.specs.declared.places.Broken.{Broken}
use Rattle.irs_terms.specs.declared.places.Fault.{Fault}
use Rattle.irs_base.proofs.MemberLemmas.{numbered_map}
use Rattle.irs_base.proofs.Outcomes.{each_refuses}
use Rattle.irs_terms.specs.declared.amounts.FloatTerms.{FloatTerms}
use Rattle.irs_terms.specs.declared.amounts.Leg.{Leg}
use Rattle.irs_terms.specs.declared.amounts.Leg.TheVariants.{Fixed, Floating}
use Rattle.irs_terms.specs.declared.parameters.CalculationParameters.{CalculationParameters}
use Rattle.irs_terms.specs.declared.stream.Stream.{Stream}
use Rattle.irs_terms.specs.declared.stream_list.Swap.{Swap}
use Rattle.irs_calendar.specs.GoodDays.{DaySet}
use Rattle.irs_calendar.specs.declared.sections.Section.{Section}
use Rattle.irs_resets.specs.Rates.{RateTable}
pub use Rattle.irs_resets.specs.Rates.{SameRates}
pub use Rattle.irs_resets.proofs.FileOutcomes.{same_file}
use Rattle.irs_resets.specs.Resets.{ResetSource, source_of}
use Rattle.irs_resets.proofs.RowLemmas.{resets_same}
use Rattle.irs_observed.specs.ObservedRates.{DailyRates, daily_rates, one_day}
use Rattle.irs_observed.specs.OvernightRates.{IsOvernightRate, IsRateOf, AreOvernightResets, DailySource, daily_source}
use Rattle.irs_observed.specs.declared.daily_resets.OvernightResets.{OvernightResets}
use Rattle.irs_schedule.specs.Schedules.{DatedBroken, DatedKept, resets_over, schedule_of, stream_of, IsPart}
use Rattle.irs_schedule.specs.Schedules.{IsSchedule, AreResetsBy, AreResetsIn}
use Rattle.irs_schedule.specs.DaySets.{StreamSets, stream_sets}
use Rattle.irs_schedule.specs.Parts.{Part, resets_by, resets_in}
use Rattle.irs_schedule.proofs.RateLemmas.{with_rates}

-- where one table has the rates of another, the other has its rates
pub same_back : (t u : RateTable) → SameRates t u → SameRates u t
same_back t u e index slot = sym (e index slot)

module _ (t u : RateTable) (e : SameRates t u) where
  -- ---- resets and observed rates

  overnight_same : (source : DailySource) (x : OvernightResets) → AreOvernightResets source t x
      → AreOvernightResets source u x
  overnight_same source x h =
      let daily : daily_rates t source.rates.index ≡ daily_rates u source.rates.index =
      λ i d. e source.rates.index (record { date = d; tenor = Some one_day }) i in
      record {
        rates = record {
          many = h.rates.many;
          each = numbered_map (IsOvernightRate source.rates t) (IsOvernightRate source.rates u) 1 x.rates
              (λ m r low high is. record {
                kind = is.kind;
                is_kind = is.is_kind;
                is_rate = subst (λ (rates : DailyRates). IsRateOf source.rates rates m is.kind r) daily is.is_rate;
              }) h.rates.each;
        };
        resets = h.resets;
      }

  module _ (source : ResetSource) (applicable : DaySet) where
    by_same : (float : FloatTerms) (parameters : Option CalculationParameters) (x : OvernightResets)
        → AreResetsBy float parameters source applicable t x → AreResetsBy float parameters source applicable u x
    by_same float None x h = (resets_same source t u e x.resets h.0, h.1)
    by_same float (Some parameters) x h = overnight_same (daily_source source applicable float parameters) x h

    resets_in_same : (leg : Leg) (x : OvernightResets) → AreResetsIn leg source applicable t x
        → AreResetsIn leg source applicable u x
    resets_in_same (Fixed values) x h = (resets_same source t u e x.resets h.0, h.1)
    resets_in_same (Floating float) x h = by_same float float.parameters x h

    answers_by : (float : FloatTerms) (parameters : Option CalculationParameters) (x : OvernightResets)
        → (resets_by float parameters source applicable t).Answers x
        → (resets_by float parameters source applicable u).Answers x
    answers_by float None x h = ((h.0.0, resets_same source t u e x.resets h.0.1), h.1)
    answers_by float (Some parameters) x h =
        (h.0, overnight_same (daily_source source applicable float parameters) x h.1)

    answers_same : (leg : Leg) (x : OvernightResets) → (resets_in leg source applicable t).Answers x
        → (resets_in leg source applicable u).Answers x
    answers_same (Fixed values) x h = ((h.0.0, resets_same source t u e x.resets h.0.1), h.1)
    answers_same (Floating float) x h = answers_by float float.parameters x h

    refuses_by : (float : FloatTerms) (parameters : Option CalculationParameters) (f : Fault)
        → (resets_by float parameters source applicable t).Refuses f
        → (resets_by float parameters source applicable u).Refuses f
    refuses_by float None f h = h
    refuses_by float (Some parameters) f h = h

    refuses_same : (leg : Leg) (f : Fault) → (resets_in leg source applicable t).Refuses f
        → (resets_in leg source applicable u).Refuses f
    refuses_same (Fixed values) f h = h
    refuses_same (Floating float) f h = refuses_by float float.parameters f h

  -- ---- schedules

  part_same : (sets : StreamSets) (s : Stream) (p : Part) → IsPart sets t s p → IsPart sets u s p
  part_same sets s p h = record {
    currency = h.currency;
    day_count = h.day_count;
    floating = h.floating;
    daily = h.daily;
    layout = h.layout;
    is_layout = h.is_layout;
    unadjusted = h.unadjusted;
    adjusted = h.adjusted;
    exchanges = h.exchanges;
    payments = h.payments;
    rates = h.rates;
    amounts = h.amounts;
    count = h.count;
    periods = h.periods;
    resets = resets_in_same (source_of s h.layout.span p.adjusted sets.reset sets.fixing) sets.applicable s.leg
        (with_rates p.resets h.rates) h.resets;
  }

  parts_same : (cal : List Section) (ss : List Stream) (ps : List Part)
      → Pairs (λ s p. IsPart (stream_sets cal s) t s p) ss ps → Pairs (λ s p. IsPart (stream_sets cal s) u s p) ss ps
  parts_same cal [] [] h = tt
  parts_same cal [] (p ∷ ps) h = absurd h
  parts_same cal (s ∷ ss) [] h = absurd h
  parts_same cal (s ∷ ss) (p ∷ ps) h = (part_same (stream_sets cal s) s p h.0, parts_same cal ss ps h.1)

  -- a schedule depends on the rates alone
  pub schedule_same : (swap : Swap) (cal : List Section) (parts : List Part) → IsSchedule swap cal t parts
      → IsSchedule swap cal u parts
  schedule_same swap cal parts h = parts_same cal swap.streams parts h

  -- ---- what a stream and a swap come to

  stream_answers : (sets : StreamSets) (s : Stream) (p : Part) → (stream_of sets t s).Answers p
      → (stream_of sets u s).Answers p
  unfolding stream_of
  stream_answers sets s p (l, laid, (d, (ps, dated, (xs, exchanged, (x, reset, made))), rest)) =
      let moved = answers_same (resets_over sets s l) sets.applicable s.leg x reset in
      (l, laid, (d, (ps, dated, (xs, exchanged, (x, moved, made))), rest))

  stream_refuses : (sets : StreamSets) (s : Stream) (f : Fault) → (stream_of sets t s).Refuses f
      → (stream_of sets u s).Refuses f
  unfolding stream_of
  stream_refuses sets s f (inl first) = inl first
  stream_refuses sets s f (inr (l, laid, inl (inl first))) = inr (l, laid, inl (inl first))
  stream_refuses sets s f (inr (l, laid, inl (inr (ps, dated, inl first)))) =
      inr (l, laid, inl (inr (ps, dated, inl first)))
  stream_refuses sets s f (inr (l, laid, inl (inr (ps, dated, inr (xs, exchanged, inl first))))) =
      inr (
        l,
        laid,
        inl (inr (
          ps,
          dated,
          inr (
            xs,
            exchanged,
            inl
                (refuses_same (resets_over sets s l) sets.applicable s.leg f first),
          ),
        )),
      )
  stream_refuses sets s f (inr (l, laid, inl (inr (ps, dated, inr (xs, exchanged, inr last))))) = absurd last.2
  stream_refuses sets s f (inr (l, laid, inr (d, (ps, dated, (xs, exchanged, (x, reset, made))), rest))) =
      let moved = answers_same (resets_over sets s l) sets.applicable s.leg x reset in
      inr (l, laid, inr (d, (ps, dated, (xs, exchanged, (x, moved, made))), rest))

  -- the first broken rule is the same for tables with the same rates
  pub first_same_table : (swap : Swap) (cal : List Section) (x : Broken) → DatedBroken swap cal t x
      → DatedBroken swap cal u x
  unfolding schedule_of
  first_same_table swap cal x h =
      each_refuses (λ n s. refused_as (in_stream n) (stream_of (stream_sets cal s) t s))
      (λ n s. refused_as (in_stream n) (stream_of (stream_sets cal s) u s))
      (λ n s p. stream_answers (stream_sets cal s) s p)
      (λ n s b k. (k.0, stream_refuses (stream_sets cal s) s k.0 k.1, k.2)) 1 swap.streams x h

-- whether a schedule breaks a rule depends on the rates alone
pub kept_same : (t u : RateTable) → SameRates t u → (swap : Swap) (cal : List Section) → DatedKept swap cal t
    → DatedKept swap cal u
kept_same t u e swap cal kept x h = kept x (first_same_table u t (same_back t u e) swap cal x h)
