-- What a part of a schedule that was made is made of.
use Rattle.std.proofs.Common.{◌≡◌, ℕ, ◌+◌, ◌-◌, ◌<◌, ◌≤◌, List, length, Option, Some, None, refl, sym, ap, subst, ◌∙◌, arith}
use Rattle.std.specs.Prelude.{option_map, slice_get}
use Rattle.std.proofs.lemmas.Option.{same_Some, slice_get-get_or, slice_get_within}
use Rattle.irs_base.specs.Lists.{Every, HoldsOf, day_at}
use Rattle.irs_base.proofs.CoverLemmas.{LieAmong, covers_at}
use Rattle.irs_base.proofs.MemberLemmas.{every_get, numbered_get}
use Rattle.irs_terms.specs.declared.results.Span.{Span}
use Rattle.irs_terms.specs.declared.stream.Stream.{Stream}
use Rattle.irs_calendar.specs.declared.sections.Section.{Section}
use Rattle.irs_periods.specs.Spans.{Regular}
use Rattle.irs_resets.specs.Rates.{RateTable}
use Rattle.irs_observed.specs.declared.daily_resets.OvernightResets.{OvernightResets}
use Rattle.irs_observed.specs.declared.overnight_rate.OvernightRate.{OvernightRate}
use Rattle.irs_compound.specs.PeriodRates.{AreRatesIn, rates_in}
use Rattle.irs_compound.specs.declared.periods.Rates.{Rates}
use Rattle.irs_schedule.specs.DaySets.{applicable_days, stream_sets}
use Rattle.irs_schedule.specs.Parts.{kept_terms_of, Part, resets_in}
use Rattle.irs_schedule.specs.Schedules.{resets_over, stream_of, IsAmountFor, IsPeriodTerm, observed_of, StreamDates}
use Rattle.irs_schedule.specs.Schedules.{part_dates, rate_in, IsPaymentEntry, payment_of, period_by, periods_by}
use Rattle.irs_schedule.specs.Schedules.{layout_dates}
use Rattle.irs_schedule.specs.RowsOf.{no_period}
use Rattle.irs_schedule.specs.declared.entries.PaymentEntry.{PaymentEntry}
use Rattle.irs_schedule.specs.declared.entries.PeriodEntry.{PeriodEntry}
use Rattle.irs_schedule.proofs.LayoutRules.{layout_kept}
use Rattle.irs_schedule.proofs.PaidEntries.{entries_are}
use Rattle.irs_schedule.proofs.PeriodLemmas.{entry_at, length_periods}
use Rattle.irs_schedule.proofs.RateLemmas.{with_rates}
use Rattle.irs_periods.specs.Boundaries.{HasSpan}
use Rattle.irs_unfixed.specs.Private.Made.{IsMade, reset_source}
use Rattle.irs_unfixed.specs.Unfixed.{IsUnrated, LacksRate}
use Rattle.irs_unfixed.proofs.RateLemmas.{IsUnknown, map_none, rates_none, unknown_by}

-- what a part comes from: the regular span, and the observed rates that aren't rounded
pub record Stages (cal : List Section) (fix : RateTable) (s : Stream) (p : Part) : Type 0 where
  pub has_span : HasSpan s
  pub span : Span
  pub regular : Regular s span
  pub rates : List OvernightRate
  pub resets_made : (resets_in s.leg (reset_source cal s p span) (applicable_days cal s) fix).Answers (with_rates p.resets rates)
  pub amounts : Every (IsPaymentEntry (part_dates s p rates)) p.payments
  pub periods : p.periods ≡ periods_by (kept_terms_of s) p.unadjusted p.adjusted p.resets rates

-- what a lawful stream comes to has them
pub stages_of : (cal : List Section) (fix : RateTable) (s : Stream) (p : Part) → IsMade cal fix s p
    → Stages cal fix s p
unfolding stream_of
stages_of cal fix s p h =
    let m = h.made in
    let sets = stream_sets cal s in
    let l = m.0 in
    let events = m.2.0 in
    let o = m.2.1.2.2.0 in
    let same = m.2.1.2.2.2 in
    let both : o ≡ with_rates events.resets events.rates = sym (λ k. with_rates (same k).resets (same k).rates) in
    let is = sym m.2.2.2 in
    record {
      has_span = (m.1.0, m.1.1);
      span = l.span;
      regular = (layout_kept sets s l m.1).regular;
      rates = events.rates;
      resets_made =
          subst (λ (q : Part). (resets_in s.leg (reset_source cal s q l.span) sets.applicable fix).Answers (with_rates q.resets events.rates))
          is (subst (λ (x : OvernightResets). (resets_in s.leg (resets_over sets s l) sets.applicable fix).Answers x) both
          m.2.1.2.2.1);
      amounts =
          subst (λ (q : Part). Every (IsPaymentEntry (part_dates s q events.rates)) q.payments) is
          (entries_are (layout_dates s l events.resets events.rates) events.payments m.2.2.0 m.2.2.1.1).1;
      periods =
          subst (λ (q : Part). q.periods ≡ periods_by (kept_terms_of s) q.unadjusted q.adjusted q.resets events.rates) is refl;
    }

module _ (cal : List Section) (fix : RateTable) (s : Stream) (p : Part) (h : IsMade cal fix s p)
    (g : Stages cal fix s p) where
  abbrev dates : StreamDates
  dates = part_dates s p g.rates

  -- the rates of period n by the function
  abbrev rates_at : ℕ → Option Rates
  rates_at n = rates_in s.leg (day_at p.unadjusted (n - 1)) (observed_of p.resets n) (slice_get g.rates (n - 1))

  abbrev entry_of : ℕ → PeriodEntry
  entry_of n = period_by (kept_terms_of s) p.unadjusted p.adjusted p.resets g.rates n

  -- the period with a number
  period_there : (n : ℕ) → 1 ≤ n → n ≤ length p.periods → slice_get p.periods (n - 1) ≡ Some (entry_of n)
  period_there n low high =
      let all = periods_by (kept_terms_of s) p.unadjusted p.adjusted p.resets g.rates in
      let many = h.bounds.adjusted in
      let same = length_periods (kept_terms_of s) p.unadjusted p.adjusted p.resets g.rates in
      let within : n - 1 < length all = omega (arith, low, high, many, same) in
      ap (λ (es : List PeriodEntry). slice_get es (n - 1)) g.periods ∙ slice_get-get_or all (n - 1) no_period within
      ∙ ap (λ (e : PeriodEntry). Some e)
      (entry_at (kept_terms_of s) p.unadjusted p.adjusted p.resets g.rates n (omega (arith, low)) (omega (arith, high, many)))

  -- ---- a payment without an amount

  module _ (j : ℕ) (y : PaymentEntry) (at : slice_get p.payments j ≡ Some y) (none : y.amount ≡ None) where
    amount_none : IsAmountFor dates (payment_of y) None
    amount_none =
        subst (IsAmountFor dates (payment_of y)) none (every_get (IsPaymentEntry dates) p.payments j y g.amounts at)

    -- a period of it has no rate
    pub unrated_there : (n : ℕ) × IsUnrated p y n
    unrated_there =
        let a = amount_none in
        let k = a.is_amount.0 in
        let t = a.is_amount.1 in
        let n = y.first_period + k in
        let within = slice_get_within a.terms k t a.is_amount.2 in
        let count = a.are_terms.count in
        let lies : LieAmong 1 (length p.periods) y.first_period y.last_period =
        covers_at (λ (z : PaymentEntry). z.first_period) (λ (z : PaymentEntry). z.last_period) 1 (length p.periods)
        p.payments j y h.bounds.covers at in
        let from = lies.from in
        let to = lies.to in
        let term : IsPeriodTerm dates n t =
        numbered_get (IsPeriodTerm dates) y.first_period k a.terms t a.are_terms.each a.is_amount.2 in
        let are : AreRatesIn s.leg (day_at p.unadjusted (n - 1)) (observed_of p.resets n)
        (rate_in g.rates n) None =
        subst (AreRatesIn s.leg (day_at p.unadjusted (n - 1)) (observed_of p.resets n)
        (rate_in g.rates n)) a.is_amount.3 term.rates in
        let no_rates : rates_at n ≡ None =
        rates_none s.leg (day_at p.unadjusted (n - 1)) (observed_of p.resets n)
        (rate_in g.rates n) are in
        let last : n ≤ y.last_period = omega (arith, within, count) in (
          n,
          record {
            from = omega arith;
            to = last;
            lacks = record {
              from_one = omega (arith, from);
              member = entry_of n;
              at = period_there n (omega (arith, from)) (omega (arith, last, to));
              holds = ap (λ (o : Option Rates). option_map (λ (r : Rates). r.all_in) o) no_rates;
            };
          },
        )

  -- ---- a period without a rate

  module _ (n : ℕ) (lacks : HoldsOf LacksRate p.periods n) where
    pub gap_high : n ≤ length p.periods
    gap_high =
        let low = lacks.from_one in
        let within = slice_get_within p.periods (n - 1) lacks.member lacks.at in
        omega (arith, low, within)

    -- its observed rate isn't known
    pub gap_unknown : IsUnknown s.leg (observed_of p.resets n) (slice_get g.rates (n - 1))
    gap_unknown =
        let is : lacks.member ≡ entry_of n =
        same_Some lacks.member (entry_of n) (sym lacks.at ∙ period_there n lacks.from_one gap_high) in
        let none : option_map (λ (r : Rates). r.all_in) (rates_at n) ≡ None =
        ap (λ (e : PeriodEntry). e.rate) (sym is) ∙ lacks.holds in
        unknown_by s.leg (day_at p.unadjusted (n - 1)) (observed_of p.resets n)
        (slice_get g.rates (n - 1)) (map_none (rates_at n) none)
