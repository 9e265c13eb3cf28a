-- The terms and the entry of each period are there, and so is the amount of each payment.
use Rattle.std.proofs.Common.{◌≡◌, ℕ, ◌+◌, ◌-◌, ◌<◌, ◌≤◌, ◌==◌, List, length, map, Option, Some, None, option_map, ℤ}
use Rattle.std.proofs.Common.{arith, refl, subst}
use Rattle.std.specs.List.{range_with_len}
use Rattle.std.proofs.lemmas.List.FromFn.{length-map-range_with_len}
use Rattle.irs_base.specs.Lists.{AreDays, IsRising, EachNumbered, day_at}
use Rattle.irs_base.proofs.CoverLemmas.{LieAmong}
use Rattle.irs_base.proofs.DayListLemmas.{day_at_day}
use Rattle.irs_base.proofs.EveryLemmas.{all_numbered, numbered_computed}
use Rattle.irs_terms.specs.Lawful.{decimals_of}
use Rattle.irs_terms.specs.declared.results.Payment.{Payment}
use Rattle.irs_terms.specs.declared.stream.Stream.{Stream}
use Rattle.irs_daycount.specs.Fractions.{fraction_of}
use Rattle.irs_daycount.specs.Private.FractionLaws.{fraction_is, days_is}
use Rattle.irs_compound.specs.Amounts.{IsDayCountFraction, AmountOf}
use Rattle.irs_compound.specs.PeriodRates.{value_in_force, rates_in}
use Rattle.irs_compound.specs.Private.RateLaws.{in_force_is, rates_in_are}
use Rattle.irs_compound.specs.Private.AmountLaws.{AllFractions}
use Rattle.irs_compound.specs.declared.periods.PeriodTerm.{PeriodTerm}
use Rattle.irs_compound.proofs.FractionFits.{fraction_is_fit}
use Rattle.irs_payments.proofs.PlaceLemmas.{rises_at}
use Rattle.irs_schedule.specs.Parts.{kept_terms_of}
use Rattle.irs_schedule.specs.Schedules.{period_count, period_by, periods_by, observed_of, IsPeriodTerm, IsPeriodEntry}
use Rattle.irs_schedule.specs.Schedules.{AreTerms, IsAmountBy, dec_of, StreamDates, rate_in}
use Rattle.irs_schedule.proofs.RateLemmas.{AreAbove}

-- the terms of period i as a function
abbrev pub term_by : StreamDates → ℕ → PeriodTerm
term_by d i = record {
  notional = value_in_force d.stream.notional (day_at d.unadjusted (i - 1));
  rates = rates_in d.stream.leg (day_at d.unadjusted (i - 1)) (observed_of d.resets i) (rate_in d.rates i);
  frac = fraction_of d.stream.day_count (day_at d.adjusted (i - 1)) (day_at d.adjusted i) (i == period_count d.adjusted);
}

-- the terms of the periods of a payment
abbrev pub terms_by : StreamDates → Payment → List PeriodTerm
terms_by d p = map (term_by d) (range_with_len p.first_period (p.last_period + 1 - p.first_period))

-- the amount in the decimals of the currency
pub amount_by : (s : Stream) (ts : List PeriodTerm) (places : ℕ) (units : Option ℤ)
    → places ≡ decimals_of s.currency.letters → AmountOf s.compounding ts places units
    → IsAmountBy s ts (option_map (dec_of places) units)
amount_by s ts places None e h = subst (λ (k : ℕ). AmountOf s.compounding ts k None) e h
amount_by s ts places (Some m) e h = (e, subst (λ (k : ℕ). AmountOf s.compounding ts k (Some m)) e h)

module _ (d : StreamDates) (rising : IsRising d.adjusted) where
  term_stands : AreAbove d.rates → (i : ℕ) → 1 ≤ i → i < length d.adjusted → IsPeriodTerm d i (term_by d i)
  term_stands above i low high =
      let a = d.adjusted in
      record {
        notional = in_force_is d.stream.notional (day_at d.unadjusted (i - 1));
        rates =
            rates_in_are d.stream.leg (day_at d.unadjusted (i - 1)) (observed_of d.resets i) (rate_in d.rates i) (above i);
        frac = fraction_is d.stream.day_count (day_at a (i - 1)) (day_at a i) (i == length a - 1)
            (rises_at a (i - 1) i rising (omega (arith, low)) high);
      }

  -- what a part works out for its periods is in the relations
  pub entries_stand : AreAbove d.rates → 1 ≤ length d.adjusted
      → EachNumbered (IsPeriodEntry d) 1 (periods_by (kept_terms_of d.stream) d.unadjusted d.adjusted d.resets d.rates)
  entries_stand above some =
      let a = d.adjusted in
      numbered_computed (IsPeriodEntry d) (period_by (kept_terms_of d.stream) d.unadjusted a d.resets d.rates) 1 (period_count a)
      (λ i low high. record {
        term = term_by d i;
        is_term = term_stands above i low (omega (arith, high, some));
        days = days_is d.stream.day_count (day_at a (i - 1)) (day_at a i) (i == length a - 1);
        frac = refl;
        notional = refl;
        rate = refl;
      })

  module _ (days : AreDays d.adjusted) where
    -- the fraction of a period is one of the amounts
    pub term_fits : (i : ℕ) (t : PeriodTerm) → 1 ≤ i → i < length d.adjusted → IsPeriodTerm d i t → IsDayCountFraction t.frac
    term_fits i t low high h =
        let a = d.adjusted in
        fraction_is_fit d.stream.day_count (day_at a (i - 1)) (day_at a i) (i == length a - 1) t.frac
        (day_at_day a (i - 1) days) (day_at_day a i days) (rises_at a (i - 1) i rising (omega (arith, low)) high) h.frac

    -- the fractions of periods between days that rise are those of a day count
    pub terms_fit : (n : ℕ) (ts : List PeriodTerm) → 1 ≤ n → n + length ts ≤ length d.adjusted
        → EachNumbered (IsPeriodTerm d) n ts → AllFractions ts
    terms_fit n ts low high =
        all_numbered (IsPeriodTerm d) (λ (t : PeriodTerm). IsDayCountFraction t.frac) n ts
        (λ i t from to h. term_fits i t (omega (arith, low, from)) (omega (arith, high, to)) h)

    module _ (above : AreAbove d.rates) (last : ℕ) (high : last < length d.adjusted) where
      -- the periods of a payment have their terms
      pub terms_there : (p : Payment) → LieAmong 1 last p.first_period p.last_period → AreTerms d p (terms_by d p)
      terms_there p lies = record {
        count = omega (
          arith,
          length-map-range_with_len (term_by d) p.first_period (p.last_period + 1 - p.first_period),
          lies.order,
        );
        each = numbered_computed (IsPeriodTerm d) (term_by d) p.first_period (p.last_period + 1 - p.first_period)
            (λ i from to.
            term_stands above i (omega (arith, lies.from, from)) (omega (arith, lies.order, lies.to, high, to)));
      }
