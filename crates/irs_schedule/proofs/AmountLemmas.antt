-- The terms of a payment's periods, its amount, and the first of its periods that leaves the range.
use Rattle.std.proofs.Common.{◌≡◌, ℕ, ◌-◌, ◌<◌, ◌≤◌, ◌==◌, List, length, Option, Some, None, option_map, IfSome}
use Rattle.std.proofs.Common.{arith, ℤ}
use Rattle.std.specs.Prelude.{unsigned_abs}
use Rattle.irs_terms.specs.Lawful.{decimals_of, IsLawfulStream, IsNotional}
use Rattle.irs_terms.specs.declared.currency.Currency.{Currency}
use Rattle.irs_terms.specs.declared.results.Payment.{Payment}
use Rattle.irs_daycount.specs.Fractions.{denominator_of}
use Rattle.irs_daycount.specs.Private.FractionLaws.{one_denominator}
use Rattle.irs_compound.specs.Amounts.{IsTermOver, IsPaymentOfTerms, most_units}
use Rattle.irs_compound.specs.Private.RateLaws.{in_force_within}
use Rattle.irs_compound.specs.declared.periods.PeriodTerm.{PeriodTerm}
use Rattle.irs_schedule.specs.Parts.{IsAmount}
use Rattle.irs_schedule.specs.Schedules.{IsPeriodTerm, AreTerms, dec_of, StreamDates}
use Rattle.irs_schedule.specs.Private.Layouts.{IsTable}
use Rattle.irs_schedule.proofs.TermsThere.{term_fits}
use Rattle.irs_base.proofs.EveryLemmas.{all_numbered}
use Rattle.irs_compound.proofs.PeriodSizes.{one_denominator_of}
use Rattle.irs_base.specs.Lists.{day_at}

-- an amount within its bound is one of the currency
pub amount_fits : (currency : Currency) (places : ℕ) (units : Option ℤ) → places ≡ decimals_of currency.letters
    → IfSome units (λ m. unsigned_abs m ≤ most_units places)
    → IfSome (option_map (dec_of places) units) (IsAmount currency)
amount_fits currency places None e h = tt
amount_fits currency places (Some m) e h = record { places = e; size = h }

module _ (d : StreamDates) (lawful : IsLawfulStream d.stream) (table : IsTable d) where
  -- notional and fraction of a period are in their ranges
  term_in_range : (i : ℕ) (t : PeriodTerm) → 1 ≤ i → i < length d.adjusted → IsPeriodTerm d i t
      → IsTermOver (denominator_of d.stream.day_count) t
  term_in_range i t low high h =
      let s = d.stream in
      let a = d.adjusted in (
        in_force_within IsNotional s.notional (day_at d.unadjusted (i - 1)) t.notional lawful.notional h.notional,
        term_fits d table.rises table.days i t low high h,
        one_denominator s.day_count (day_at a (i - 1)) (day_at a i) (i == length a - 1) t.frac h.frac,
      )

  -- the terms of a payment's periods are those of a payment
  pub is_payment : (p : Payment) (ts : List PeriodTerm) → 1 ≤ p.first_period → p.first_period ≤ p.last_period
      → p.last_period < length d.unadjusted → AreTerms d p ts → IsPaymentOfTerms ts
  is_payment p ts low order high are =
      let some : 1 ≤ length ts = omega (arith, are.count, order) in
      let den = denominator_of d.stream.day_count in (
        some,
        omega (arith, are.count, low, high, table.few),
        one_denominator_of den ts some (all_numbered (IsPeriodTerm d) (IsTermOver den) p.first_period ts
            (λ i t from to. term_in_range i t (omega (arith, low, from))
            (omega (arith, are.count, high, to, table.same_length))) are.each),
      )
