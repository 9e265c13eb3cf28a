-- The part that is made of what was worked out for a stream.
use Rattle.std.proofs.Common.{◌≡◌, ◌-◌, ◌≤◌, List, length, map, refl, sym, subst, arith, ℕ, if◌then◌else◌}
use Rattle.irs_base.specs.Lists.{AreDays, Every}
use Rattle.irs_base.specs.Days.{IsDay}
use Rattle.irs_base.proofs.CoverLemmas.{covers_made}
use Rattle.irs_base.proofs.EveryLemmas.{every_made}
use Rattle.irs_terms.specs.Lawful.{IsLawfulStream}
use Rattle.irs_terms.specs.Private.TermDates.{AllStepsRise}
use Rattle.irs_terms.specs.declared.results.Payment.{Payment}
use Rattle.irs_terms.specs.declared.stream.Stream.{Stream}
use Rattle.irs_payments.specs.Payments.{ArePayments, Covers}
use Rattle.irs_payments.proofs.DatedPayments.{exchanges_bounded, exchanges_dated, exchanges_few, payments_dated}
use Rattle.irs_resets.specs.Rates.{RateTable}
use Rattle.irs_schedule.specs.DaySets.{StreamSets}
use Rattle.irs_schedule.specs.Private.Layouts.{MakePart, IsKeptLayout}
use Rattle.irs_schedule.specs.Parts.{is_floating, kept_terms_of, HasAmount, IsAmount, HasRates}
use Rattle.irs_schedule.specs.Schedules.{part_over, resets_over, IsPart, IsPaymentEntry, payment_of, layout_dates}
use Rattle.irs_schedule.specs.declared.entries.PaymentEntry.{PaymentEntry}
use Rattle.irs_schedule.specs.declared.layouts.Layout.{Layout}
use Rattle.irs_schedule.specs.declared.stream.StreamEvents.{StreamEvents}
use Rattle.irs_schedule.proofs.LayoutLemmas.{AreInRange}
use Rattle.irs_schedule.proofs.Events.{AreEvents}
use Rattle.irs_schedule.proofs.LayoutRules.{layout_is}
use Rattle.irs_schedule.proofs.PeriodLemmas.{length_periods, rises_of}
use Rattle.irs_schedule.proofs.RateLemmas.{resets_above, resets_in_dated, resets_many, with_rates}
use Rattle.irs_schedule.proofs.TermsThere.{entries_stand}

module _ (sets : StreamSets) (fix : RateTable) (s : Stream) (l : Layout) (some : 2 ≤ length l.unadjusted)
    (laid : IsKeptLayout sets s l) where
  -- lists that are in their relations over a layout make a part of the stream
  pub part_is : (d : StreamEvents) (es : List PaymentEntry) → AreEvents sets fix s l d
      → (map payment_of es ≡ d.payments) × Every (IsPaymentEntry (layout_dates s l d.resets d.rates)) es
      → IsPart sets fix s (part_over s l d es)
  part_is d es are paid = record {
    currency = refl;
    day_count = refl;
    floating = refl;
    daily = refl;
    layout = l;
    is_layout = layout_is sets s l laid;
    unadjusted = refl;
    adjusted = refl;
    exchanges = are.exchanges;
    payments = subst (λ (ps : List Payment). ArePayments s sets.payment l.unadjusted l.adjusted ps) (sym paid.0) are.payments;
    rates = d.rates;
    amounts = paid.1;
    count = let n = length_periods (kept_terms_of s) l.unadjusted l.adjusted d.resets d.rates in
        omega (arith, n, laid.adjusted.same_length, some);
    periods = entries_stand (layout_dates s l d.resets d.rates) laid.rises
        (resets_above (resets_over sets s l) sets.applicable fix s.leg (with_rates d.resets d.rates) are.resets)
        (omega (arith, laid.adjusted.same_length, some));
    resets = are.resets;
  }

  -- the lists keep the bounds of a part
  pub makes_part : (d : StreamEvents) (es : List PaymentEntry) → IsLawfulStream s → AllStepsRise s → AreInRange sets
      → AreDays l.unadjusted → AreDays l.adjusted → AreEvents sets fix s l d
      → Covers 1 d.payments (length l.unadjusted - 1) → HasRates s.leg (length l.adjusted - 1) d.resets d.rates
      → map payment_of es ≡ d.payments
      → Every (HasAmount s.currency) es → MakePart (kept_terms_of s) l.unadjusted l.adjusted d.exchanges es d.resets d.rates
  makes_part d es lawful rises range days moved dated covers rates paid bounds = record {
    currency = lawful.currency;
    notional = lawful.notional;
    leg = lawful.leg;
    notional_rises = rises.0;
    leg_rises = rises.1;
    some = some;
    few = laid.few;
    same_count = laid.adjusted.same_length;
    rises = rises_of l.unadjusted laid.unadjusted.rising;
    adjusted_rises = rises_of l.adjusted laid.rises;
    exchanges_few = exchanges_few s sets.payment d.exchanges lawful dated.exchanges;
    exchanged = exchanges_bounded s sets.payment d.exchanges lawful dated.exchanges (IsAmount s.currency)
        (λ v places size. record { places = places; size = size });
    exchange_days = exchanges_dated s sets.payment d.exchanges lawful dated.exchanges range.payment;
    covers = let last = length l.unadjusted - 1 in
        covers_made (λ (p : Payment). p.first_period) (λ (p : Payment). p.last_period) payment_of 1 last es
        (subst (λ (ps : List Payment). Covers 1 ps last) (sym paid) covers);
    paid = bounds;
    payment_days = every_made (λ (p : Payment). IsDay p.unadjusted × IsDay p.adjusted) payment_of es
        (payments_dated s sets.payment l.unadjusted l.adjusted (map payment_of es) range.payment days moved
        (subst (ArePayments s sets.payment l.unadjusted l.adjusted) (sym paid) dated.payments));
    resets_count =
        subst (λ (n : ℕ). length d.resets ≡ (if is_floating s.leg then n - 1 else 0)) laid.adjusted.same_length
        (resets_many (resets_over sets s l) sets.applicable fix s.leg (with_rates d.resets d.rates) refl dated.resets);
    rates = rates;
    reset_days = resets_in_dated (resets_over sets s l) sets.applicable fix
        (record { adjusted = moved; reset_set = range.reset; fixing_set = range.fixing }) s.leg
        (with_rates d.resets d.rates) dated.resets;
  }
