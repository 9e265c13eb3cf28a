-- The payments, exchanges, resets and observed rates of a stream over its layout: they are in their relations, and
-- there is one outcome.
use Rattle.std.proofs.Common.{◌-◌, List, length, refl, sym, subst}
use Rattle.irs_base.specs.Outcomes.{Determined}
use Rattle.irs_base.proofs.Outcomes.{answer_determined, then_determined}
use Rattle.irs_terms.specs.Lawful.{IsLawfulStream}
use Rattle.irs_terms.specs.declared.stream.Stream.{Stream}
use Rattle.irs_calendar.specs.declared.sections.Section.{Section}
use Rattle.irs_payments.specs.Exchanges.{AreExchanges}
use Rattle.irs_payments.specs.Payments.{payments_of, principals_of, steps_of, ArePayments, Covers}
use Rattle.irs_payments.proofs.Outcomes.{payments_determined, principals_determined, steps_determined}
use Rattle.irs_resets.specs.Rates.{RateTable}
use Rattle.irs_observed.specs.declared.daily_resets.OvernightResets.{OvernightResets}
use Rattle.irs_rules.specs.TermsRules.{TermsKept}
use Rattle.irs_schedule.specs.DaySets.{StreamSets}
use Rattle.irs_schedule.specs.Private.Layouts.{IsKeptLayout}
use Rattle.irs_schedule.specs.Schedules.{events_of, payment_dates_of, resets_over, AreResetsIn}
use Rattle.irs_schedule.specs.Parts.{resets_in}
use Rattle.irs_schedule.specs.declared.layouts.Layout.{Layout}
use Rattle.irs_schedule.specs.declared.stream.StreamEvents.{StreamEvents}
use Rattle.irs_schedule.proofs.RateLemmas.{resets_are, resets_in_determined, with_rates}
use Rattle.irs_schedule.proofs.LayoutLemmas.{AreInRange, layout_adjusted_days, layout_covers, layout_days, layout_runs}

-- each list is in its relation
pub record AreEvents (sets : StreamSets) (fix : RateTable) (s : Stream) (l : Layout) (d : StreamEvents) : Type 0 where
  pub payments : ArePayments s sets.payment l.unadjusted l.adjusted d.payments
  pub exchanges : AreExchanges s sets.payment d.exchanges
  pub resets : AreResetsIn s.leg (resets_over sets s l) sets.applicable fix (with_rates d.resets d.rates)

module _ (sets : StreamSets) (fix : RateTable) (s : Stream) (l : Layout) where
  -- events that are answered are
  pub events_are : (d : StreamEvents) → (events_of sets fix s l).Answers d → AreEvents sets fix s l d
  events_are d h =
      let paid = h.1 in
      let xs = h.2.0 in
      let x : OvernightResets = h.2.2.0 in
      let made : StreamEvents = record { payments = h.0; exchanges = xs; resets = x.resets; rates = x.rates } in
      let are : AreEvents sets fix s l made = record {
        payments = subst (ArePayments s sets.payment l.unadjusted l.adjusted) (sym paid.2.2) paid.1.1;
        exchanges = h.2.1.1;
        resets = resets_are (resets_over sets s l) sets.applicable fix s.leg x h.2.2.1;
      } in
      subst (AreEvents sets fix s l) (sym h.2.2.2) are

  -- a stream has its events over its layout, or one first rule that they break
  pub events_determined : (cal : List Section) → IsLawfulStream s → TermsKept cal s → AreInRange sets
      → IsKeptLayout sets s l → Determined (events_of sets fix s l)
  events_determined cal lawful terms range is =
      let moved = layout_adjusted_days sets s lawful terms.dates l is range in
      then_determined (payment_dates_of sets s l) _
      (then_determined (payments_of s sets.payment l.unadjusted l.adjusted) _
      (payments_determined s sets.payment l.unadjusted l.adjusted
      (record {
        lawful = lawful;
        said = terms.said;
        run = layout_runs sets s lawful terms.dates l is;
        days = layout_days sets s lawful terms.dates l is;
        adjusted = moved;
        same_length = is.adjusted.same_length;
        range = range.payment;
      })) (λ payments _.
      then_determined (steps_of s l.unadjusted) _ (steps_determined s l.unadjusted) (λ _ _. answer_determined payments)))
      (λ payments _.
      then_determined (principals_of s sets.payment) _ (principals_determined s sets.payment lawful range.payment) (λ exchanges _.
      then_determined (resets_in s.leg (resets_over sets s l) sets.applicable fix) _
      (resets_in_determined (resets_over sets s l) sets.applicable fix terms.legs terms.said_reset
      (record { adjusted = moved; reset_set = range.reset; fixing_set = range.fixing }) s.leg refl) (λ x _.
      answer_determined
      (record { payments = payments; exchanges = exchanges; resets = x.resets; rates = x.rates }))))

  -- payments that are answered cover the periods
  pub events_cover : (cal : List Section) → IsLawfulStream s → TermsKept cal s → IsKeptLayout sets s l → (d : StreamEvents)
      → (events_of sets fix s l).Answers d → Covers 1 d.payments (length l.unadjusted - 1)
  events_cover cal lawful terms is d h =
      layout_covers sets s lawful terms.dates l is d.payments (AreEvents.payments (events_are d h))
