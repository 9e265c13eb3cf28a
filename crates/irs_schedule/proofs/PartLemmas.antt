-- What a part keeps.
use Rattle.std.proofs.Common.{◌≡◌, ◌-◌, length, arith}
use Rattle.irs_base.specs.Lists.{AreDays}
use Rattle.irs_schedule.specs.declared.streams.StreamPart.TheInside.{Inside}
use Rattle.irs_schedule.specs.Views.{IsKept, part_of}
use Rattle.irs_schedule.specs.Private.Layouts.{MakePart}
use Rattle.irs_schedule.proofs.PeriodLemmas.{length_periods, entries_within}

-- what a part keeps, from what it is made of
pub kept : (s : Inside) → MakePart s.terms s.unadjusted s.adjusted s.exchanges s.payments s.resets s.rates
    → AreDays s.unadjusted → AreDays s.adjusted → length s.terms.currency.letters ≡ 3 → IsKept s
kept s h days moved three =
    let count : length (part_of s).periods ≡ length s.unadjusted - 1 =
    rw (← h.same_count) (length_periods s.terms s.unadjusted s.adjusted s.resets s.rates) in
    record {
      notional = h.notional;
      leg = h.leg;
      notional_rises = h.notional_rises;
      leg_rises = h.leg_rises;
      rates = h.rates;
      bounds = record {
        currency = record { three = three; capitals = h.currency };
        dates = record {
          unadjusted = days;
          adjusted = moved;
          exchanges = h.exchange_days;
          payments =
              h.payment_days;
          resets = h.reset_days;
        };
        some = omega (arith, count, h.some);
        few = omega (arith, count, h.few);
        unadjusted = omega (arith, count, h.some);
        adjusted = omega (arith, count, h.some, h.same_count);
        rises = h.rises;
        adjusted_rises = h.adjusted_rises;
        covers = rw count h.covers;
        exchanges = h.exchanges_few;
        exchanged = h.exchanged;
        paid = h.paid;
        entries = entries_within s.terms s.unadjusted s.adjusted s.resets s.rates h.notional h.leg h.rates moved
            h.adjusted_rises;
        resets = rw count h.resets_count;
        observed = h.rates.observed;
      };
    }
