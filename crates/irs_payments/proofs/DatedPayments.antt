-- The dates of payments and of principal exchanges are days of the range, and exchanges are few and small.
use Rattle.std.proofs.Common.{◌≡◌, ℕ, zero, suc, ◌-◌, ◌*◌, ◌^◌, ◌≤◌, List, length, ℤ, pos, unsigned_abs, arith, sym}
use Rattle.std.proofs.Common.{subst}
use Rattle.irs_base.specs.Lists.{AreDays, Every}
use Rattle.irs_base.specs.Days.{IsDay}
use Rattle.irs_base.specs.Limits.{most_exchanges, most_notional, Rounded}
use Rattle.irs_base.specs.declared.line.Dec.{Dec}
use Rattle.irs_base.specs.declared.rounding.Direction.TheVariants.{Nearest}
use Rattle.irs_base.proofs.DayListLemmas.{day_at_day}
use Rattle.irs_base.proofs.EveryLemmas.{every_numbered, every_partner, pairs_length}
use Rattle.irs_base.proofs.RoundingLaws.{rounded_size}
use Rattle.irs_terms.specs.Lawful.{decimals_of, IsLawfulStream}
use Rattle.irs_terms.specs.declared.results.Exchange.{Exchange}
use Rattle.irs_terms.specs.declared.results.Payment.{Payment}
use Rattle.irs_terms.specs.declared.stream.Stream.{Stream}
use Rattle.irs_terms.proofs.CurrencyLemmas.{decimals_few}
use Rattle.irs_calendar.specs.GoodDays.{DaySet}
use Rattle.irs_adjust.proofs.FoundDays.{InRange, adjusts_day}
use Rattle.irs_adjust.proofs.MovedDays.{moves_day}
use Rattle.irs_payments.specs.Exchanges.{AreExchanges, IsExchange, transfers_of}
use Rattle.irs_payments.specs.Payments.{ArePayments, IsPayment}
use Rattle.irs_payments.specs.declared.exchanges.Transfer.{Transfer}
use Rattle.irs_payments.proofs.ExchangeLemmas.{small_transfers, few_transfers}
use Rattle.irs_payments.proofs.ExchangesThere.{IsDated, dated_transfers}

-- ---- payments

payment_dated : (s : Stream) (set : DaySet) (b a pay : List ℤ) → InRange set → AreDays b → AreDays a → (j : ℕ)
    (p : Payment) → IsPayment s set b a pay j p → IsDay p.unadjusted × IsDay p.adjusted
payment_dated s set b a pay range days moved j p h =
    let from = h.starts in
    let start : IsDay h.start = subst IsDay from.is (day_at_day a from.place moved) in
    let date = h.date in (
      subst IsDay from.at (day_at_day b from.place days),
      adjusts_day s.pay.adj.code set date.moved p.adjusted
          (moves_day s.pay.offset set h.start date.moved start range date.moves) range date.adjusts,
    )

-- the dates of payments are days in range
pub payments_dated : (s : Stream) (set : DaySet) (b a : List ℤ) (ps : List Payment) → InRange set → AreDays b
    → AreDays a → ArePayments s set b a ps → Every (λ p. IsDay p.unadjusted × IsDay p.adjusted) ps
payments_dated s set b a ps range days moved h =
    every_numbered (IsPayment s set b a h.pay) (λ (p : Payment). IsDay p.unadjusted × IsDay p.adjusted) 1 ps
    (payment_dated s set b a h.pay range days moved) h.each

-- ---- principal exchanges

-- 10^13 in units of 10^-4, rounded to a number of decimals
rounded_fits : (k : ℕ) (p m : ℤ) → k ≤ 3 → unsigned_abs p ≤ most_notional → Rounded Nearest p (pos (10 ^ (4 - k))) m
    → unsigned_abs m ≤ 10 ^ 14 * 10 ^ k
rounded_fits zero p m low size h = let r =
    rounded_size Nearest p m (10 ^ 4) (10 ^ 13) (omega arith) (omega (arith, size)) h in omega (arith, r)
rounded_fits (suc zero) p m low size h = let r =
    rounded_size Nearest p m (10 ^ 3) (10 ^ 14) (omega arith) (omega (arith, size)) h in omega (arith, r)
rounded_fits (suc (suc zero)) p m low size h = let r =
    rounded_size Nearest p m (10 ^ 2) (10 ^ 15) (omega arith) (omega (arith, size)) h in omega (arith, r)
rounded_fits (suc (suc (suc zero))) p m low size h = let r =
    rounded_size Nearest p m (10 ^ 1) (10 ^ 16) (omega arith) (omega (arith, size)) h in omega (arith, r)
rounded_fits (suc (suc (suc (suc k)))) p m low size h = absurd (omega (arith, low))

module _ (s : Stream) (set : DaySet) (xs : List Exchange) (lawful : IsLawfulStream s) (h : AreExchanges s set xs) where
  -- the dates of exchanges are days in range
  pub exchanges_dated : InRange set → Every (λ x. IsDay x.unadjusted × IsDay x.adjusted) xs
  exchanges_dated range =
      every_partner (IsExchange s set) IsDated (λ (x : Exchange). IsDay x.unadjusted × IsDay x.adjusted)
      (λ t x day is. (
        subst IsDay (sym is.unadjusted) day,
        adjusts_day s.pay.adj.code set t.date x.adjusted day range is.adjusted,
      )) (transfers_of s) xs (dated_transfers s lawful) h

  -- a stream has at most `most_exchanges` of them
  pub exchanges_few : length xs ≤ most_exchanges
  exchanges_few = let e = pairs_length (IsExchange s set) (transfers_of s) xs h in
      let few = few_transfers s lawful in omega (arith, e, few)

  -- each amount has the decimals of the currency, and at most 10^14 units of it
  pub exchanges_bounded : (P : Dec → Type 0)
      → ((v : Dec) → v.places ≡ decimals_of s.currency.letters → unsigned_abs v.units ≤ 10 ^ 14 * 10 ^ v.places → P v)
      → Every (λ x. P x.amount) xs
  exchanges_bounded P law =
      every_partner (IsExchange s set) (λ (t : Transfer). unsigned_abs t.amount ≤ most_notional)
      (λ (x : Exchange). P x.amount)
      (λ t x small is. law x.amount is.places
      (subst (λ (k : ℕ). unsigned_abs x.amount.units ≤ 10 ^ 14 * 10 ^ k) (sym is.places)
      (rounded_fits (decimals_of s.currency.letters) t.amount x.amount.units
      (decimals_few s.currency.letters) small is.amount)))
      (transfers_of s) xs (small_transfers s lawful) h
