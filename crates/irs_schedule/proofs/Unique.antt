-- A stream has at most one list of periods, and at most one amount for each payment.
use Rattle.std.proofs.Common.{ℤ, ◌≡◌, ℕ, ◌-◌, ◌<◌, ◌==◌, List, length, map, Option, Some, None, option_map, refl, sym}
use Rattle.std.proofs.Common.{ap, ap₂, subst, ◌∙◌, arith}
use Rattle.irs_base.specs.declared.line.Dec.{Dec}
use Rattle.irs_base.specs.Lists.{AreDays, IsRising, Every, day_at}
use Rattle.irs_base.proofs.CoverLemmas.{LieAmong}
use Rattle.irs_base.proofs.EveryLemmas.{one_made}
use Rattle.irs_base.proofs.MemberLemmas.{one_numbered}
use Rattle.irs_terms.specs.Lawful.{decimals_of}
use Rattle.irs_terms.specs.Private.TermDates.{AllStepsRise}
use Rattle.irs_terms.specs.declared.results.Payment.{Payment}
use Rattle.irs_terms.specs.declared.stream.Stream.{Stream}
use Rattle.irs_daycount.specs.Private.FractionLaws.{one_fraction, one_days}
use Rattle.irs_compound.specs.Private.AmountLaws.{one_amount as one_units}
use Rattle.irs_compound.specs.Private.RateLaws.{one_in_force, one_rates_in}
use Rattle.irs_compound.specs.Private.AmountLaws.{AllFractions}
use Rattle.irs_compound.specs.declared.periods.PeriodTerm.{PeriodTerm}
use Rattle.irs_schedule.specs.declared.entries.PaymentEntry.{PaymentEntry}
use Rattle.irs_schedule.specs.declared.entries.PeriodEntry.{PeriodEntry}
use Rattle.irs_schedule.specs.Schedules.{observed_of, StreamDates, rate_in, IsPeriodTerm, IsPeriodEntry, AreTerms}
use Rattle.irs_schedule.specs.Schedules.{IsAmountBy, IsAmountFor, dec_of, IsPaymentEntry, payment_of}
use Rattle.irs_schedule.proofs.RateLemmas.{AreAbove}
use Rattle.irs_schedule.proofs.TermsThere.{terms_fit}

-- the same periods pay one amount
one_by_terms : (s : Stream) (ts : List PeriodTerm) (x y : Option Dec) → AllFractions ts → IsAmountBy s ts x
    → IsAmountBy s ts y → x ≡ y
one_by_terms s ts None None fits h k = refl
one_by_terms s ts None (Some w) fits h k =
    let e = one_units s.compounding ts (decimals_of s.currency.letters) None (Some w.units) fits h k.1 in absurd (cc)
one_by_terms s ts (Some v) None fits h k =
    let e = one_units s.compounding ts (decimals_of s.currency.letters) (Some v.units) None fits h.1 k in absurd (cc)
one_by_terms s ts (Some v) (Some w) fits h k =
    let e =
    one_units s.compounding ts (decimals_of s.currency.letters) (Some v.units) (Some w.units) fits h.1 k.1 in
    let units : v.units ≡ w.units = cc in
    ap₂ (λ (p : ℕ) (u : ℤ). Some (dec_of p u)) (h.0 ∙ sym k.0) units

module _ (d : StreamDates) (rises : AllStepsRise d.stream) (above : AreAbove d.rates) where
  one_term : (i : ℕ) (t u : PeriodTerm) → IsPeriodTerm d i t → IsPeriodTerm d i u → t ≡ u
  one_term i t u h k =
      let s = d.stream in
      let start = day_at d.unadjusted (i - 1) in
      let a = d.adjusted in
      let notional = one_in_force s.notional start t.notional u.notional rises.0 h.notional k.notional in
      let rates =
      one_rates_in s.leg start (observed_of d.resets i) (rate_in d.rates i) t.rates u.rates rises.1 (above i) h.rates k.rates in
      let frac =
      one_fraction s.day_count (day_at a (i - 1)) (day_at a i) (i == length a - 1) t.frac u.frac h.frac k.frac in
      λ j. record { notional = notional j; rates = rates j; frac = frac j }

  -- a period has one entry
  pub one_entry : (i : ℕ) (e f : PeriodEntry) → IsPeriodEntry d i e → IsPeriodEntry d i f → e ≡ f
  one_entry i e f h k =
      let a = d.adjusted in
      let terms : h.term ≡ k.term = one_term i h.term k.term h.is_term k.is_term in
      let days =
      one_days d.stream.day_count (day_at a (i - 1)) (day_at a i) (i == length a - 1) e.days f.days h.days k.days in
      let frac : e.frac ≡ f.frac = h.frac ∙ ap (λ (t : PeriodTerm). t.frac) terms ∙ sym k.frac in
      let notional : e.notional ≡ f.notional =
      h.notional ∙ ap (λ (t : PeriodTerm). t.notional) terms ∙ sym k.notional in
      let rate : e.rate ≡ f.rate =
      h.rate ∙ ap (λ (t : PeriodTerm). option_map (λ r. r.all_in) t.rates) terms ∙ sym k.rate in
      λ j. record { days = days j; frac = frac j; notional = notional j; rate = rate j }

  -- the terms of a payment are one list
  pub one_terms : (p : Payment) (ts us : List PeriodTerm) → AreTerms d p ts → AreTerms d p us → ts ≡ us
  one_terms p ts us h k =
      one_numbered (IsPeriodTerm d) one_term p.first_period ts us (omega (arith, h.count, k.count)) h.each k.each

  module _ (days : AreDays d.adjusted) (rising : IsRising d.adjusted) (last : ℕ) (high : last < length d.adjusted) where
    -- a payment of these periods has one amount
    one_amount : (p : Payment) (x y : Option Dec) → LieAmong 1 last p.first_period p.last_period → IsAmountFor d p x
        → IsAmountFor d p y → x ≡ y
    one_amount p x y lies h k =
        let same : k.terms ≡ h.terms = one_terms p k.terms h.terms k.are_terms h.are_terms in
        one_by_terms d.stream h.terms x y
        (terms_fit d rising days p.first_period h.terms lies.from (omega (arith, h.are_terms.count, lies.to, high))
        h.are_terms.each) h.is_amount
        (subst (λ (ts : List PeriodTerm). IsAmountBy d.stream ts y) same k.is_amount)

    -- equal payments have equal amounts
    one_paid : (x y : PaymentEntry) → LieAmong 1 last x.first_period x.last_period → payment_of x ≡ payment_of y
        → IsPaymentEntry d x → IsPaymentEntry d y → x ≡ y
    one_paid x y lies same h k =
        let amount = one_amount (payment_of x) x.amount y.amount lies h
        (subst (λ (p : Payment). IsAmountFor d p y.amount) (sym same) k) in
        λ i. record {
          unadjusted = (same i).unadjusted;
          adjusted = (same i).adjusted;
          first_period = (same i).first_period;
          last_period = (same i).last_period;
          amount = amount i;
        }

    -- payments have one list of amounts
    pub all_one_paid : (xs ys : List PaymentEntry) → map payment_of xs ≡ map payment_of ys
        → Every (λ (p : Payment). LieAmong 1 last p.first_period p.last_period) (map payment_of xs)
        → Every (IsPaymentEntry d) xs → Every (IsPaymentEntry d) ys → xs ≡ ys
    all_one_paid =
        one_made payment_of (λ (p : Payment). LieAmong 1 last p.first_period p.last_period) (IsPaymentEntry d) one_paid
