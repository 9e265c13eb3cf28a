-- What every schedule keeps lets each of its numbers be stated.
use Rattle.std.proofs.Common.{◌≡◌, ℕ, ◌+◌, ◌-◌, ◌*◌, ◌^◌, ◌<◌, ◌≤◌, Option, Some, ℤ, pos, negsuc, unsigned_abs, arith, Bool, true, false}
use Rattle.std.proofs.Common.{ap, subst, inl, inr}
use Rattle.std.specs.Prelude.{slice_get, unwrap_or, IfSome}
use Rattle.std.proofs.lemmas.Option.{slice_get_cases, IfSome_then}
use Rattle.std.proofs.Math.Nat.{mul-le-mul}
use Rattle.jiff_core.proofs.SignedLemmas.{signed_arith}
use Rattle.irs_base.specs.declared.line.Dec.{Dec}
use Rattle.irs_terms.specs.Lawful.{IsNotional}
use Rattle.irs_terms.specs.declared.currency.Currency.{Currency}
use Rattle.irs_terms.specs.declared.results.Exchange.{Exchange}
use Rattle.irs_terms.specs.declared.results.Reset.{Reset}
use Rattle.irs_schedule.proofs.PlaceLemmas.{decimals_few}
use Rattle.irs_schedule.specs.declared.entries.PaymentEntry.{PaymentEntry}
use Rattle.irs_schedule.specs.declared.entries.PeriodEntry.{PeriodEntry}
use Rattle.irs_schedule.specs.declared.views.CalculationPeriod.{CalculationPeriod}
use Rattle.irs_schedule.specs.Parts.{Part, KeepsBounds, IsAmount, HasAmount, IsEntry, most_entry_rate, HasObserved}
use Rattle.irs_schedule.specs.Parts.{most_observed_rate}
use Rattle.irs_schedule.specs.RowsOf.{period_at, dated_period}
use Rattle.irs_audit.specs.StatedFlows.{IsStatable, IsStatableDec}
use Rattle.irs_audit.specs.Private.Comparisons.{IsStatablePeriod, IsStatableRate}
use Rattle.irs_base.proofs.MemberLemmas.{every_get}
use Rattle.irs_audit.proofs.ValueLemmas.{both_powers}

-- a number that can be stated fits 128 bits in units of 10^-12
pub statable_fits : (u : ℤ) (p : ℕ) → IsStatable u p → unsigned_abs u * unsigned_abs (pos (10 ^ (12 - p))) < 2 ^ 127
statable_fits u p h =
    let product : unsigned_abs u * 10 ^ (12 - p) ≤ 10 ^ 14 * 10 ^ p * 10 ^ (12 - p) = mul-le-mul h.size (omega arith) in
    let power = both_powers p h.decimals in
    omega (arith, product, power)

amount_statable : (currency : Currency) (v : Dec) → IsAmount currency v → IsStatableDec v
amount_statable currency v h =
    record { decimals = omega (arith, h.places, decimals_few currency.letters); size = h.size }

-- a notional can be stated
pub notional_statable : (n : ℤ) → IsNotional n → IsStatable n 4
notional_statable (pos n) h = record { decimals = omega arith; size = omega (arith, signed_arith, h) }
notional_statable (negsuc n) h = absurd (omega (arith, signed_arith, h))

-- a rate of a period can be stated
pub rate_statable : (daily : Bool) (r : ℤ) → unsigned_abs r ≤ most_entry_rate daily → IsStatableRate r
rate_statable true r h = record { decimals = omega arith; size = omega (arith, h) }
rate_statable false r h = record { decimals = omega arith; size = omega (arith, h) }

observed_statable : (daily : Bool) (r : ℤ) → unsigned_abs r ≤ most_observed_rate daily → IsStatableRate r
observed_statable true r h = record { decimals = omega arith; size = omega (arith, h) }
observed_statable false r h = record { decimals = omega arith; size = omega (arith, h) }

-- the amount of an exchange can be stated
pub exchange_statable : (p : Part) (j : ℕ) (x : Exchange) → KeepsBounds p → slice_get p.exchanges j ≡ Some x
    → IsStatableDec x.amount
exchange_statable p j x h e =
    amount_statable p.currency x.amount
    (every_get (λ (y : Exchange). IsAmount p.currency y.amount) p.exchanges j x h.exchanged e)

-- the amount of a payment can be stated
pub payment_statable : (p : Part) (j : ℕ) (y : PaymentEntry) → KeepsBounds p → slice_get p.payments j ≡ Some y
    → IfSome y.amount IsStatableDec
payment_statable p j y h e =
    IfSome_then y.amount (every_get (HasAmount p.currency) p.payments j y h.paid e) (amount_statable p.currency)

-- the observed rate of a reset can be stated
pub reset_statable : (p : Part) (j : ℕ) (r : Reset) → KeepsBounds p → slice_get p.resets j ≡ Some r
    → IfSome r.observed IsStatableRate
reset_statable p j r h e =
    IfSome_then r.observed (every_get (HasObserved p.daily) p.resets j r h.observed e) (observed_statable p.daily)

entry_statable : (p : Part) (j : ℕ) (e : PeriodEntry) → IsEntry p.daily p.day_count e
    → IsStatablePeriod (dated_period p (j + 1) e)
entry_statable p j e h =
    record { notional = notional_statable e.notional h.notional; rate = IfSome_then e.rate h.rate (rate_statable p.daily) }

-- the numbers of a calculation period can be stated
pub period_statable : (p : Part) (j : ℕ) (x : CalculationPeriod) → KeepsBounds p → period_at p j ≡ Some x
    → IsStatablePeriod x
period_statable p j x h e = elim (slice_get_cases p.periods j).1 [
  | inl w ↦
      let there = w.2 in
      let same : Some (dated_period p (j + 1) w.0) ≡ Some x = rw there at e in
      let P : CalculationPeriod → Type 0 = λ y. IsStatablePeriod y in
      subst P (ap (λ (o : Option CalculationPeriod). unwrap_or o x) same)
      (entry_statable p j w.0 (every_get (IsEntry p.daily p.day_count) p.periods j w.0 h.entries there))
  | inr w ↦ absurd (let none = w.1 in let bad = rw none at e in cc)
]
