-- What each row of a schedule keeps.
use Rattle.std.proofs.Common.{◌≡◌, ℕ, ◌+◌, ◌≤◌, List, [], ◌∷◌, length, Option, Some, ℤ, pos, ◌<ℤ◌, ◌≤ℤ◌, inl, inr, sym}
use Rattle.std.proofs.Common.{ap, subst, arith, Bool}
use Rattle.std.specs.Prelude.{slice_get, unwrap_or}
use Rattle.std.proofs.lemmas.Option.{slice_get_cases, IfSome_then}
use Rattle.jiff_core.proofs.SignedLemmas.{signed_arith}
use Rattle.irs_base.specs.declared.line.Dec.{Dec}
use Rattle.irs_terms.specs.declared.codes.DayCountCode.{DayCountCode}
use Rattle.irs_terms.specs.declared.codes.DayCountCode.TheVariants.{OneOne, ActActIsda, Act365Fixed, Act360, Thirty360}
use Rattle.irs_terms.specs.declared.codes.DayCountCode.TheVariants.{ThirtyE360, ThirtyE360Isda}
use Rattle.irs_terms.specs.declared.currency.Currency.{Currency}
use Rattle.irs_terms.specs.declared.results.Exchange.{Exchange}
use Rattle.irs_terms.specs.declared.results.Frac.{Frac}
use Rattle.irs_daycount.specs.Fractions.{denominator_of, act_act_denominator}
use Rattle.irs_schedule.specs.declared.entries.PaymentEntry.{PaymentEntry}
use Rattle.irs_schedule.specs.declared.entries.PeriodEntry.{PeriodEntry}
use Rattle.irs_schedule.specs.declared.views.CalculationPeriod.{CalculationPeriod}
use Rattle.irs_schedule.specs.Parts.{Part, EntriesCover, KeepsBounds, IsAmount, HasAmount, IsEntry}
use Rattle.irs_schedule.specs.RowsOf.{period_at, dated_period}
use Rattle.irs_schedule.proofs.PlaceLemmas.{decimals_few}
use Rattle.irs_schedule.proofs.WalkLemmas.{covers_within}
use Rattle.irs_audit.specs.StatedFlows.{IsBoundedFraction}
use Rattle.irs_audit.specs.Private.Comparisons.{IsComparedPayment}
use Rattle.irs_base.proofs.MemberLemmas.{every_get}
use Rattle.irs_base.specs.Lists.{Every}

few : (currency : Currency) (v : Dec) → IsAmount currency v → v.places ≤ 12
few currency v h = let e = h.places in let l = decimals_few currency.letters in omega (arith, e, l)

-- the amount of an exchange has at most 12 decimals
pub exchange_decimals : (p : Part) (j : ℕ) (x : Exchange) → KeepsBounds p → slice_get p.exchanges j ≡ Some x
    → x.amount.places ≤ 12
exchange_decimals p j x h e =
    few p.currency x.amount (every_get (λ (y : Exchange). IsAmount p.currency y.amount) p.exchanges j x h.exchanged e)

ordered : (a n : ℕ) (ys : List PaymentEntry) → EntriesCover a ys n
    → Every (λ (y : PaymentEntry). (y.first_period ≤ y.last_period) × (y.last_period ≤ n)) ys
ordered a n [] h = tt
ordered a n (y ∷ ys) h = let l = covers_within (y.last_period + 1) n ys h.2 in
    ((h.1, omega (arith, l)), ordered (y.last_period + 1) n ys h.2)

-- a payment of a schedule has its periods in order and within the limit
pub payment_kept : (p : Part) (j : ℕ) (y : PaymentEntry) → KeepsBounds p → slice_get p.payments j ≡ Some y → IsComparedPayment y
payment_kept p j y h e =
    let order = every_get (λ (y : PaymentEntry). (y.first_period ≤ y.last_period)
    × (y.last_period ≤ length p.periods)) p.payments j y (ordered 1 (length p.periods) p.payments h.covers) e in
    let last = order.1 in
    let count = h.few in
    record {
      order = order.0;
      last = omega (arith, last, count);
      decimals = IfSome_then y.amount (every_get (HasAmount p.currency) p.payments j y h.paid e) (few p.currency);
    }

-- payments that cover the periods are at most as many as these
covering_few : (a n : ℕ) (ys : List PaymentEntry) → EntriesCover a ys n → length ys + a ≤ n + 1
covering_few a n [] h = omega (arith, h)
covering_few a n (y ∷ ys) h = omega (arith, h.0, h.1, covering_few (y.last_period + 1) n ys h.2)

-- a stream has at most as many payments as periods
pub payments_few : (p : Part) → KeepsBounds p → length p.payments ≤ length p.periods
payments_few p h = let few = covering_few 1 (length p.periods) p.payments h.covers in omega (arith, few)

small_denominator : (code : DayCountCode) → (pos 0 <ℤ denominator_of code)
    × (denominator_of code ≤ℤ pos act_act_denominator)
small_denominator OneOne = (omega (arith, signed_arith), omega (arith, signed_arith))
small_denominator ActActIsda = (omega (arith, signed_arith), omega (arith, signed_arith))
small_denominator Act365Fixed = (omega (arith, signed_arith), omega (arith, signed_arith))
small_denominator Act360 = (omega (arith, signed_arith), omega (arith, signed_arith))
small_denominator Thirty360 = (omega (arith, signed_arith), omega (arith, signed_arith))
small_denominator ThirtyE360 = (omega (arith, signed_arith), omega (arith, signed_arith))
small_denominator ThirtyE360Isda = (omega (arith, signed_arith), omega (arith, signed_arith))

small_entry : (daily : Bool) (code : DayCountCode) (e : PeriodEntry) → IsEntry daily code e → IsBoundedFraction e.frac
small_entry daily code e h =
    let D : ℤ → Type 0 = λ d. (pos 0 <ℤ d) × (d ≤ℤ pos act_act_denominator) in
    record { numerator = h.numerator; denominator = subst D (sym h.denominator) (small_denominator code) }

-- the day count fraction of a period is within the bounds
pub period_small : (p : Part) (j : ℕ) (x : CalculationPeriod) → KeepsBounds p → period_at p j ≡ Some x → IsBoundedFraction x.frac
period_small p j x h e = elim (slice_get_cases p.periods j).1 [
  | inl w ↦
      let there = w.2 in
      let same : Some (dated_period p (j + 1) w.0) ≡ Some x = rw there at e in
      let P : Frac → Type 0 = λ f. IsBoundedFraction f in
      subst P (ap (λ (o : Option CalculationPeriod). (unwrap_or o x).frac) same)
      (small_entry p.daily p.day_count w.0 (every_get (IsEntry p.daily p.day_count) p.periods j w.0 h.entries there))
  | inr w ↦ absurd (let none = w.1 in let bad = rw none at e in cc)
]
