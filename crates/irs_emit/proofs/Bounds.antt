-- What each row of a schedule keeps.
use Rattle.irs_base.proofs.MemberLemmas.{every_get}
use Rattle.irs_base.specs.Lists.{Every}
use Rattle.irs_base.specs.declared.line.Dec.{Dec}
use Rattle.irs_daycount.specs.Fractions.{denominator_of}
use Rattle.irs_emit.specs.Private.Texts.{IsPaid}
use Rattle.irs_schedule.proofs.PlaceLemmas.{decimals_few}
use Rattle.irs_schedule.specs.Parts.{Part, EntriesCover, KeepsBounds, IsAmount, HasAmount, IsEntry}
use Rattle.irs_schedule.specs.RowsOf.{period_at, dated_period}
use Rattle.irs_schedule.specs.declared.entries.PaymentEntry.{PaymentEntry}
use Rattle.irs_schedule.specs.declared.entries.PeriodEntry.{PeriodEntry}
use Rattle.irs_schedule.specs.declared.views.CalculationPeriod.{CalculationPeriod}
use Rattle.irs_terms.specs.declared.codes.DayCountCode.{DayCountCode}
use Rattle.irs_terms.specs.declared.codes.DayCountCode.TheVariants.{OneOne, ActActIsda, Act365Fixed, Act360, Thirty360}
use Rattle.irs_terms.specs.declared.codes.DayCountCode.TheVariants.{ThirtyE360, ThirtyE360Isda}
use Rattle.irs_terms.specs.declared.currency.Currency.{Currency}
use Rattle.irs_terms.specs.declared.results.Exchange.{Exchange}
use Rattle.jiff_core.proofs.SignedLemmas.{signed_arith}
use Rattle.std.proofs.Common.{◌≡◌, ℕ, ◌+◌, ◌<◌, ◌≤◌, List, [], ◌∷◌, length, get_or, Option, Some, ℤ, pos, ◌<ℤ◌, inl}
use Rattle.std.proofs.Common.{inr, sym, ap, ◌∙◌, subst, arith, Bool}
use Rattle.std.proofs.lemmas.Option.{slice_get_cases, slice_get-get_or, IfSome_then}
use Rattle.std.specs.Prelude.{slice_get, unwrap_or}

-- an amount of a currency has at most 12 decimals
pub few : (currency : Currency) (v : Dec) → IsAmount currency v → v.places ≤ 12
few currency v h = let e = h.places in let l = decimals_few currency.letters in omega (arith, e, l)

-- the amount of an exchange has at most 12 decimals
pub exchange_few : (p : Part) (j : ℕ) (x : Exchange) → KeepsBounds p → slice_get p.exchanges j ≡ Some x
    → x.amount.places ≤ 12
exchange_few p j x h e =
    few p.currency x.amount (every_get (λ (y : Exchange). IsAmount p.currency y.amount) p.exchanges j x h.exchanged e)

ordered : (a n : ℕ) (ys : List PaymentEntry) → 1 ≤ a → EntriesCover a ys n
    → Every (λ (y : PaymentEntry). (1 ≤ y.first_period) × (y.first_period ≤ y.last_period)) ys
ordered a n [] l h = tt
ordered a n (y ∷ ys) l h = ((omega (arith, h.0), h.1), ordered (y.last_period + 1) n ys (omega arith) h.2)

-- a payment of the schedule pays periods of it
pub payment_kept : (p : Part) (j : ℕ) (y : PaymentEntry) → KeepsBounds p → slice_get p.payments j ≡ Some y → IsPaid y
payment_kept p j y h e =
    let order = every_get (λ (y : PaymentEntry). (1 ≤ y.first_period)
    × (y.first_period ≤ y.last_period)) p.payments j y
    (ordered 1 (length p.periods) p.payments (omega arith) h.covers) e in
    record {
      first = order.0;
      order = order.1;
      decimals =
          IfSome_then y.amount (every_get (HasAmount p.currency) p.payments j y h.paid e) (few p.currency);
    }

-- the denominator of a day count is above 0
pub above_zero : (code : DayCountCode) → pos 0 <ℤ denominator_of code
above_zero OneOne = omega (arith, signed_arith)
above_zero ActActIsda = omega (arith, signed_arith)
above_zero Act365Fixed = omega (arith, signed_arith)
above_zero Act360 = omega (arith, signed_arith)
above_zero Thirty360 = omega (arith, signed_arith)
above_zero ThirtyE360 = omega (arith, signed_arith)
above_zero ThirtyE360Isda = omega (arith, signed_arith)

entry_above : (daily : Bool) (code : DayCountCode) (e : PeriodEntry) → IsEntry daily code e → pos 0 <ℤ e.frac.den
entry_above daily code e h = subst (λ (d : ℤ). pos 0 <ℤ d) (sym h.denominator) (above_zero code)

-- the denominator of a period's fraction is above 0
pub period_above : (p : Part) (j : ℕ) (x : CalculationPeriod) → KeepsBounds p → period_at p j ≡ Some x
    → pos 0 <ℤ x.frac.den
period_above p j x h e = elim (slice_get_cases p.periods j).1 [
  | inl w ↦
      let there = w.2 in
      let same : Some (dated_period p (j + 1) w.0) ≡ Some x = rw there at e in
      subst (λ (d : ℤ). pos 0 <ℤ d) (ap (λ (o : Option CalculationPeriod). (unwrap_or o x).frac.den) same)
      (entry_above p.daily p.day_count w.0 (every_get (IsEntry p.daily p.day_count) p.periods j w.0 h.entries there))
  | inr w ↦ absurd (let none = w.1 in let bad = rw none at e in cc)
]

-- the payment at an index pays periods of the schedule
pub paid_at : (p : Part) (rows : List PaymentEntry) (j : ℕ) (y : PaymentEntry) → KeepsBounds p → rows ≡ p.payments
    → j < length rows → y ≡ get_or rows j y → IsPaid y
paid_at p rows j y h same l e =
    payment_kept p j y h (ap (λ ys. slice_get ys j) (sym same) ∙ slice_get-get_or rows j y l ∙ ap Some (sym e))
