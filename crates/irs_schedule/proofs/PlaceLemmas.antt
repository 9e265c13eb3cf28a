-- Amounts in rows have few places.
use Rattle.std.proofs.Common.{ℕ, ◌+◌, ◌-◌, List, [], ◌∷◌, map, arith, Bool, true, false, if◌then◌else◌, Option, Some}
use Rattle.std.proofs.Common.{None, IfSome}
use Rattle.std.specs.List.{range_with_len, flat_map, enumerate_from}
use Rattle.irs_base.specs.declared.line.Dec.{Dec}
use Rattle.irs_terms.specs.declared.currency.Currency.{Currency}
use Rattle.irs_terms.specs.declared.results.Exchange.{Exchange}
use Rattle.irs_schedule.specs.declared.entries.PaymentEntry.{PaymentEntry}
use Rattle.irs_schedule.specs.Parts.{Part, KeepsBounds, IsAmount, HasAmount, IsWithin}
use Rattle.irs_schedule.specs.RowsOf.{reset_row, period_rows, exchange_row, payment_rows, part_rows, rows_of}
use Rattle.irs_schedule.specs.RowsOf.{RowHasPlaces, IsFew}
use Rattle.irs_base.specs.Lists.{Every}
use Rattle.irs_base.proofs.EveryLemmas.{every_any, every_enumerated, every_flat}
pub use Rattle.irs_base.proofs.EveryLemmas.{every_both, every_map}
pub use Rattle.irs_terms.proofs.CurrencyLemmas.{decimals_few}

few : (currency : Currency) (v : Dec) → IsAmount currency v → IsFew v
few currency v h = omega (arith, h.places, decimals_few currency.letters)

few_if : (currency : Currency) (v : Option Dec) → IfSome v (IsAmount currency) → IfSome v IsFew
few_if currency None h = tt
few_if currency (Some v) h = few currency v h

resets_few : (b : Bool) (k : ℕ) (p : Part) (i : ℕ) → Every RowHasPlaces (if b then reset_row k p i ∷ [] else [])
resets_few true k p i = (tt, tt)
resets_few false k p i = tt

periods_few : (k : ℕ) (p : Part) (i : ℕ) → Every RowHasPlaces (period_rows k p i)
periods_few k p i = (tt, resets_few p.floating k p i)

payments_few : (k : ℕ) (p : Part) (y : ℕ × PaymentEntry) → HasAmount p.currency y.1
    → Every RowHasPlaces (payment_rows k p y)
payments_few k p y h =
    let first = y.1.first_period in
    let count = y.1.last_period + 1 - y.1.first_period in
    let Any : ℕ → Type 0 = λ _. Unit {0} in (
      few_if p.currency y.1.amount h,
      every_flat RowHasPlaces Any (period_rows k p) (λ i _. periods_few k p i) (range_with_len first count)
          (every_any Any (λ _. tt) (range_with_len first count)),
    )

part_few : (s : ℕ × Part) → KeepsBounds s.1 → Every RowHasPlaces (part_rows s)
part_few s h =
    let k = s.0 in
    let p = s.1 in
    let Exchanged : ℕ × Exchange → Type 0 = λ e. IsAmount p.currency e.1.amount in
    let Paid : ℕ × PaymentEntry → Type 0 = λ e. HasAmount p.currency e.1 in
    let xs = every_enumerated (λ (x : Exchange). IsAmount p.currency x.amount) 1 p.exchanges h.exchanged in
    let ys = every_enumerated (HasAmount p.currency) 1 p.payments h.paid in (
      tt,
      every_both RowHasPlaces (map (exchange_row k) (enumerate_from 1 p.exchanges))
          (flat_map (payment_rows k p) (enumerate_from 1 p.payments))
          (every_map RowHasPlaces Exchanged (exchange_row k) (λ x a. few p.currency x.1.amount a)
          (enumerate_from 1 p.exchanges) xs)
          (every_flat RowHasPlaces Paid (payment_rows k p) (payments_few k p) (enumerate_from 1 p.payments) ys),
    )

-- each row of a schedule can be written
pub rows_few : (s : List Part) → IsWithin s → Every RowHasPlaces (rows_of s)
unfolding rows_of
rows_few s h =
    every_flat RowHasPlaces (λ (e : ℕ × Part). KeepsBounds e.1) part_rows part_few (enumerate_from 1 s)
    (every_enumerated KeepsBounds 1 s h.each)
