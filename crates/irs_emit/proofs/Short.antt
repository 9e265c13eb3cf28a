-- The rows of every schedule are short. Their dates are days, their currency is three capital letters, and their
-- numbers have at most 18 digits before the point.
use Rattle.std.proofs.Common.{◌≡◌, ℕ, zero, suc, ◌+◌, ◌-◌, ◌*◌, ◌/◌, ◌^◌, ◌<◌, ◌≤◌, ◌==◌, true, List, [], ◌∷◌, length}
use Rattle.std.proofs.Common.{All, Option, Some, None, IfSome, option_map, ℤ, pos, negsuc, ◌*ℤ◌, ◌≤ℤ◌, unsigned_abs}
use Rattle.std.proofs.Common.{refl, sym, subst, arith, Bool, false}
use Rattle.std.specs.Prelude.{slice_get}
use Rattle.std.specs.List.{list_all}
use Rattle.std.proofs.Math.Nat.{div-le_of_le-mul}
use Rattle.std.proofs.lemmas.Bool.Decides.{nat_tests}
use Rattle.std.proofs.lemmas.List.Elements.{All-head, All-tail}
use Rattle.std.proofs.lemmas.Option.{IfSome_then}
use Rattle.jiff_core.proofs.SignedLemmas.{signed_arith}
use Rattle.irs_base.proofs.DayListLemmas.{day_at_day}
use Rattle.irs_base.proofs.RoundingLaws.{rounded_is}
use Rattle.irs_base.specs.Limits.{most_numerator, Rounded, rounded}
use Rattle.irs_base.specs.Lists.{Every}
use Rattle.irs_base.specs.declared.line.Dec.{Dec}
use Rattle.irs_base.specs.declared.rounding.Direction.TheVariants.{Nearest}
use Rattle.irs_terms.specs.Lawful.{IsNotional}
use Rattle.irs_terms.specs.declared.codes.DayCountCode.{DayCountCode}
use Rattle.irs_terms.specs.declared.codes.DayCountCode.TheVariants.{OneOne, ActActIsda, Act365Fixed, Act360, Thirty360}
use Rattle.irs_terms.specs.declared.codes.DayCountCode.TheVariants.{ThirtyE360, ThirtyE360Isda}
use Rattle.irs_terms.specs.declared.currency.Currency.{Currency}
use Rattle.irs_terms.specs.declared.results.Exchange.{Exchange}
use Rattle.irs_daycount.specs.Fractions.{denominator_of}
use Rattle.irs_elements.proofs.Exact.{true_both}
use Rattle.irs_elements.specs.Leaves.{is_capital, is_currency}
use Rattle.irs_audit.specs.StatedFlows.{stated_fraction}
use Rattle.irs_emit.proofs.Bounds.{above_zero, few}
use Rattle.irs_emit.specs.RowLaws.{IsPartShort, IsExchangeShort, IsPaymentShort, IsPeriodShort, IsResetShort}
use Rattle.irs_emit.specs.RowLaws.{IsShortNumber, IsShortAmount, IsShortRate}
use Rattle.irs_schedule.proofs.WalkLemmas.{covers_within}
use Rattle.irs_schedule.specs.Parts.{EntriesCover, HasAmount, HasDays, IsAmount, IsCode, IsDatedExchange}
use Rattle.irs_schedule.specs.Parts.{IsDatedPayment, IsDatedReset, IsEntry, KeepsBounds, Part, most_entry_rate}
use Rattle.irs_schedule.specs.Parts.{HasObserved, most_observed_rate}
use Rattle.irs_schedule.specs.RowsOf.{dated_period, period_at}
use Rattle.irs_schedule.specs.declared.entries.PaymentEntry.{PaymentEntry}
use Rattle.irs_schedule.specs.declared.entries.PeriodEntry.{PeriodEntry}

-- ---- lists

both : {X : Type 0} (P Q R : X → Type 0) (xs : List X) → ((x : X) → P x → Q x → R x) → Every P xs → Every Q xs
    → Every R xs
both P Q R [] law h k = tt
both P Q R (x ∷ xs) law h k = (law x h.0 k.0, both P Q R xs law h.1 k.1)

at_place : {X : Type 0} (P : X → Type 0) (xs : List X) (j : ℕ) → Every P xs → IfSome (slice_get xs j) P
at_place P [] j h = tt
at_place P (x ∷ xs) zero h = h.0
at_place P (x ∷ xs) (suc j) h = at_place P xs j h.1

of_map : {X Y : Type 0} (f : X → Y) (Q : Y → Type 0) (o : Option X) → IfSome o (λ x. Q (f x))
    → IfSome (option_map f o) Q
of_map f Q None h = tt
of_map f Q (Some x) h = h

-- ---- numbers

amount_short : (currency : Currency) (v : Dec) → IsAmount currency v → IsShortAmount v
amount_short currency v h =
    let size : unsigned_abs v.units ≤ 10 ^ v.places * 10 ^ 14 = let s = h.size in omega (arith, s) in
    let quotient : unsigned_abs v.units / 10 ^ v.places ≤ 10 ^ 14 = div-le_of_le-mul (10 ^ v.places) size in
    (few currency v h, omega (arith, quotient))

notional_short : (n : ℤ) → IsNotional n → IsShortNumber n 4
notional_short (pos n) h = omega (arith, signed_arith, h)
notional_short (negsuc n) h = absurd (omega (arith, signed_arith, h))

rate_short : (daily : Bool) (r : ℤ) → unsigned_abs r ≤ most_entry_rate daily → IsShortRate r
rate_short true r h = omega (arith, h)
rate_short false r h = omega (arith, h)

observed_short : (daily : Bool) (r : ℤ) → unsigned_abs r ≤ most_observed_rate daily → IsShortRate r
observed_short true r h = omega (arith, h)
observed_short false r h = omega (arith, h)

days_short : (n : ℤ) → (pos 0 ≤ℤ n) × (n ≤ℤ pos most_numerator) → unsigned_abs n < 10 ^ 9
days_short (pos n) h = omega (arith, signed_arith, h)
days_short (negsuc n) h = absurd (omega (arith, signed_arith, h))

-- a number from 0 to 10^18
abbrev IsFew : ℤ → Type 0
IsFew m = (pos 0 ≤ℤ m) × (m ≤ℤ pos (10 ^ 18))

few_short : (m : ℤ) → IsFew m → IsShortNumber m 10
few_short (pos n) h = omega (arith, signed_arith, h)
few_short (negsuc n) h = absurd (omega (arith, signed_arith, h))

over_code : (code : DayCountCode) (num m : ℤ) → (pos 0 ≤ℤ num) × (num ≤ℤ pos most_numerator)
    → Rounded Nearest (num *ℤ pos (10 ^ 10)) (denominator_of code) m → IsFew m
over_code OneOne num m h r = (omega (arith, signed_arith, h, r), omega (arith, signed_arith, h, r))
over_code ActActIsda num m h r = (omega (arith, signed_arith, h, r), omega (arith, signed_arith, h, r))
over_code Act365Fixed num m h r = (omega (arith, signed_arith, h, r), omega (arith, signed_arith, h, r))
over_code Act360 num m h r = (omega (arith, signed_arith, h, r), omega (arith, signed_arith, h, r))
over_code Thirty360 num m h r = (omega (arith, signed_arith, h, r), omega (arith, signed_arith, h, r))
over_code ThirtyE360 num m h r = (omega (arith, signed_arith, h, r), omega (arith, signed_arith, h, r))
over_code ThirtyE360Isda num m h r = (omega (arith, signed_arith, h, r), omega (arith, signed_arith, h, r))

fraction_few : (daily : Bool) (code : DayCountCode) (e : PeriodEntry) → IsEntry daily code e
    → IsFew (stated_fraction e.frac).units
fraction_few daily code e h =
    let num = e.frac.num *ℤ pos (10 ^ 10) in
    let P : ℤ → Type 0 = λ den. IsFew (rounded Nearest num den) in
    subst P (sym h.denominator)
    (over_code code e.frac.num (rounded Nearest num (denominator_of code)) h.numerator
    (rounded_is Nearest num (denominator_of code) (above_zero code)))

-- ---- a currency

capital : (c : ℕ) → (65 ≤ c) × (c ≤ 90) → is_capital c ≡ true
capital c h = grind (arith, nat_tests)

-- a capital letter
abbrev IsCapital : ℕ → Type 0
IsCapital b = (65 ≤ b) × (b ≤ 90)

capitals : (s : List ℕ) → All IsCapital s → list_all is_capital s ≡ true
capitals [] h = refl
capitals (c ∷ cs) h =
    true_both (is_capital c) (list_all is_capital cs) (capital c (All-head IsCapital c cs h))
    (capitals cs (All-tail IsCapital c cs h))

three_is : (n : ℕ) → n ≡ 3 → (n == 3) ≡ true
three_is n e = grind (arith, nat_tests)

code_is : (currency : Currency) → IsCode currency → is_currency currency.letters ≡ true
code_is currency h =
    true_both (length currency.letters == 3) (list_all is_capital currency.letters)
    (three_is (length currency.letters) h.three) (capitals currency.letters h.capitals)

-- ---- rows

exchanges_short : (p : Part) → KeepsBounds p → Every IsExchangeShort p.exchanges
exchanges_short p h =
    both IsDatedExchange (λ (x : Exchange). IsAmount p.currency x.amount) IsExchangeShort p.exchanges
    (λ x days amount. record {
      unadjusted = days.0;
      adjusted = days.1;
      amount =
          amount_short p.currency x.amount amount;
    }) h.dates.exchanges h.exchanged

-- the periods of a payment are in order and among the first n
abbrev IsSpan : ℕ → PaymentEntry → Type 0
IsSpan n y = (1 ≤ y.first_period) × (y.first_period ≤ y.last_period) × (y.last_period ≤ n)

spans : (a n : ℕ) (ys : List PaymentEntry) → 1 ≤ a → EntriesCover a ys n → Every (IsSpan n) ys
spans a n [] l h = tt
spans a n (y ∷ ys) l h =
    let within = covers_within (y.last_period + 1) n ys h.2 in
    let first = h.0 in
    ((omega (arith, l, first), h.1, omega (arith, within)), spans (y.last_period + 1) n ys (omega arith) h.2)

-- a payment pays periods of the schedule, and its amount is one of the currency
abbrev IsPaidSpan : Part → PaymentEntry → Type 0
IsPaidSpan p y = IsSpan (length p.periods) y × HasAmount p.currency y

payments_short : (p : Part) → KeepsBounds p → Every (IsPaymentShort p) p.payments
payments_short p h =
    let paid = both (IsSpan (length p.periods)) (HasAmount p.currency) (IsPaidSpan p) p.payments
    (λ y span amount. (span, amount)) (spans 1 (length p.periods) p.payments (omega arith) h.covers) h.paid in
    both IsDatedPayment (IsPaidSpan p) (IsPaymentShort p) p.payments
    (λ y days paid. record {
      currency = code_is p.currency h.currency;
      unadjusted = days.0;
      adjusted = days.1;
      first = paid.0.0;
      order = paid.0.1;
      last = paid.0.2;
      amount = IfSome_then y.amount paid.1 (amount_short p.currency);
    }) h.dates.payments paid

resets_short : (p : Part) → KeepsBounds p → Every IsResetShort p.resets
resets_short p h =
    both IsDatedReset (HasObserved p.daily) IsResetShort p.resets
    (λ r days observed. record {
      reset = days.0;
      fixing = days.1;
      observed =
          IfSome_then r.observed observed (observed_short p.daily);
    }) h.dates.resets h.observed

period_short : (p : Part) (j : ℕ) (e : PeriodEntry) → HasDays p → IsEntry p.daily p.day_count e
    → IsPeriodShort (dated_period p (j + 1) e)
period_short p j e days h =
    let fraction = fraction_few p.daily p.day_count e h in
    record {
      start = day_at_day p.unadjusted (j + 1 - 1) days.unadjusted;
      «end» = day_at_day p.unadjusted (j + 1) days.unadjusted;
      adjusted_start = day_at_day p.adjusted (j + 1 - 1) days.adjusted;
      adjusted_end = day_at_day p.adjusted (j + 1) days.adjusted;
      days = days_short e.days h.days;
      notional = notional_short e.notional h.notional;
      rate = IfSome_then e.rate h.rate (rate_short p.daily);
      fraction = fraction.0;
      short = few_short (stated_fraction e.frac).units fraction;
    }

periods_short : (p : Part) (j : ℕ) → KeepsBounds p → IfSome (period_at p j) IsPeriodShort
periods_short p j h =
    of_map (dated_period p (j + 1)) IsPeriodShort (slice_get p.periods j)
    (IfSome_then (slice_get p.periods j) (at_place (IsEntry p.daily p.day_count) p.periods j h.entries)
    (λ e entry. period_short p j e h.dates entry))

part_short : (p : Part) → KeepsBounds p → IsPartShort p
part_short p h = record {
  bounds = h;
  exchanges = exchanges_short p h;
  payments = payments_short p h;
  periods = λ j. periods_short p j h;
  resets = λ j. at_place IsResetShort p.resets j (resets_short p h);
}

-- the rows of each stream of a schedule are short
pub parts_short : (s : List Part) → Every KeepsBounds s → Every IsPartShort s
parts_short [] h = tt
parts_short (p ∷ s) h = (part_short p h.0, parts_short s h.1)
