-- The flows that state a schedule agree with it.
use Rattle.std.proofs.Common.{◌≡◌, ℕ, zero, suc, ◌+◌, ◌-◌, ◌^◌, ◌<◌, ◌≤◌, List, [], ◌∷◌, ◌++◌, length, drop}
use Rattle.std.proofs.Common.{append_assoc, Option, Some, None, ℤ, pos, ◌*ℤ◌, ◌<ℤ◌, refl, ◌∙◌, ap, subst, arith, inl}
use Rattle.std.proofs.Common.{inr}
use Rattle.std.specs.Prelude.{slice_get, option_map, option_and_then, unwrap_or, IfSome}
use Rattle.std.proofs.lemmas.List.{drop_more}
use Rattle.std.proofs.lemmas.Option.{slice_get-map, slice_get_past, slice_get_cases}
use Rattle.irs_base.specs.declared.line.Dec.{Dec}
use Rattle.irs_base.specs.declared.rounding.Direction.TheVariants.{Nearest}
use Rattle.irs_base.proofs.RoundingLaws.{rounded_is}
use Rattle.irs_terms.specs.declared.currency.Currency.{Currency}
use Rattle.irs_terms.specs.declared.results.Exchange.{Exchange}
use Rattle.irs_terms.specs.declared.results.Frac.{Frac}
use Rattle.irs_terms.specs.declared.results.Reset.{Reset}
use Rattle.irs_schedule.specs.Parts.{Part, KeepsBounds, IsWithin}
use Rattle.irs_schedule.specs.RowsOf.{period_at, dated_period}
use Rattle.irs_schedule.specs.declared.entries.PaymentEntry.{PaymentEntry}
use Rattle.irs_schedule.specs.declared.entries.PeriodEntry.{PeriodEntry}
use Rattle.irs_schedule.specs.declared.views.CalculationPeriod.{CalculationPeriod}
use Rattle.irs_audit.specs.declared.departures.Field.{Field}
use Rattle.irs_audit.specs.declared.departures.Field.TheVariants.{UnadjustedPrincipalExchangeDate}
use Rattle.irs_audit.specs.declared.departures.Field.TheVariants.{AdjustedPrincipalExchangeDate}
use Rattle.irs_audit.specs.declared.departures.Field.TheVariants.{PrincipalExchangeAmount}
use Rattle.irs_audit.specs.declared.departures.Field.TheVariants.{UnadjustedPaymentDate, AdjustedPaymentDate}
use Rattle.irs_audit.specs.declared.departures.Field.TheVariants.{CalculationPeriod as PeriodCount}
use Rattle.irs_audit.specs.declared.departures.Field.TheVariants.{Currency as CurrencyField, Amount}
use Rattle.irs_audit.specs.declared.departures.Field.TheVariants.{UnadjustedStartDate, UnadjustedEndDate}
use Rattle.irs_audit.specs.declared.departures.Field.TheVariants.{AdjustedStartDate, AdjustedEndDate}
use Rattle.irs_audit.specs.declared.departures.Field.TheVariants.{CalculationPeriodNumberOfDays, NotionalAmount, Rate}
use Rattle.irs_audit.specs.declared.departures.Field.TheVariants.{DayCountYearFraction}
use Rattle.irs_audit.specs.declared.departures.Field.TheVariants.{ResetDate, AdjustedFixingDate, ObservedRate}
use Rattle.irs_audit.specs.declared.departures.RowKind.{RowKind}
use Rattle.irs_audit.specs.declared.departures.RowKind.TheVariants.{Stream, Exchange as ExchangeRow}
use Rattle.irs_audit.specs.declared.departures.RowKind.TheVariants.{Payment as PaymentRow, Period as PeriodRow}
use Rattle.irs_audit.specs.declared.departures.RowKind.TheVariants.{Reset as ResetRow}
use Rattle.irs_flows.specs.declared.flows.FlowExchange.{FlowExchange}
use Rattle.irs_flows.specs.declared.flows.FlowPayment.{FlowPayment}
use Rattle.irs_flows.specs.declared.flows.FlowPeriod.{FlowPeriod}
use Rattle.irs_audit.specs.Verdicts.{RowDeparts, KindDeparts, StreamDeparts, Agrees, ExchangeDeparts, PaymentDeparts}
use Rattle.irs_audit.specs.Verdicts.{PeriodDeparts, ResetDeparts, StatesNumber, StatesAmount, StatesFraction}
use Rattle.irs_audit.specs.Verdicts.{StatedWrongly, NotStatedRightly, WhereKnown}
use Rattle.irs_flows.specs.FlowReading.{FlowPart}
use Rattle.irs_audit.specs.StatedFlows.{stated_number, stated_amount, stated_fraction, stated_exchange, stated_payment}
use Rattle.irs_audit.specs.StatedFlows.{stated_reset, period_with, stated_period, stated_periods_from, stated_part}
use Rattle.irs_audit.specs.StatedFlows.{stated_flows}
use Rattle.irs_base.proofs.MemberLemmas.{every_get}
use Rattle.irs_audit.proofs.BoundLemmas.{exchange_decimals, payment_kept, period_small}
use Rattle.irs_audit.proofs.RowLemmas.{resets_few}
use Rattle.irs_audit.proofs.ValueLemmas.{scaled_up}

-- the values

number_is : (u : ℤ) (p : ℕ) → p ≤ 12 → StatesNumber u p (stated_number u p)
number_is u p h = scaled_up u (stated_number u p) p h refl

fraction_is : (f : Frac) → pos 0 <ℤ f.den → StatesFraction f (stated_fraction f)
fraction_is f h =
    record {
      decimals = omega arith;
      exact = λ few. absurd (omega (arith, few));
      nearest =
          λ _. rounded_is Nearest (f.num *ℤ pos (10 ^ 10)) f.den h;
    }

amount_agrees : (o : Option Dec) → IfSome o (λ v. v.places ≤ 12)
    → WhereKnown (λ v. NotStatedRightly (StatesAmount v) (option_map stated_amount o)) o → ⊥
amount_agrees None h d = d
amount_agrees (Some v) h d = d (number_is v.units v.places h)

rate_agrees : (o : Option ℤ)
    → WhereKnown (λ r. StatedWrongly (StatesNumber r 9) (option_map (λ q. stated_number q 9) o)) o → ⊥
rate_agrees None d = d
rate_agrees (Some r) d = d (number_is r 9 (omega arith))

-- the fields of each kind of rows

exchange_agrees : (x : Exchange) (f : Field) → x.amount.places ≤ 12 → ExchangeDeparts x (stated_exchange x) f → ⊥
exchange_agrees x UnadjustedPrincipalExchangeDate h d = d refl
exchange_agrees x AdjustedPrincipalExchangeDate h d = d refl
exchange_agrees x PrincipalExchangeAmount h d = d (number_is x.amount.units x.amount.places h)
exchange_agrees x _ h d = d

payment_agrees : (currency : Currency) (y : PaymentEntry) (f : Field) → IfSome y.amount (λ v. v.places ≤ 12)
    → PaymentDeparts currency y (stated_payment currency y) f → ⊥
payment_agrees currency y UnadjustedPaymentDate h d = d refl
payment_agrees currency y AdjustedPaymentDate h d = d refl
payment_agrees currency y PeriodCount h d = d refl
payment_agrees currency y CurrencyField h d = d refl
payment_agrees currency y Amount h d = amount_agrees y.amount h d
payment_agrees currency y _ h d = d

period_agrees : (x : CalculationPeriod) (o : Option Reset) (f : Field) → pos 0 <ℤ x.frac.den
    → PeriodDeparts x (stated_period x o) f → ⊥
period_agrees x o UnadjustedStartDate h d = d refl
period_agrees x o UnadjustedEndDate h d = d refl
period_agrees x o AdjustedStartDate h d = d refl
period_agrees x o AdjustedEndDate h d = d refl
period_agrees x o CalculationPeriodNumberOfDays h d = d refl
period_agrees x o NotionalAmount h d = d (number_is x.notional 4 (omega arith))
period_agrees x o Rate h d = rate_agrees x.rate d
period_agrees x o DayCountYearFraction h d = d (fraction_is x.frac h)
period_agrees x o _ h d = d

reset_agrees : (r : Reset) (f : Field) → ResetDeparts r (stated_reset r) f → ⊥
reset_agrees r ResetDate d = d refl
reset_agrees r AdjustedFixingDate d = d refl
reset_agrees r ObservedRate d = rate_agrees r.observed d
reset_agrees r _ d = d

-- the rows

row_agrees : {X Y : Type 0} (Fields : X → Y → Field → Type 0) (v : X → Y) (o : Option X) (f : Field)
    → ((x : X) → o ≡ Some x → Fields x (v x) f → ⊥) → RowDeparts Fields o (option_map v o) f → ⊥
row_agrees Fields v None f each d = d
row_agrees Fields v (Some x) f each d = each x refl d

exchanges_agree : (p : Part) (j : ℕ) (f : Field) → KeepsBounds p → KindDeparts ExchangeRow p (stated_part p) j f → ⊥
exchanges_agree p j f h d =
    let D : Option FlowExchange → Type 0 = λ o. RowDeparts ExchangeDeparts (slice_get p.exchanges j) o f in
    row_agrees ExchangeDeparts stated_exchange (slice_get p.exchanges j) f
    (λ x e. exchange_agrees x f (exchange_decimals p j x h e))
    (subst D (slice_get-map stated_exchange p.exchanges j) d)

payments_agree : (p : Part) (j : ℕ) (f : Field) → KeepsBounds p → KindDeparts PaymentRow p (stated_part p) j f → ⊥
payments_agree p j f h d =
    let Fields : PaymentEntry → FlowPayment → Field → Type 0 = PaymentDeparts p.currency in
    let D : Option FlowPayment → Type 0 = λ o. RowDeparts Fields (slice_get p.payments j) o f in
    row_agrees Fields (stated_payment p.currency) (slice_get p.payments j) f
    (λ y e. payment_agrees p.currency y f (payment_kept p j y h e).decimals)
    (subst D (slice_get-map (stated_payment p.currency) p.payments j) d)

-- what is stated of the period at a place
abbrev pub stated_at : Part → ℕ → PeriodEntry → FlowPeriod
stated_at p n e = stated_period (dated_period p (n + 1) e) (slice_get p.resets n)

periods_get : (p : Part) (i j : ℕ) (es : List PeriodEntry)
    → slice_get (stated_periods_from p i es) j ≡ option_map (stated_at p (i + j)) (slice_get es j)
periods_get p i j [] = refl
periods_get p i zero (e ∷ es) = let same : i + 0 ≡ i = omega arith in rw same refl
periods_get p i (suc j) (e ∷ es) =
    let same : i + 1 + j ≡ i + suc j = omega arith in
    periods_get p (i + 1) j es ∙ ap (λ (n : ℕ). option_map (stated_at p n) (slice_get es j)) same

-- the stated period at a place is that of the schedule's period there
pub stated_get : (p : Part) (j : ℕ) → slice_get (stated_periods_from p 0 p.periods) j
    ≡ option_map (stated_at p j) (slice_get p.periods j)
stated_get p j =
    let same : 0 + j ≡ j = omega arith in
    periods_get p 0 j p.periods ∙ ap (λ (n : ℕ). option_map (stated_at p n) (slice_get p.periods j)) same

period_row : (p : Part) (j : ℕ) (o : Option PeriodEntry) (f : Field)
    → ((x : CalculationPeriod) → option_map (dated_period p (j + 1)) o ≡ Some x → pos 0 <ℤ x.frac.den)
    → RowDeparts PeriodDeparts (option_map (dated_period p (j + 1)) o) (option_map (stated_at p j) o) f → ⊥
period_row p j None f each d = d
period_row p j (Some e) f each d =
    period_agrees (dated_period p (j + 1) e) (slice_get p.resets j) f (each (dated_period p (j + 1) e) refl) d

periods_agree : (p : Part) (j : ℕ) (f : Field) → KeepsBounds p → KindDeparts PeriodRow p (stated_part p) j f → ⊥
periods_agree p j f h d =
    let D : Option FlowPeriod → Type 0 = λ o. RowDeparts PeriodDeparts (period_at p j) o f in
    period_row p j (slice_get p.periods j) f (λ x e. (period_small p j x h e).denominator.0)
    (subst D (stated_get p j) d)

reset_row : (p : Part) (j : ℕ) (r : Option Reset) (o : Option PeriodEntry) (f : Field) → (o ≡ None → r ≡ None)
    → RowDeparts ResetDeparts r
    (option_and_then (λ (y : FlowPeriod). y.reset)
    (option_map (λ (e : PeriodEntry). stated_period (dated_period p (j + 1) e) r) o)) f → ⊥
reset_row p j r None f past d = let D : Option Reset → Type 0 = λ q. RowDeparts ResetDeparts q None f in
    subst D (past refl) d
reset_row p j r (Some e) f past d = row_agrees ResetDeparts stated_reset r f (λ x _. reset_agrees x f) d

no_reset : (p : Part) (j : ℕ) → KeepsBounds p → slice_get p.periods j ≡ None → slice_get p.resets j ≡ None
no_reset p j h e = elim (slice_get_cases p.periods j).1 [
  | inl w ↦ absurd (let there = w.2 in cc)
  | inr w ↦ let few = resets_few p h in let past = w.0 in slice_get_past p.resets j (omega (arith, few, past))
]

resets_agree : (p : Part) (j : ℕ) (f : Field) → KeepsBounds p → KindDeparts ResetRow p (stated_part p) j f → ⊥
resets_agree p j f h d =
    let D : Option FlowPeriod → Type 0 =
    λ o. RowDeparts ResetDeparts (slice_get p.resets j) (option_and_then (λ (y : FlowPeriod). y.reset) o) f in
    reset_row p j (slice_get p.resets j) (slice_get p.periods j) f (no_reset p j h) (subst D (stated_get p j) d)

-- the streams

part_agrees : (p : Part) (kind : RowKind) (j : ℕ) (f : Field) → KeepsBounds p
    → KindDeparts kind p (stated_part p) j f → ⊥
part_agrees p Stream j f h d = d
part_agrees p ExchangeRow j f h d = exchanges_agree p j f h d
part_agrees p PaymentRow j f h d = payments_agree p j f h d
part_agrees p PeriodRow j f h d = periods_agree p j f h d
part_agrees p ResetRow j f h d = resets_agree p j f h d

stream_agrees : (o : Option Part) (kind : RowKind) (row : ℕ) (f : Field) → ((p : Part) → o ≡ Some p → KeepsBounds p)
    → StreamDeparts o (option_map stated_part o) kind row f → ⊥
stream_agrees None kind row f each d = d
stream_agrees (Some p) kind row f each d = part_agrees p kind (row - 1) f (each p refl) d.1

-- the flows that state a schedule agree with it
pub flows_agree : (s : List Part) → IsWithin s → Agrees (stated_flows s) s
flows_agree s h d m =
    let k = d.stream - 1 in
    let D : Option FlowPart → Type 0 = λ o. StreamDeparts (slice_get s k) o d.kind d.row d.field in
    stream_agrees (slice_get s k) d.kind d.row d.field (λ p e. every_get KeepsBounds s k p h.each e)
    (subst D (slice_get-map stated_part s k) m.1)

-- after one more period is stated, those after it are left
pub one_period_more : (p : Part) (j : ℕ) (x : CalculationPeriod) (before : List FlowPeriod) → period_at p j ≡ Some x
    → (before ++ period_with x (option_map stated_reset (slice_get p.resets j)) ∷ [])
    ++ stated_periods_from p (j + 1) (drop (j + 1) p.periods) ≡ before ++ stated_periods_from p j (drop j p.periods)
one_period_more p j x before h = elim (slice_get_cases p.periods j).1 [
  | inl w ↦
      let there = w.2 in
      let same : Some (dated_period p (j + 1) w.0) ≡ Some x = rw there at h in
      let is : dated_period p (j + 1) w.0 ≡ x = ap (λ (o : Option CalculationPeriod). unwrap_or o x) same in
      let rest : drop j p.periods ≡ w.0 ∷ drop (j + 1) p.periods =
      drop_more p.periods j w.0 w.1 ∙ ap (λ (e : PeriodEntry). e ∷ drop (j + 1) p.periods) w.3 in
      let Q : CalculationPeriod → Type 0 =
      λ y. (before ++ period_with y (option_map stated_reset (slice_get p.resets j)) ∷ [])
      ++ stated_periods_from p (j + 1) (drop (j + 1) p.periods)
      ≡ before ++ stated_periods_from p j (drop j p.periods) in
      subst Q is (rw rest (append_assoc before (stated_at p j w.0 ∷ [])
      (stated_periods_from p (j + 1) (drop (j + 1) p.periods))))
  | inr w ↦ absurd (let none = w.1 in let bad = rw none at h in cc)
]

-- what states the period at a place
pub period_stated : (p : Part) (j : ℕ) (x : CalculationPeriod) → period_at p j ≡ Some x
    → Some (period_with x (option_map stated_reset (slice_get p.resets j)))
    ≡ slice_get (stated_periods_from p 0 p.periods) j
period_stated p j x h = elim (slice_get_cases p.periods j).1 [
  | inl w ↦
      let there = w.2 in
      let same : Some (dated_period p (j + 1) w.0) ≡ Some x = rw there at h in
      let is : dated_period p (j + 1) w.0 ≡ x = ap (λ (o : Option CalculationPeriod). unwrap_or o x) same in
      let Q : CalculationPeriod → Type 0 =
      λ y. Some (period_with y (option_map stated_reset (slice_get p.resets j)))
      ≡ slice_get (stated_periods_from p 0 p.periods) j in
      subst Q is (rw (stated_get p j, there) refl)
  | inr w ↦ absurd (let none = w.1 in let bad = rw none at h in cc)
]

-- past the last period none is stated
pub period_unstated : (p : Part) (j : ℕ) → period_at p j ≡ None
    → None ≡ slice_get (stated_periods_from p 0 p.periods) j
period_unstated p j h = elim (slice_get_cases p.periods j).1 [
  | inl w ↦ absurd (let there = w.2 in let bad = rw there at h in cc)
  | inr w ↦ let none = w.1 in rw (stated_get p j, none) refl
]

-- what states the reset of the period at a place
pub reset_stated : (p : Part) (j : ℕ) → KeepsBounds p
    → option_map stated_reset (slice_get p.resets j)
    ≡ option_and_then (λ (y : FlowPeriod). y.reset) (slice_get (stated_periods_from p 0 p.periods) j)
reset_stated p j h = elim (slice_get_cases p.periods j).1 [
  | inl w ↦ let there = w.2 in rw (stated_get p j, there) refl
  | inr w ↦ let none = w.1 in let without = no_reset p j h none in rw (stated_get p j, none, without) refl
]

-- each place below the number of periods has a period
pub period_there : (p : Part) (j : ℕ) → j < length p.periods → period_at p j ≡ None → ⊥
period_there p j low h = elim (slice_get_cases p.periods j).1 [
  | inl w ↦ let there = w.2 in let bad = rw there at h in cc
  | inr w ↦ let past = w.0 in omega (arith, low, past)
]
