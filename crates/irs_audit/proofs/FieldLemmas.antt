-- The tables of the four kinds of rows have every field that can depart, in order.
use Rattle.std.proofs.Common.{List, [], ◌∷◌, Bool, IsTrue, ◌↔◌, inl, inr, refl, arith}
use Rattle.irs_terms.specs.declared.currency.Currency.{Currency}
use Rattle.irs_terms.specs.declared.results.Exchange.{Exchange}
use Rattle.irs_terms.specs.declared.results.Reset.{Reset}
use Rattle.irs_schedule.specs.declared.entries.PaymentEntry.{PaymentEntry}
use Rattle.irs_schedule.specs.declared.views.CalculationPeriod.{CalculationPeriod}
use Rattle.irs_audit.specs.declared.departures.Field.{Field}
use Rattle.irs_audit.specs.declared.departures.Field.TheVariants.{UnadjustedPrincipalExchangeDate}
use Rattle.irs_audit.specs.declared.departures.Field.TheVariants.{AdjustedPrincipalExchangeDate}
use Rattle.irs_audit.specs.declared.departures.Field.TheVariants.{PrincipalExchangeAmount}
use Rattle.irs_audit.specs.declared.departures.Field.TheVariants.{UnadjustedPaymentDate, AdjustedPaymentDate}
use Rattle.irs_audit.specs.declared.departures.Field.TheVariants.{CalculationPeriod as PeriodCount}
use Rattle.irs_audit.specs.declared.departures.Field.TheVariants.{Currency as CurrencyField, Amount}
use Rattle.irs_audit.specs.declared.departures.Field.TheVariants.{UnadjustedStartDate, UnadjustedEndDate}
use Rattle.irs_audit.specs.declared.departures.Field.TheVariants.{AdjustedStartDate, AdjustedEndDate}
use Rattle.irs_audit.specs.declared.departures.Field.TheVariants.{CalculationPeriodNumberOfDays, NotionalAmount, Rate}
use Rattle.irs_audit.specs.declared.departures.Field.TheVariants.{DayCountYearFraction}
use Rattle.irs_audit.specs.declared.departures.Field.TheVariants.{ResetDate, AdjustedFixingDate, ObservedRate}
use Rattle.irs_flows.specs.declared.flows.FlowExchange.{FlowExchange}
use Rattle.irs_flows.specs.declared.flows.FlowPayment.{FlowPayment}
use Rattle.irs_flows.specs.declared.flows.FlowPeriod.{FlowPeriod}
use Rattle.irs_flows.specs.declared.flows.FlowReset.{FlowReset}
use Rattle.irs_audit.specs.Verdicts.{field_before, ExchangeDeparts, PaymentDeparts, PeriodDeparts, ResetDeparts}
use Rattle.irs_audit.specs.Private.Comparisons.{first_true}
use Rattle.irs_audit.proofs.TableLemmas.{Stands, table_first}
use Rattle.irs_base.specs.Outcomes.{IsFirst}

-- the fields of an exchange, and whether each departs
abbrev exchange_table : Bool → Bool → Bool → List (Field × Bool)
exchange_table a b c =
    (UnadjustedPrincipalExchangeDate, a) ∷ (AdjustedPrincipalExchangeDate, b) ∷ (PrincipalExchangeAmount, c) ∷ []

exchange_all : (x : Exchange) (y : FlowExchange) (a b c : Bool) (f : Field) → ExchangeDeparts x y f
    → Stands f (exchange_table a b c)
exchange_all x y a b c UnadjustedPrincipalExchangeDate h = inl refl
exchange_all x y a b c AdjustedPrincipalExchangeDate h = inr (inl refl)
exchange_all x y a b c PrincipalExchangeAmount h = inr (inr (inl refl))
exchange_all x y a b c _ h = absurd h

-- the first true field of the table is the first departure of an exchange
pub exchange_first : (x : Exchange) (y : FlowExchange) (a b c : Bool)
    → (IsTrue a ↔ ExchangeDeparts x y UnadjustedPrincipalExchangeDate)
    → (IsTrue b ↔ ExchangeDeparts x y AdjustedPrincipalExchangeDate)
    → (IsTrue c ↔ ExchangeDeparts x y PrincipalExchangeAmount)
    → IsFirst field_before (ExchangeDeparts x y) (first_true (exchange_table a b c))
exchange_first x y a b c p q r =
    table_first (ExchangeDeparts x y) (exchange_table a b c) (p, (q, (r, tt))) (
      omega arith,
      (omega arith, (omega arith, tt)),
    ) (exchange_all x y a b c)

-- the fields of a payment, and whether each departs
abbrev payment_table : Bool → Bool → Bool → Bool → Bool → List (Field × Bool)
payment_table a b c d e =
    (UnadjustedPaymentDate, a) ∷ (AdjustedPaymentDate, b) ∷ (PeriodCount, c) ∷ (CurrencyField, d) ∷ (Amount, e) ∷ []

payment_all : (currency : Currency) (x : PaymentEntry) (y : FlowPayment) (a b c d e : Bool) (f : Field)
    → PaymentDeparts currency x y f → Stands f (payment_table a b c d e)
payment_all currency x y a b c d e UnadjustedPaymentDate h = inl refl
payment_all currency x y a b c d e AdjustedPaymentDate h = inr (inl refl)
payment_all currency x y a b c d e PeriodCount h = inr (inr (inl refl))
payment_all currency x y a b c d e CurrencyField h = inr (inr (inr (inl refl)))
payment_all currency x y a b c d e Amount h = inr (inr (inr (inr (inl refl))))
payment_all currency x y a b c d e _ h = absurd h

-- the first true field of the table is the first departure of a payment
pub payment_first : (currency : Currency) (x : PaymentEntry) (y : FlowPayment) (a b c d e : Bool)
    → (IsTrue a ↔ PaymentDeparts currency x y UnadjustedPaymentDate)
    → (IsTrue b ↔ PaymentDeparts currency x y AdjustedPaymentDate)
    → (IsTrue c ↔ PaymentDeparts currency x y PeriodCount)
    → (IsTrue d ↔ PaymentDeparts currency x y CurrencyField) → (IsTrue e ↔ PaymentDeparts currency x y Amount)
    → IsFirst field_before (PaymentDeparts currency x y) (first_true (payment_table a b c d e))
payment_first currency x y a b c d e p q r s t =
    table_first (PaymentDeparts currency x y) (payment_table a b c d e) (p, (q, (r, (s, (t, tt))))) (
      omega arith,
      (omega arith, (omega arith, (omega arith, (omega arith, tt)))),
    ) (payment_all currency x y a b c d e)

-- the fields of a calculation period, and whether each departs
abbrev period_table : Bool → Bool → Bool → Bool → Bool → Bool → Bool → Bool → List (Field × Bool)
period_table a b c d e f g h =
    (UnadjustedStartDate, a) ∷ (UnadjustedEndDate, b) ∷ (AdjustedStartDate, c) ∷ (AdjustedEndDate, d)
    ∷ (CalculationPeriodNumberOfDays, e) ∷ (NotionalAmount, f) ∷ (Rate, g) ∷ (DayCountYearFraction, h) ∷ []

period_all : (x : CalculationPeriod) (y : FlowPeriod) (a b c d e f g h : Bool) (k : Field) → PeriodDeparts x y k
    → Stands k (period_table a b c d e f g h)
period_all x y a b c d e f g h UnadjustedStartDate m = inl refl
period_all x y a b c d e f g h UnadjustedEndDate m = inr (inl refl)
period_all x y a b c d e f g h AdjustedStartDate m = inr (inr (inl refl))
period_all x y a b c d e f g h AdjustedEndDate m = inr (inr (inr (inl refl)))
period_all x y a b c d e f g h CalculationPeriodNumberOfDays m = inr (inr (inr (inr (inl refl))))
period_all x y a b c d e f g h NotionalAmount m = inr (inr (inr (inr (inr (inl refl)))))
period_all x y a b c d e f g h Rate m = inr (inr (inr (inr (inr (inr (inl refl))))))
period_all x y a b c d e f g h DayCountYearFraction m = inr (inr (inr (inr (inr (inr (inr (inl refl)))))))
period_all x y a b c d e f g h _ m = absurd m

-- the first true field of the table is the first departure of a calculation period
pub period_first : (x : CalculationPeriod) (y : FlowPeriod) (a b c d e f g h : Bool)
    → (IsTrue a ↔ PeriodDeparts x y UnadjustedStartDate) → (IsTrue b ↔ PeriodDeparts x y UnadjustedEndDate)
    → (IsTrue c ↔ PeriodDeparts x y AdjustedStartDate) → (IsTrue d ↔ PeriodDeparts x y AdjustedEndDate)
    → (IsTrue e ↔ PeriodDeparts x y CalculationPeriodNumberOfDays) → (IsTrue f ↔ PeriodDeparts x y NotionalAmount)
    → (IsTrue g ↔ PeriodDeparts x y Rate) → (IsTrue h ↔ PeriodDeparts x y DayCountYearFraction)
    → IsFirst field_before (PeriodDeparts x y) (first_true (period_table a b c d e f g h))
period_first x y a b c d e f g h p q r s t u v w =
    table_first (PeriodDeparts x y) (period_table a b c d e f g h) (p, (q, (r, (s, (t, (u, (v, (w, tt)))))))) (
      omega arith,
      (
        omega arith,
        (omega arith, (omega arith, (omega arith, (omega arith, (omega arith, (omega arith, tt)))))),
      ),
    )
    (period_all x y a b c d e f g h)

-- the fields of a reset, and whether each departs
abbrev reset_table : Bool → Bool → Bool → List (Field × Bool)
reset_table a b c = (ResetDate, a) ∷ (AdjustedFixingDate, b) ∷ (ObservedRate, c) ∷ []

reset_all : (x : Reset) (y : FlowReset) (a b c : Bool) (f : Field) → ResetDeparts x y f → Stands f (reset_table a b c)
reset_all x y a b c ResetDate h = inl refl
reset_all x y a b c AdjustedFixingDate h = inr (inl refl)
reset_all x y a b c ObservedRate h = inr (inr (inl refl))
reset_all x y a b c _ h = absurd h

-- the first true field of the table is the first departure of a reset
pub reset_first : (x : Reset) (y : FlowReset) (a b c : Bool)
    → (IsTrue a ↔ ResetDeparts x y ResetDate) → (IsTrue b ↔ ResetDeparts x y AdjustedFixingDate)
    → (IsTrue c ↔ ResetDeparts x y ObservedRate)
    → IsFirst field_before (ResetDeparts x y) (first_true (reset_table a b c))
reset_first x y a b c p q r =
    table_first (ResetDeparts x y) (reset_table a b c) (p, (q, (r, tt))) (
      omega arith,
      (omega arith, (omega arith, tt)),
    ) (reset_all x y a b c)
