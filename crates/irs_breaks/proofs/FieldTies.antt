-- A field differs exactly where it is compared and the audit says that it departs.
use Rattle.std.proofs.Common.{◌≡◌, ◌≤◌, Option, Some, None, ℤ, arith, refl}
use Rattle.std.specs.Prelude.{IfSome}
use Rattle.irs_audit.specs.StatedFlows.{IsBoundedFraction}
use Rattle.irs_audit.specs.Verdicts.{ExchangeDeparts, PaymentDeparts, PeriodDeparts, ResetDeparts, StatesAmount}
use Rattle.irs_audit.specs.Verdicts.{StatesFraction, StatesNumber, NotStatedRightly, StatedWrongly, WhereKnown}
use Rattle.irs_flows.specs.declared.flows.FlowExchange.{FlowExchange}
use Rattle.irs_flows.specs.declared.flows.FlowPayment.{FlowPayment}
use Rattle.irs_flows.specs.declared.flows.FlowPeriod.{FlowPeriod}
use Rattle.irs_flows.specs.declared.flows.FlowReset.{FlowReset}
use Rattle.irs_base.specs.Lists.{Every}
use Rattle.irs_base.specs.declared.line.Dec.{Dec}
use Rattle.irs_schedule.specs.declared.entries.PaymentEntry.{PaymentEntry}
use Rattle.irs_schedule.specs.declared.views.CalculationPeriod.{CalculationPeriod}
use Rattle.irs_terms.specs.declared.currency.Currency.{Currency}
use Rattle.irs_terms.specs.declared.results.Exchange.{Exchange}
use Rattle.irs_terms.specs.declared.results.Reset.{Reset}
use Rattle.irs_breaks.specs.Findings.{IsComparable, TiesTo, exchange_fields, payment_fields, period_fields}
use Rattle.irs_breaks.specs.Findings.{rate_decimal, reset_fields, CanBeCompared, standing_of, stands_by}
use Rattle.irs_breaks.specs.declared.values.Standing.TheVariants.{Compared}
use Rattle.irs_breaks.specs.declared.values.Values.TheVariants.{Numbers}

-- a stated value that isn't right is compared
stated : {Y : Type 0} (Is : Y → Type 0) (s : Option Y) → StatedWrongly Is s → stands_by s ≡ Compared
stated Is None h = absurd h
stated Is (Some y) h = refl

-- a wrong value departs also where the field must be stated
must : {Y : Type 0} (Is : Y → Type 0) (s : Option Y) → StatedWrongly Is s → NotStatedRightly Is s
must Is None h = absurd h
must Is (Some y) h = h

must_back : {Y : Type 0} (Is : Y → Type 0) (s : Option Y) → stands_by s ≡ Compared → NotStatedRightly Is s
    → StatedWrongly Is s
must_back Is None e h = absurd (cc)
must_back Is (Some y) e h = h

-- ---- amounts and rates that the schedule may not know

amount_stated : (o : Option Dec) (s : Option ℤ) → WhereKnown (λ v. StatedWrongly (StatesAmount v) s) o
    → standing_of (Numbers o s) ≡ Compared
amount_stated None s h = absurd h
amount_stated (Some v) s h = stated (StatesAmount v) s h

amount_must : (o : Option Dec) (s : Option ℤ) → WhereKnown (λ v. StatedWrongly (StatesAmount v) s) o
    → WhereKnown (λ v. NotStatedRightly (StatesAmount v) s) o
amount_must None s h = absurd h
amount_must (Some v) s h = must (StatesAmount v) s h

amount_back : (o : Option Dec) (s : Option ℤ) → standing_of (Numbers o s) ≡ Compared
    → WhereKnown (λ v. NotStatedRightly (StatesAmount v) s) o → WhereKnown (λ v. StatedWrongly (StatesAmount v) s) o
amount_back None s e h = absurd h
amount_back (Some v) s e h = must_back (StatesAmount v) s e h

rate_stated : (o : Option ℤ) (s : Option ℤ) → WhereKnown (λ v. StatedWrongly (StatesAmount v) s) (rate_decimal o)
    → standing_of (Numbers (rate_decimal o) s) ≡ Compared
rate_stated o s h = amount_stated (rate_decimal o) s h

rate_departs : (o : Option ℤ) (s : Option ℤ) → WhereKnown (λ v. StatedWrongly (StatesAmount v) s) (rate_decimal o)
    → WhereKnown (λ r. StatedWrongly (StatesNumber r 9) s) o
rate_departs None s h = absurd h
rate_departs (Some r) s h = h

rate_back : (o : Option ℤ) (s : Option ℤ) → WhereKnown (λ r. StatedWrongly (StatesNumber r 9) s) o
    → WhereKnown (λ v. StatedWrongly (StatesAmount v) s) (rate_decimal o)
rate_back None s h = absurd h
rate_back (Some r) s h = h

-- ---- the fields of each kind of rows

-- the fields of an exchange differ exactly where they are compared and depart
pub exchange_ties : (x : Exchange) (y : FlowExchange) → Every (TiesTo (ExchangeDeparts x y)) (exchange_fields x y)
exchange_ties x y = (
  record { compared = stated (λ d. d ≡ x.unadjusted) y.unadjusted; departs = λ h. h; back = λ e h. h },
  (
    record { compared = stated (λ d. d ≡ x.adjusted) y.adjusted; departs = must (λ d. d ≡ x.adjusted) y.adjusted; back = must_back (λ d. d ≡ x.adjusted) y.adjusted },
    (
      record { compared = stated (StatesAmount x.amount) y.amount; departs = must (StatesAmount x.amount) y.amount; back = must_back (StatesAmount x.amount) y.amount },
      tt,
    ),
  ),
)

-- the fields of a payment differ exactly where they are compared and depart
pub payment_ties : (currency : Currency) (x : PaymentEntry) (y : FlowPayment)
    → Every (TiesTo (PaymentDeparts currency x y)) (payment_fields currency x y)
payment_ties currency x y = (
  record { compared = stated (λ d. d ≡ x.unadjusted) y.unadjusted; departs = λ h. h; back = λ e h. h },
  (
    record { compared = stated (λ d. d ≡ x.adjusted) y.adjusted; departs = must (λ d. d ≡ x.adjusted) y.adjusted; back = must_back (λ d. d ≡ x.adjusted) y.adjusted },
    (
      record { compared = stated (λ c. c ≡ currency) y.currency; departs = λ h. h; back = λ e h. h },
      (
        record { compared = amount_stated x.amount y.amount; departs = amount_must x.amount y.amount; back = amount_back x.amount y.amount },
        tt,
      ),
    ),
  ),
)

-- the fields of a calculation period differ exactly where they are compared and depart
pub period_ties : (x : CalculationPeriod) (y : FlowPeriod) → Every (TiesTo (PeriodDeparts x y)) (period_fields x y)
period_ties x y = (
  record { compared = stated (λ d. d ≡ x.start) y.start; departs = λ h. h; back = λ e h. h },
  (
    record { compared = stated (λ d. d ≡ x.end) y.end; departs = λ h. h; back = λ e h. h },
    (
      record { compared = stated (λ d. d ≡ x.adjusted_start) y.adjusted_start; departs = must (λ d. d ≡ x.adjusted_start) y.adjusted_start; back = must_back (λ d. d ≡ x.adjusted_start) y.adjusted_start },
      (
        record { compared = stated (λ d. d ≡ x.adjusted_end) y.adjusted_end; departs = must (λ d. d ≡ x.adjusted_end) y.adjusted_end; back = must_back (λ d. d ≡ x.adjusted_end) y.adjusted_end },
        (
          record { compared = stated (λ n. n ≡ x.days) y.days; departs = λ h. h; back = λ e h. h },
          (
            record { compared = stated (StatesNumber x.notional 4) y.notional; departs = λ h. h; back = λ e h. h },
            (
              record { compared = rate_stated x.rate y.rate; departs = rate_departs x.rate y.rate; back = λ e h. rate_back x.rate y.rate h },
              (
                record { compared = stated (StatesFraction x.frac) y.fraction; departs = λ h. h; back = λ e h. h },
                tt,
              ),
            ),
          ),
        ),
      ),
    ),
  ),
)

-- the fields of a reset differ exactly where they are compared and depart
pub reset_ties : (x : Reset) (y : FlowReset) → Every (TiesTo (ResetDeparts x y)) (reset_fields x y)
reset_ties x y = (
  record { compared = stated (λ d. d ≡ x.reset) y.reset; departs = λ h. h; back = λ e h. h },
  (
    record { compared = stated (λ d. d ≡ x.fixing) y.fixing; departs = must (λ d. d ≡ x.fixing) y.fixing; back = must_back (λ d. d ≡ x.fixing) y.fixing },
    (
      record { compared = rate_stated x.observed y.observed; departs = rate_departs x.observed y.observed; back = λ e h. rate_back x.observed y.observed h },
      tt,
    ),
  ),
)

-- ---- what can be compared

rate_comparable : (o : Option ℤ) (s : Option ℤ) → CanBeCompared (Numbers (rate_decimal o) s)
rate_comparable None s = tt
rate_comparable (Some r) s = omega arith

amount_comparable : (o : Option Dec) (s : Option ℤ) → IfSome o (λ v. v.places ≤ 12) → CanBeCompared (Numbers o s)
amount_comparable None s h = tt
amount_comparable (Some v) s h = h

-- the fields of an exchange can be compared
pub exchange_comparable : (x : Exchange) (y : FlowExchange) → x.amount.places ≤ 12 → Every IsComparable (exchange_fields x y)
exchange_comparable x y h = (tt, (tt, (h, tt)))

-- the fields of a payment can be compared
pub payment_comparable : (currency : Currency) (x : PaymentEntry) (y : FlowPayment) → IfSome x.amount (λ v. v.places ≤ 12)
    → Every IsComparable (payment_fields currency x y)
payment_comparable currency x y h = (tt, (tt, (tt, (amount_comparable x.amount y.amount h, tt))))

-- the fields of a calculation period can be compared
pub period_comparable : (x : CalculationPeriod) (y : FlowPeriod) → IsBoundedFraction x.frac → Every IsComparable (period_fields x y)
period_comparable x y h =
    (tt, (tt, (tt, (tt, (tt, (omega arith, (rate_comparable x.rate y.rate, (h, tt))))))))

-- the fields of a reset can be compared
pub reset_comparable : (x : Reset) (y : FlowReset) → Every IsComparable (reset_fields x y)
reset_comparable x y = (tt, (tt, (rate_comparable x.observed y.observed, tt)))
