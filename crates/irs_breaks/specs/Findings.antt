-- The fields of a pair of rows, and what is found where they differ.
use Rattle.std.specs.Prelude.{◌≡◌, ◌≤◌, Option, Some, None, ◌⊎◌, ℕ, Bool, true, false, List, [], ◌∷◌, ℤ, zero, suc}
use Rattle.std.specs.Prelude.{◌++◌, slice_get, IfSome, length}
use Rattle.std.specs.List.{count_by}
use Rattle.irs_base.specs.declared.line.Dec.{Dec}
use Rattle.irs_terms.specs.declared.currency.Currency.{Currency}
use Rattle.irs_terms.specs.declared.results.Exchange.{Exchange}
use Rattle.irs_terms.specs.declared.results.Reset.{Reset}
use Rattle.irs_flows.specs.declared.flows.FlowExchange.{FlowExchange}
use Rattle.irs_flows.specs.declared.flows.FlowPayment.{FlowPayment}
use Rattle.irs_flows.specs.declared.flows.FlowPeriod.{FlowPeriod}
use Rattle.irs_flows.specs.declared.flows.FlowReset.{FlowReset}
use Rattle.irs_schedule.specs.declared.entries.PaymentEntry.{PaymentEntry}
use Rattle.irs_schedule.specs.declared.views.CalculationPeriod.{CalculationPeriod}
use Rattle.irs_audit.specs.StatedFlows.{IsBoundedFraction}
use Rattle.irs_audit.specs.Verdicts.{StatesAmount, StatesFraction, StatedWrongly, WhereKnown}
use Rattle.irs_audit.specs.declared.departures.Field.{Field}
use Rattle.irs_audit.specs.declared.departures.Field.TheVariants as field
use Rattle.irs_breaks.specs.declared.values.Standing.{Standing}
use Rattle.irs_breaks.specs.declared.values.Standing.TheVariants.{Compared, Unknown, Unstated}
use Rattle.irs_breaks.specs.declared.values.Values.{Values}
use Rattle.irs_breaks.specs.declared.values.Values.TheVariants.{Currencies, Dates, Fractions, Numbers}
use Rattle.irs_breaks.specs.declared.counting.Counts.{Counts}
use Rattle.irs_breaks.specs.declared.values.FieldValues.{FieldValues}
use Rattle.irs_breaks.specs.declared.findings.Break.{Break}
use Rattle.irs_breaks.specs.declared.findings.What.{What}
use Rattle.irs_breaks.specs.declared.values.Values.TheVariants as of_values
use Rattle.irs_breaks.specs.declared.findings.What.TheVariants as what

-- ---- the two values of a field: how they are counted, and when they differ

-- a value that the schedule knows is compared where it is stated
abbrev pub stands_by : {X : Type 0} → Option X → Standing
stands_by (Some x) = Compared
stands_by None = Unstated

-- a value that the schedule doesn't know is unknown, whether or not it is stated
abbrev pub standing_of : Values → Standing
standing_of (Dates day stated) = stands_by stated
standing_of (of_values.Counts count stated) = stands_by stated
standing_of (Currencies currency stated) = stands_by stated
standing_of (Numbers (Some number) stated) = stands_by stated
standing_of (Numbers None stated) = Unknown
standing_of (Fractions frac stated) = stands_by stated

-- the schedule knows a value and the flows state another
abbrev pub Differ : Values → Type 0
Differ (Dates day stated) = StatedWrongly (λ d. d ≡ day) stated
Differ (of_values.Counts count stated) = StatedWrongly (λ n. n ≡ count) stated
Differ (Currencies currency stated) = StatedWrongly (λ c. c ≡ currency) stated
Differ (Numbers number stated) = WhereKnown (λ v. StatedWrongly (StatesAmount v) stated) number
Differ (Fractions frac stated) = StatedWrongly (StatesFraction frac) stated

-- a number of the schedule has at most twelve decimals, and a fraction is within the bounds of periods
abbrev pub CanBeCompared : Values → Type 0
CanBeCompared (Numbers (Some v) stated) = v.places ≤ 12
CanBeCompared (Fractions frac stated) = IsBoundedFraction frac
CanBeCompared _ = Unit {0}

-- ---- the breaks among the fields of a pair, and how its fields are counted

-- whether two ways to be counted are the same
abbrev pub same_standing : Standing → Standing → Bool
same_standing Compared Compared = true
same_standing Unstated Unstated = true
same_standing Unknown Unknown = true
same_standing _ _ = false

-- how many fields are counted this way
abbrev pub number_of : Standing → List FieldValues → ℕ
number_of way fields = count_by (λ f. same_standing (standing_of f.values) way) fields

-- how many fields are compared, unstated and unknown
abbrev pub counts_in : List FieldValues → Counts
counts_in fields = record {
  compared = number_of Compared fields;
  unstated = number_of Unstated fields;
  unknown = number_of Unknown fields;
}

-- one of the counts
abbrev pub counted_as : Standing → Counts → ℕ
counted_as Compared c = c.compared
counted_as Unstated c = c.unstated
counted_as Unknown c = c.unknown

-- the two values of a field can be compared
abbrev pub IsComparable : FieldValues → Type 0
IsComparable f = CanBeCompared f.values

-- the breaks are exactly the fields that differ, in order
abbrev pub AreBreaks : List FieldValues → List FieldValues → Type 0
AreBreaks [] breaks = breaks ≡ []
AreBreaks (f ∷ fs) breaks =
    (Differ f.values × ((rest : List FieldValues) × (breaks ≡ f ∷ rest) × AreBreaks fs rest))
    ⊎ ((¬ (Differ f.values)) × AreBreaks fs breaks)

-- a field differs exactly where it is compared and departs in the sense of the audit
pub record TiesTo (Departs : Field → Type 0) (f : FieldValues) : Type 0 where
  pub compared : Differ f.values → standing_of f.values ≡ Compared
  pub departs : Differ f.values → Departs f.field
  pub back : standing_of f.values ≡ Compared → Departs f.field → Differ f.values

-- ---- the fields of a pair of rows with the values of both sides, in order: one line a field

-- a field with its values
abbrev pub of : Field → Values → FieldValues
of name values = record { field = name; values = values }

-- a notional in units of 10^-4
abbrev pub notional_of : ℤ → Dec
notional_of units = record { units = units; places = 4 }

-- a rate in units of 10^-9, where it is known
abbrev pub rate_decimal : Option ℤ → Option Dec
rate_decimal None = None
rate_decimal (Some r) = Some (record { units = r; places = 9 })

-- the fields of a principal exchange
abbrev pub exchange_fields : Exchange → FlowExchange → List FieldValues
exchange_fields x y =
    of field.UnadjustedPrincipalExchangeDate (Dates x.unadjusted y.unadjusted)
    ∷ of field.AdjustedPrincipalExchangeDate (Dates x.adjusted y.adjusted)
    ∷ of field.PrincipalExchangeAmount (Numbers (Some x.amount) y.amount) ∷ []

-- the fields of a payment in the currency of its stream; the number of its calculation periods isn't one of
-- them
abbrev pub payment_fields : Currency → PaymentEntry → FlowPayment → List FieldValues
payment_fields currency x y =
    of field.UnadjustedPaymentDate (Dates x.unadjusted y.unadjusted)
    ∷ of field.AdjustedPaymentDate (Dates x.adjusted y.adjusted)
    ∷ of field.Currency (Currencies currency y.currency) ∷ of field.Amount (Numbers x.amount y.amount) ∷ []

-- the fields of a calculation period
abbrev pub period_fields : CalculationPeriod → FlowPeriod → List FieldValues
period_fields x y =
    of field.UnadjustedStartDate (Dates x.start y.start) ∷ of field.UnadjustedEndDate (Dates x.end y.end)
    ∷ of field.AdjustedStartDate (Dates x.adjusted_start y.adjusted_start)
    ∷ of field.AdjustedEndDate (Dates x.adjusted_end y.adjusted_end)
    ∷ of field.CalculationPeriodNumberOfDays (of_values.Counts x.days y.days)
    ∷ of field.NotionalAmount (Numbers (Some (notional_of x.notional)) y.notional)
    ∷ of field.Rate (Numbers (rate_decimal x.rate) y.rate) ∷ of field.DayCountYearFraction (Fractions x.frac y.fraction) ∷ []

-- what a period without a `rateObservation` states of its reset
abbrev pub reset_or_nothing : Option FlowReset → FlowReset
reset_or_nothing (Some y) = y
reset_or_nothing None = record { reset = None; fixing = None; observed = None }

-- the fields of a reset
abbrev pub reset_fields : Reset → FlowReset → List FieldValues
reset_fields x y =
    of field.ResetDate (Dates x.reset y.reset) ∷ of field.AdjustedFixingDate (Dates x.fixing y.fixing)
    ∷ of field.ObservedRate (Numbers (rate_decimal x.observed) y.observed) ∷ []

-- ---- what is found where a schedule is compared with cash flows, and how findings are joined in order

-- the breaks in order, and how the fields of each pair are counted, in the order of the pairs
pub record Findings : Type 0 where
  pub breaks : List Break
  pub pairs : List Counts

-- no break and no pair
abbrev pub no_findings : Findings
no_findings = record { breaks = []; pairs = [] }

-- some findings, followed by others
abbrev pub joined_findings : Findings → Findings → Findings
joined_findings a b = record { breaks = a.breaks ++ b.breaks; pairs = a.pairs ++ b.pairs }

-- a single break
abbrev pub one_break : Break → Findings
one_break b = record { breaks = b ∷ []; pairs = [] }

-- a single pair
abbrev pub one_pair : Counts → Findings
one_pair c = record { breaks = []; pairs = c ∷ [] }

-- the findings are exactly these
abbrev pub Exactly : Findings → Findings → Type 0
Exactly wanted list = list ≡ wanted

-- the findings of one kind, followed by those of another
pub record Then (P Q : Findings → Type 0) (list : Findings) : Type 0 where
  pub first : Findings
  pub second : Findings
  pub is_first : P first
  pub is_second : Q second
  pub is : list ≡ joined_findings first second

-- the findings of the places below n, one after the other; Is says which they are at a place
abbrev pub UpTo : (ℕ → Findings → Type 0) → ℕ → Findings → Type 0
UpTo Is zero list = list ≡ no_findings
UpTo Is (suc n) list = Then (UpTo Is n) (Is n) list

-- the findings of a row, where there is one
abbrev pub OnRow : {X : Type 0} → (X → Findings → Type 0) → Option X → Findings → Type 0
OnRow Told None list = list ≡ no_findings
OnRow Told (Some x) list = Told x list

-- the findings of the row at a place of a list
abbrev pub RowAt : {X : Type 0} → (X → Findings → Type 0) → List X → ℕ → Findings → Type 0
RowAt Told rows place list = OnRow Told (slice_get rows place) list

-- the findings of the rows of a list, one after the other
abbrev pub EachRow : {X : Type 0} → (X → Findings → Type 0) → List X → Findings → Type 0
EachRow Told rows list = UpTo (RowAt Told rows) (length rows) list

-- the values of a break can be printed: they have at most twelve decimals
abbrev pub IsPrintableWhat : What → Type 0
IsPrintableWhat (what.Missing v) = IfSome v (λ d. d.places ≤ 12)
IsPrintableWhat (what.Extra places v) = places ≤ 12
IsPrintableWhat (what.Undated places v) = places ≤ 12
IsPrintableWhat (what.Field f) = CanBeCompared f.values

-- a break can be printed: its values have at most twelve decimals
abbrev pub IsPrintable : Break → Type 0
IsPrintable b = IsPrintableWhat b.what
