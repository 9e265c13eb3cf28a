-- The elements of cash flows, and the faults of a document of them.
use Rattle.std.specs.Prelude.{ℕ, ◌+◌, ◌-◌, List, [], ◌∷◌, drop, take, ◌≡◌, ◌⊎◌, ◌<◌, ◌≤◌, nat_le, Bool, true, not, ◌&&◌}
use Rattle.std.specs.Prelude.{length, Option, Some, None, is_some, option_and_then, codes, if◌then◌else◌}
use Rattle.serde_json.specs.Data.{Data}
use Rattle.std.specs.List.{flat_map}
use Rattle.irs_terms.specs.Elements.{cashflows, flow_period, swap, swap_stream}
use Rattle.irs_terms.specs.declared.places.Rule.TheVariants.{K2, K3, K7}
use Rattle.irs_base.specs.{Limits.most_rows}
use Rattle.irs_terms.specs.{Paths.printed_paths, declared.places.Broken.Broken, declared.places.Rule.Rule}
use Rattle.irs_json.specs.Leaves.{child_of, element_names}
use Rattle.irs_elements.specs.Lines.{Table, others_at, leaf, line, line_below, table_names, object, table_rows}
use Rattle.irs_elements.specs.declared.table.Count.TheVariants.{Maybe, UpTo}
use Rattle.irs_elements.specs.declared.table.Leaf.TheVariants.{Amount, CurrencyName, Date, Fraction, Whole}
use Rattle.irs_elements.specs.Elements.{FaultAt, has_odd, values_in}
use Rattle.irs_elements.specs.declared.table.{Row.Row, Choice.TheVariants.Free, Kind.TheVariants.Object}
use Rattle.irs_read.specs.Documents.{Among, FaultOfStreams, FaultOfSwap, WithMembers}

-- ---- the elements of cash flows (FpML's `cashflows` of an InterestRateStream), line by line: the path, what is there,
-- and how often
-- Which elements are in the profile, their counts and their order are our rule.

-- the table of `cashflows`; its calculation periods are passed over here, each is looked into with its
-- number in the stream
unfoldable pub flow_table : Table
flow_table = record {
  whole = "cashflows";
  top = "";
  lines =
      line "principalExchange" object (UpTo most_rows)
      ∷ line "principalExchange/unadjustedPrincipalExchangeDate" (leaf Date) Maybe
      ∷ line "principalExchange/adjustedPrincipalExchangeDate" (leaf Date) Maybe
      ∷ line "principalExchange/principalExchangeAmount" (leaf Amount) Maybe
      ∷ line "paymentCalculationPeriod" object (UpTo most_rows)
      ∷ line "paymentCalculationPeriod/unadjustedPaymentDate" (leaf Date) Maybe
      ∷ line "paymentCalculationPeriod/adjustedPaymentDate" (leaf Date) Maybe
      ∷ line "paymentCalculationPeriod/forecastPaymentAmount" object Maybe
      ∷ line "paymentCalculationPeriod/forecastPaymentAmount/currency" (leaf CurrencyName) Maybe
      ∷ line "paymentCalculationPeriod/forecastPaymentAmount/amount" (leaf Amount) Maybe
      ∷ [];
  passed =
      others_at "" ("cashflowsMatchParameters" ∷ [])
      ∷ others_at "principalExchange" ("discountFactor" ∷ "presentValuePrincipalExchangeAmount" ∷ [])
      ∷ others_at "paymentCalculationPeriod" ("discountFactor" ∷ "presentValueAmount" ∷ "calculationPeriod" ∷ [])
      ∷ [];
  refused = others_at "paymentCalculationPeriod" ("fixedPaymentAmount" ∷ []) ∷ [];
}

-- the table of a calculation period
unfoldable pub period_table : Table
period_table = record {
  whole = "calculationPeriod";
  top = "calculationPeriod";
  lines =
      line "calculationPeriod/unadjustedStartDate" (leaf Date) Maybe
      ∷ line "calculationPeriod/unadjustedEndDate" (leaf Date) Maybe
      ∷ line "calculationPeriod/adjustedStartDate" (leaf Date) Maybe
      ∷ line "calculationPeriod/adjustedEndDate" (leaf Date) Maybe
      ∷ line "calculationPeriod/calculationPeriodNumberOfDays" (leaf Whole) Maybe
      ∷ line "calculationPeriod/notionalAmount" (leaf Amount) Maybe
      ∷ line "calculationPeriod/fixedRate" (leaf Amount) Maybe
      ∷ line "calculationPeriod/dayCountYearFraction" (leaf Fraction) Maybe
      ∷ line "calculationPeriod/floatingRateDefinition" object Maybe
      ∷ line "calculationPeriod/floatingRateDefinition/calculatedRate" (leaf Amount) Maybe
      ∷ line_below "calculationPeriod/floatingRateDefinition" "rateObservation" object Maybe
      ∷ line "rateObservation/resetDate" (leaf Date) Maybe
      ∷ line "rateObservation/adjustedFixingDate" (leaf Date) Maybe
      ∷ line "rateObservation/observedRate" (leaf Amount) Maybe
      ∷ [];
  passed =
      others_at "calculationPeriod" ("forecastAmount" ∷ "forecastRate" ∷ [])
      ∷ others_at "calculationPeriod/floatingRateDefinition" ("floatingRateMultiplier" ∷ "spread" ∷ [])
      ∷ others_at "rateObservation" ("treatedRate" ∷ "observationWeight" ∷ "forecastRate" ∷ [])
      ∷ [];
  refused =
      others_at "calculationPeriod" ("fxLinkedNotionalAmount" ∷ [])
      ∷ others_at "calculationPeriod/floatingRateDefinition" ("capRate" ∷ "floorRate" ∷ [])
      ∷ [];
}

-- the elements of `cashflows` in the table of paths, and those of a calculation period after them
unfoldable pub flow_elements : List (List ℕ)
flow_elements = take (flow_period - (cashflows + 1)) (drop (cashflows + 1) printed_paths)

-- the elements below a calculation period
unfoldable pub period_elements : List (List ℕ)
period_elements = drop (flow_period + 1) printed_paths

-- the rows that the lines of `cashflows` give
unfoldable pub flow_rows : List Row
flow_rows = table_rows printed_paths flow_table

-- the names that the lines of `cashflows` give
unfoldable pub flow_names : List (List ℕ)
flow_names = table_names flow_table

-- the rows that the lines of a calculation period give
unfoldable pub period_table_rows : List Row
period_table_rows = table_rows printed_paths period_table

-- the names that the lines of a calculation period give
unfoldable pub period_names : List (List ℕ)
period_names = table_names period_table

-- ---- the faults of a document of cash flows

-- a rule that is broken in a stream, or outside the streams, at an element without index
abbrev pub flow_broken_at : ℕ → Rule → ℕ → Broken
flow_broken_at stream rule elem = record { rule = rule; place = record { stream = stream; elem = elem; index = 0 } }

-- the fault x, where the test is true
abbrev pub FaultIf : Bool → Broken → Broken → Type 0
FaultIf b x f = (b ≡ true) × (f ≡ x)

-- ---- an object of which most members are passed over

-- d is an object, and its `@id` and `@href`, where they occur, are texts
abbrev pub is_sound : Data → Bool
is_sound d = is_some (element_names d) && not (has_odd d)

-- a value that is not such an object breaks K3
abbrev pub OwnFault : ℕ → ℕ → Data → Broken → Type 0
OwnFault stream elem d = FaultIf (not (is_sound d)) (flow_broken_at stream K3 elem)

-- ---- calculation periods

-- the one value of a list
abbrev pub sole : List Data → Option Data
sole [] = None
sole (x ∷ []) = Some x
sole (x ∷ y ∷ rest) = None

-- whether the one `floatingRateDefinition` of a period has a `calculatedRate`
abbrev pub has_calculated_rate : Data → Bool
has_calculated_rate d =
    is_some (option_and_then (child_of (codes "calculatedRate"))
    (sole (values_in (codes "floatingRateDefinition") (Some d))))

-- whether a period has both rates
abbrev pub has_both_rates : Data → Bool
has_both_rates d = is_some (child_of (codes "fixedRate") d) && has_calculated_rate d

-- the faults of the calculation period with this number: those of its table, and that it has both rates
abbrev pub PeriodFault : ℕ → ℕ → Data → Broken → Type 0
PeriodFault stream number d f =
    FaultAt period_table_rows period_names stream 0 (Object Free) number d f
    ⊎ FaultIf (has_both_rates d) (flow_broken_at stream K7 flow_period) f

-- the calculation periods of a payment
abbrev pub periods_in : Data → List Data
periods_in d = values_in (codes "calculationPeriod") (Some d)

-- the calculation periods of payments, in order
abbrev pub flow_periods_of : List Data → List Data
flow_periods_of payments = flat_map periods_in payments

-- the faults of all calculation periods of a stream, which are numbered from 1
pub data PeriodsFault (stream : ℕ) (ds : List Data) : Broken → Type 0 where
  -- there are too many of them
  many_periods : most_rows < length ds → PeriodsFault stream ds (flow_broken_at stream K7 flow_period)
  -- there are not, and one of them has the fault
  in_period : (f : Broken) → length ds ≤ most_rows → Among (λ j. PeriodFault stream (j + 1)) ds f
      → PeriodsFault stream ds f

-- ---- the cash flows of a stream

-- the payments of cash flows; where there are too many, none of them is looked into
abbrev pub few : List Data → List Data
few ds = if nat_le (length ds) most_rows then ds else []

-- the payments of a `cashflows` that may be absent; none of them is looked into where there are too many
abbrev pub payments_in : Option Data → List Data
payments_in o = few (values_in (codes "paymentCalculationPeriod") o)

-- the faults of cash flows: those of their table, and those of the periods of their payments
abbrev pub CashflowsFault : ℕ → Data → Broken → Type 0
CashflowsFault stream d f =
    FaultAt flow_rows flow_names stream 0 (Object Free) 0 d f
    ⊎ PeriodsFault stream (flow_periods_of (payments_in (Some d))) f

-- the faults of the values of `cashflows`, which occurs once
abbrev pub OnceFault : ℕ → List Data → Broken → Type 0
OnceFault stream [] f = f ≡ flow_broken_at stream K2 cashflows
OnceFault stream (x ∷ []) f = CashflowsFault stream x f
OnceFault stream (x ∷ y ∷ rest) f = f ≡ flow_broken_at stream K7 cashflows

-- the faults of the stream with this number: its own, and where it is an object those of its cash flows
abbrev pub FlowStreamFault : ℕ → Data → Broken → Type 0
FlowStreamFault number d =
    WithMembers (OwnFault number swap_stream d) (OnceFault number (values_in (codes "cashflows") (Some d))) d

-- ---- the document

-- the faults of streams: one to eight occur, and each may have faults
abbrev pub FlowStreamsFault : List Data → Broken → Type 0
FlowStreamsFault ds = FaultOfStreams (λ j. FlowStreamFault (j + 1)) ds

-- the faults of a swap: its own, and where it is an object those of its streams
abbrev pub FlowSwapFault : Data → Broken → Type 0
FlowSwapFault d = WithMembers (OwnFault 0 swap d) (FlowStreamsFault (values_in (codes "swapStream") (Some d))) d

-- the faults of a document of cash flows: a rule ends the way to its swap, or the swap has the fault
abbrev pub FlowFault : Data → Broken → Type 0
FlowFault d = FaultOfSwap FlowSwapFault d
