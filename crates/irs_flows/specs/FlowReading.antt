-- The cash flows that a document states, and what reading them answers.
use Rattle.irs_base.specs.{Outcomes.First, Outcomes.Spec, Days.IsDay, Lists.Every, declared.line.Dec.Dec}
use Rattle.irs_elements.specs.{Codes.first_there, Elements.member, Elements.once, Elements.values_in, Numbers.whole_at}
use Rattle.irs_elements.specs.{Leaves.currency_at, Leaves.leaf_date_at, Numbers.amount_at, Numbers.fraction_at}
use Rattle.irs_flows.specs.FlowFaults.{payments_in, periods_in, flow_periods_of, FlowFault}
use Rattle.irs_flows.specs.declared.error.ShapeKind.TheVariants.{Count, Kind, Missing, NotJson, Profile, Unknown, Value}
use Rattle.irs_flows.specs.declared.error.{FlowErr.FlowErr, FlowErr.TheVariants.Memory, FlowErr.TheVariants.Shape}
use Rattle.irs_flows.specs.declared.flows.{FlowExchange.FlowExchange, FlowPayment.FlowPayment, FlowPeriod.FlowPeriod}
use Rattle.irs_flows.specs.declared.flows.{FlowReset.FlowReset, StatedFraction.StatedFraction}
use Rattle.irs_flows.specs.declared.error.ShapeKind.{ShapeKind}
use Rattle.irs_read.specs.{Readings.said, Documents.the_swap}
use Rattle.irs_terms.specs.Faults.{IsFirstBroken, is_before}
use Rattle.irs_terms.specs.declared.places.Rule.TheVariants.{K2, K3, K4, K5, K6, K7}
use Rattle.irs_terms.specs.{declared.places.Broken.Broken, declared.places.Place.Place, declared.places.Rule.Rule}
use Rattle.serde_json.specs.Data.{Data}
use Rattle.std.specs.Prelude.{List, ◌≡◌, length, sum_by, IfSome, map, Option, Some, option_map, codes, ◌≢◌, Ok}

-- ---- what is seen of cash flows: a list of parts, one a stream

-- the flows of one stream: its principal exchanges, its payments, and the calculation periods of all of its
-- payments, each in order
pub record FlowPart : Type 0 where
  pub exchanges : List FlowExchange
  pub payments : List FlowPayment
  pub periods : List FlowPeriod

-- ---- what all cash flows keep that are read from a document

-- the periods of a stream are those of its payments, and each adjusted date is in range where it is stated
pub record KeepsFlowBounds (g : FlowPart) : Type 0 where
  pub periods : length g.periods ≡ sum_by (λ (y : FlowPayment). y.periods) g.payments
  pub exchanges : Every (λ (y : FlowExchange). IfSome y.adjusted IsDay) g.exchanges
  pub payments : Every (λ (y : FlowPayment). IfSome y.adjusted IsDay) g.payments
  pub starts : Every (λ (y : FlowPeriod). IfSome y.adjusted_start IsDay) g.periods

-- each stream of the flows keeps these bounds
abbrev pub FlowsAreWithin : List FlowPart → Type 0
FlowsAreWithin f = Every KeepsFlowBounds f

-- ---- the cash flows that a document states: each field is the value of the leaf at its element, where the leaf occurs

-- the fields of a principal exchange
abbrev pub exchange_in : Data → FlowExchange
exchange_in d = record {
  unadjusted = said leaf_date_at (once (codes "unadjustedPrincipalExchangeDate") d);
  adjusted = said leaf_date_at (once (codes "adjustedPrincipalExchangeDate") d);
  amount = said amount_at (once (codes "principalExchangeAmount") d);
}

-- the fields of a payment
abbrev pub payment_in : Data → FlowPayment
payment_in d = record {
  unadjusted = said leaf_date_at (once (codes "unadjustedPaymentDate") d);
  adjusted = said leaf_date_at (once (codes "adjustedPaymentDate") d);
  periods = length (periods_in d);
  currency = said currency_at (member (codes "currency") (once (codes "forecastPaymentAmount") d));
  amount = said amount_at (member (codes "amount") (once (codes "forecastPaymentAmount") d));
}

-- the fields of a rate observation
abbrev pub flow_reset_in : Data → FlowReset
flow_reset_in d = record {
  reset = said leaf_date_at (once (codes "resetDate") d);
  fixing = said leaf_date_at (once (codes "adjustedFixingDate") d);
  observed = said amount_at (once (codes "observedRate") d);
}

-- a fraction with its value and its places
abbrev pub stated : Dec → StatedFraction
stated v = record { units = v.units; places = v.places }

-- the reset of a calculation period
abbrev pub reset_at : Data → Option FlowReset
reset_at d = option_map flow_reset_in (member (codes "rateObservation") (once (codes "floatingRateDefinition") d))

-- the fields of a calculation period
abbrev pub period_in : Data → FlowPeriod
period_in d = record {
  start = said leaf_date_at (once (codes "unadjustedStartDate") d);
  «end» = said leaf_date_at (once (codes "unadjustedEndDate") d);
  adjusted_start = said leaf_date_at (once (codes "adjustedStartDate") d);
  adjusted_end = said leaf_date_at (once (codes "adjustedEndDate") d);
  days = said whole_at (once (codes "calculationPeriodNumberOfDays") d);
  notional = said amount_at (once (codes "notionalAmount") d);
  rate = first_there (said amount_at (once (codes "fixedRate") d))
      (said amount_at (member (codes "calculatedRate") (once (codes "floatingRateDefinition") d)));
  fraction = option_map stated (said fraction_at (once (codes "dayCountYearFraction") d));
  reset = reset_at d;
}

-- the flows in a `cashflows` that may be absent
abbrev pub flows_in : Option Data → FlowPart
flows_in o = record {
  exchanges = map exchange_in (values_in (codes "principalExchange") o);
  payments = map payment_in (payments_in o);
  periods = map period_in (flow_periods_of (payments_in o));
}

-- the flows of a stream
abbrev pub flow_part_in : Data → FlowPart
flow_part_in d = flows_in (once (codes "cashflows") d)

-- the flows of a swap
abbrev pub flow_parts_in : Data → List FlowPart
flow_parts_in d = map flow_part_in (values_in (codes "swapStream") (Some d))

-- ---- the cash flows of a document, and the first fault that it has

-- the document has no fault, and the flows are those that its swap states
pub record FlowsOf (d : Data) (flows : List FlowPart) : Type 0 where
  pub clean : (f : Broken) → FlowFault d f → ⊥
  pub swap : Data
  pub found : the_swap d ≡ Ok swap
  pub says : flows ≡ flow_parts_in swap

-- the kind of a fault by the rule that is broken; no table of elements has a rule but K2 to K7
abbrev pub shape_kind_of : Rule → ShapeKind
shape_kind_of K2 = Missing
shape_kind_of K3 = Kind
shape_kind_of K4 = Unknown
shape_kind_of K5 = Profile
shape_kind_of K6 = Value
shape_kind_of K7 = Count
shape_kind_of k = NotJson

-- a refusal gives the kind and place of the first fault, and never says that the text is no JSON
pub record IsFirstShape (d : Data) (kind : ShapeKind) (place : Place) : Type 0 where
  pub fault : Broken
  pub first : IsFirstBroken (FlowFault d) (Some fault)
  pub kind_is : kind ≡ shape_kind_of fault.rule
  pub place_is : place ≡ fault.place
  pub read : kind ≢ NotJson

-- the error gives the first fault, or says that memory ran out
abbrev pub IsFirstFlowFault : Data → FlowErr → Type 0
IsFirstFlowFault d (Shape kind place) = IsFirstShape d kind place
IsFirstFlowFault d Memory = Unit {0}

-- ---- what reading cash flows answers, what it refuses, and what holds where memory ran out

-- the flows that the document states, or its first fault
abbrev pub flows_of_document : Data → Spec (List FlowPart) Broken
flows_of_document d = record {
  Answers = FlowsOf d;
  Refuses = First is_before (FlowFault d);
}

-- where memory ran out the document has no fault
abbrev pub HidesNone : Data → FlowErr → Type 0
HidesNone d (Shape _ _) = Unit {0}
HidesNone d Memory = (f : Broken) → FlowFault d f → ⊥
