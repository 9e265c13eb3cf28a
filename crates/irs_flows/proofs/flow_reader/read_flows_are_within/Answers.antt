use Rattle.irs_base.specs.{Days.IsDay, Lists.Every}
use Rattle.irs_elements.proofs.DatesAt.{day_range}
use Rattle.irs_elements.specs.{Elements.leaf_text_in, Elements.once, Leaves.leaf_date_at}
use Rattle.irs_flows.proofs.flow_reader.read_flows_are_within.Goals as goal
use Rattle.irs_flows.specs.FlowFaults.{flow_periods_of, payments_in, periods_in}
use Rattle.irs_flows.specs.FlowReading.{KeepsFlowBounds, exchange_in, flow_part_in, flows_in, payment_in, period_in}
use Rattle.irs_flows.specs.declared.flows.FlowPayment.{FlowPayment}
use Rattle.irs_read.proofs.Ranges.{said_in}
use Rattle.irs_read.specs.Readings.{said}
use Rattle.serde_json.specs.Data.{Data}
use Rattle.std.proofs.Common.{◌+◌, ◌∙◌, List, [], ◌∷◌, map, Option, IfSome, sym, codes}
use Rattle.std.proofs.lemmas.List.{Concat.length-flat_map, Folds.fold-map, length-map}

-- the day of a leaf is in range
day_in : (o : Option Data) → IfSome (said leaf_date_at o) IsDay
day_in o = said_in IsDay leaf_date_at day_range (leaf_text_in o)

-- what holds of each row that is made holds of all
every_made : {X Y : Type 0} (P : Y → Type 0) (f : X → Y) (xs : List X) → ((x : X) → P (f x)) → Every P (map f xs)
every_made P f [] h = tt
every_made P f (x ∷ xs) h = (h x, every_made P f xs h)

-- the flows of a `cashflows` keep the bounds
flows_within : (o : Option Data) → KeepsFlowBounds (flows_in o)
flows_within o = record {
  periods = length-map (flow_periods_of (payments_in o)) period_in ∙ length-flat_map periods_in (payments_in o)
      ∙ sym (fold-map (λ n (y : FlowPayment). n + y.periods) payment_in 0 (payments_in o));
  exchanges = every_made _ exchange_in _ (λ d. day_in (once (codes "adjustedPrincipalExchangeDate") d));
  payments = every_made _ payment_in _ (λ d. day_in (once (codes "adjustedPaymentDate") d));
  starts = every_made _ period_in _ (λ d. day_in (once (codes "adjustedStartDate") d));
}

pub returns : goal.returns
returns c d flows h =
    rw h.says (every_made KeepsFlowBounds flow_part_in _ (λ s. flows_within (once (codes "cashflows") s)))
