-- Of each value it is true that it states cash flows or has a fault. So reading has one outcome: a document states one
-- list of flows, or one fault is its first.
use Rattle.irs_base.proofs.Firsts.{one_first}
use Rattle.irs_base.specs.{Outcomes.Determined, Outcomes.answered, Outcomes.refused}
use Rattle.irs_flows.specs.FlowFaults.{FlowFault}
use Rattle.irs_flows.specs.FlowReading.{FlowPart, FlowsOf, flow_parts_in, flows_of_document}
use Rattle.irs_read.specs.Documents.{Way, ended, the_swap}
use Rattle.irs_terms.proofs.FaultOrder.{broken_ties}
use Rattle.irs_terms.specs.{declared.places.Broken.Broken, Faults.IsFirstBroken, Faults.is_before}
use Rattle.serde_json.specs.Data.{Data}
use Rattle.std.proofs.Common.{arith, None, Err, sym, Ok}
use Rattle.std.proofs.Common.{refl, ap, ◌∙◌, ◌≡◌, List, Option, Some}

by_way : (d : Data) (w : Way) → the_swap d ≡ w → ((f : Broken) → FlowFault d f → ⊥)
    → (flows : List FlowPart) × FlowsOf d flows
by_way d (Ok at) found clean =
    (flow_parts_in at, record { clean = clean; swap = at; found = found; says = refl })
by_way d (Err f) found clean = absurd (clean f (ended f found))

-- a document without faults states cash flows
pub faultless_flows : (d : Data) → ((f : Broken) → FlowFault d f → ⊥) → (flows : List FlowPart) × FlowsOf d flows
faultless_flows d clean = by_way d (the_swap d) refl clean

-- the faults were considered: one outcome is left
pub flows_determined : (d : Data) (o : Option Broken) → IsFirstBroken (FlowFault d) o
    → Determined (flows_of_document d)
flows_determined d None clean =
    let (flows, is) = faultless_flows d clean in
    let one = λ (g : List FlowPart) (h : FlowsOf d g). let same : h.swap ≡ is.swap = grind (arith, h.found, is.found) in
    h.says ∙ ap flow_parts_in same ∙ sym is.says in
    answered flows (record { is = is; only = one }) (λ f first. clean f first.0)
flows_determined d (Some f) first =
    refused f
    (record { is = first; only = λ g h. one_first is_before broken_ties (FlowFault d) g f h first })
    (λ s flows. flows.clean f first.0)
