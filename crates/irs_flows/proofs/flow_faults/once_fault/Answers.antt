use Rattle.irs_elements.proofs.First.{first_one}
use Rattle.irs_flows.proofs.flow_faults.once_fault.Goals as goal
use Rattle.irs_flows.specs.FlowFaults.{OnceFault, flow_broken_at}
use Rattle.irs_terms.specs.declared.places.Rule.TheVariants.{K7}
use Rattle.irs_terms.specs.{Elements.cashflows, Faults.IsFirstBroken}
use Rattle.serde_json.specs.{Data.Data, View.view}
use Rattle.std.proofs.Common.{ℕ, ◌≤◌, List, ◌∷◌, length, Some, ap, arith, refl}
use Rattle.std.proofs.lemmas.List.{length-map}

many : (stream : ℕ) (ds : List Data) → 2 ≤ length ds
    → IsFirstBroken (OnceFault stream ds) (Some (flow_broken_at stream K7 cashflows))
many stream (a ∷ b ∷ rest) h = first_one _ _ refl (λ g is. is)
many stream _ h = absurd (omega arith)

pub returns-in-len2-up : goal.returns-in-len2-up
returns-in-len2-up c =
    let long = length-map c.values_at.result.now view in
    rw c.at-in-len2-up.ensures
    (many _ _ (omega (arith, long, ap length c.values_at.ensures, c.in-len2-up.len_at_least)))
