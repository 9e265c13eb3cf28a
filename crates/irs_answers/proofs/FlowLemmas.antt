-- What is due for cash flows.
use Rattle.std.proofs.Common.{◌≡◌, inl, inr, Bool, true, false, List, Result, Ok, refl, sym, ◌∙◌, ap}
use Rattle.std.specs.Prelude.{IsTrue}
use Rattle.serde_json.specs.Data.{Data}
use Rattle.irs_answers.specs.Forms.{SourceText, IsPlacedRefusal}
use Rattle.irs_flows.specs.FlowFaults.{FlowFault}
use Rattle.irs_flows.specs.FlowReading.{flow_parts_in, flows_of_document, FlowPart, FlowsOf}
use Rattle.irs_flows.specs.declared.error.FlowErr.TheVariants as flowing
use Rattle.irs_answers.specs.declared.refusals.Refusal.{Refusal}
use Rattle.irs_answers.specs.declared.refusals.Refusal.TheVariants.{Calendars, Fixings, Flows, Memory, Rule, Unreadable}
use Rattle.irs_answers.specs.declared.refusals.Refusal.TheVariants.{UnreadableFlows}
use Rattle.irs_answers.specs.Tasks.{flows_in}
use Rattle.irs_answers.specs.Messages.{bad_flows}
use Rattle.irs_answers.specs.Due.{RefusedBy}
use Rattle.irs_answers.specs.Private.Outcomes.{FlowsRefused}
use Rattle.irs_answers.proofs.Agreement.{IsOne, Same, refused_as_agree, then_one}
use Rattle.irs_answers.proofs.DueLemmas.{one_value}
use Rattle.irs_answers.proofs.FirstLemmas.{one_first}

-- faulty cash flows are refused
pub refuse_flows : (file : SourceText) (r : Refusal) → FlowsRefused file r → RefusedBy (flows_in file) r
refuse_flows file (Unreadable u) h = absurd h
refuse_flows file (Rule b) h = absurd h
refuse_flows file (Calendars e) h = absurd h
refuse_flows file (Fixings e) h = absurd h
refuse_flows file (UnreadableFlows u) h = inl (tt, h.none, refl)
refuse_flows file (Flows (flowing.Shape how place)) (v, reads, h) =
    inr (v, reads, (h.fault, h.first, (λ i. (3, bad_flows (h.kind_is i) (h.place_is i)))))
refuse_flows file (Flows flowing.Memory) h = tt
refuse_flows file Memory h = tt

-- a refusal of flows says how they have no reading, if they have none, and nothing of a document
pub flows_placed : (file : SourceText) (r : Refusal) → FlowsRefused file r → (document : SourceText)
    → IsPlacedRefusal document file r
flows_placed file (Unreadable u) h document = absurd h
flows_placed file (Rule b) h document = tt
flows_placed file (Calendars e) h document = tt
flows_placed file (Fixings e) h document = tt
flows_placed file (UnreadableFlows u) h document = h
flows_placed file (Flows e) h document = tt
flows_placed file Memory h document = tt

-- a reading has one value
same_ok : {E : Type 0} (x y : Data) → (let r : Result Data E = Ok x in r ≡ Ok y) → x ≡ y
same_ok x y e = cc

one_reading_of : (v : Data) (f g : List FlowPart) → FlowsOf v f → FlowsOf v g → f ≡ g
one_reading_of v f g h k =
    let swaps : h.swap ≡ k.swap = same_ok h.swap k.swap (sym h.found ∙ k.found) in
    h.says ∙ ap (λ (d : Data). flow_parts_in d) swaps ∙ sym k.says

one_statement : (v : Data) → IsOne (flows_of_document v)
one_statement v = record {
  answers = one_reading_of v;
  refuses = λ b c h k. one_first (FlowFault v) c b k h;
  apart = λ f b of first. of.clean b first.0;
  back = λ f b first of. of.clean b first.0;
}

-- a text states one list of flows, or has one first fault
pub one_flows : (w : SourceText) → IsOne (flows_in w)
one_flows w =
    then_one Same _ _ (refused_as_agree Same _ _ _ (one_value w)) (λ v _.
    refused_as_agree Same _ _ _ (one_statement v))

-- a test that failed doesn't hold
pub not_true : (b : Bool) → b ≡ false → IsTrue b → ⊥
not_true true e h = cc
not_true false e h = cc
