-- Reading a document has one outcome: it means one swap, or one rule is the first that it breaks.
use Rattle.irs_base.proofs.Firsts.{one_first}
use Rattle.irs_base.specs.Outcomes.{First, Determined, answered, refused}
use Rattle.irs_read.proofs.LawfulSwaps.{document_means, document_tells}
use Rattle.irs_read.specs.Documents.{DocumentFault, Means, Way, ended, swap_of_document, the_swap}
use Rattle.irs_read.specs.StreamElements.{SwapSays}
use Rattle.irs_terms.specs.declared.{places.Broken.Broken, stream_list.Swap.Swap}
use Rattle.irs_terms.{proofs.FaultOrder.broken_ties, specs.Faults.is_before}
use Rattle.serde_json.specs.{Data.Data, View.view, declared.value.Value.Value}
use Rattle.std.proofs.Common.{◌≡◌, Result, Ok, Err, refl, sym, subst, ◌∙◌}
use Rattle.std.specs.{Borrow.Bor, Prelude.IfErr, Prelude.IfOk}

-- a document means one swap at most
pub one_meaning : (d : Data) (s t : Swap) → Means d s → Means d t → s ≡ t
one_meaning d s t p q =
    let told = document_tells d q.at q.found q.clean in
    let same : p.at ≡ q.at = cc in
    told.only s (subst (λ (x : Data). SwapSays x s) same p.says) ∙ sym (told.only t q.says)

-- the way to the swap was taken, and the rules were considered: one outcome is left
pub document_determined : (d : Data) (outcome : Result (Bor Value) Broken)
    → IfOk outcome (λ swap. the_swap d ≡ Ok (view swap.now))
    → IfOk outcome (λ _. (f : Broken) → DocumentFault d f → ⊥)
    → IfErr outcome (First is_before (DocumentFault d))
    → Determined (swap_of_document d)
document_determined d (Ok swap) found clean broken =
    let told = document_tells d (view swap.now) found clean in
    let means = document_means d (view swap.now) told.is clean found (told.says told.is refl) in
    answered told.is (record { is = means; only = λ s h. one_meaning d s told.is h means })
    (λ f first. clean f first.0)
document_determined d (Err f) found clean broken =
    refused f
    (record { is = broken; only = λ g h. one_first is_before broken_ties (DocumentFault d) g f h broken })
    (λ s means. means.clean f broken.0)

by_way : (d : Data) (w : Way) → the_swap d ≡ w → ((f : Broken) → DocumentFault d f → ⊥) → (s : Swap) × Means d s
by_way d (Ok at) found clean =
    let told = document_tells d at found clean in
    (told.is, document_means d at told.is clean found (told.says told.is refl))
by_way d (Err f) found clean = absurd (clean f (ended f found))

-- a document that breaks no rule means a swap
pub faultless_means : (d : Data) → ((f : Broken) → DocumentFault d f → ⊥) → (s : Swap) × Means d s
faultless_means d clean = by_way d (the_swap d) refl clean
