-- The first rule that a document breaks, from where the way to its swap leads.
use Rattle.irs_elements.proofs.First.{first_one, first_same}
use Rattle.irs_read.specs.Documents.{FaultOfSwap, below, ended, the_swap}
use Rattle.irs_terms.specs.{Faults.IsFirstBroken, declared.places.Broken.Broken}
use Rattle.serde_json.specs.Data.{Data}
use Rattle.std.proofs.Common.{◌≡◌, Option, Some, Ok, Err}

module _ (P : Data → Broken → Type 0) (d : Data) where
  -- what ends the way to the swap is the first broken rule
  pub ended_first : (f : Broken) → the_swap d ≡ Err f → IsFirstBroken (FaultOfSwap P d) (Some f)
  ended_first f e = first_one _ f (ended f e) (λ g q. elim q [ ended _ h ↦ cc | below s _ h p ↦ cc ])

  -- the first broken rule of the swap is that of the document
  pub below_first : (s : Data) (a : Option Broken) → the_swap d ≡ Ok s → IsFirstBroken (P s) a
      → IsFirstBroken (FaultOfSwap P d) a
  below_first s a e p = first_same _ _ a (λ f q. below s f e q) (λ g q. elim q [
    | ended _ h ↦ cc
    | below t _ h r ↦ let same : t ≡ s = cc in rw same at r
  ]) p
