-- A stub has one index and one tenor.
use Rattle.std.proofs.Common.{◌≡◌, ℕ, List, Option, Some, None, sym, ◌∙◌, subst}
use Rattle.std.proofs.lemmas.Option.{same_Some}
use Rattle.irs_terms.specs.declared.amounts.StubRate.{StubRate}
use Rattle.irs_terms.specs.declared.amounts.StubRate.TheVariants.{Index}
use Rattle.irs_terms.specs.declared.amounts.StubTerms.{StubTerms}
use Rattle.irs_terms.specs.declared.frequency.Frequency.{Frequency}
use Rattle.irs_terms.specs.declared.stream.Stream.{Stream}
use Rattle.irs_terms.specs.declared.stream_list.Swap.{Swap}
use Rattle.irs_average.specs.Interpolations.{GivesIndex, GivesOn}
use Rattle.irs_average.specs.declared.stubs.Side.{Side}

same_given : (i j : List ℕ) (f g : Option Frequency) → (let s : StubRate = Index i f in s ≡ Index j g)
    → (i ≡ j) × (f ≡ g)
same_given i j f g e = (cc, cc)

one_given : (side : Side) (o : Option StubTerms) (i j : List ℕ) (f g : Option Frequency) → GivesOn side o i f
    → GivesOn side o j g → (j ≡ i) × (g ≡ f)
one_given side None i j f g h k = absurd h
one_given side (Some stubs) i j f g h k = same_given j i g f (same_Some (Index j g) (Index i f) (sym k ∙ h))

-- a stub has one index and tenor
pub one_index : (swap : Swap) (n : ℕ) (side : Side) (i j : List ℕ) (f g : Option Frequency) → GivesIndex swap n side i f
    → GivesIndex swap n side j g → (j ≡ i) × (g ≡ f)
one_index swap n side i j f g h k =
    let s : k.stream ≡ h.stream = same_Some k.stream h.stream (sym k.at ∙ h.at) in
    one_given side h.stream.stubs i j f g h.gives (subst (λ (x : Stream). GivesOn side x.stubs j g) s k.gives)
