-- The streams of a document have sides, or a first one breaks K8.
use Rattle.std.proofs.Common.{◌≡◌, ◌⊎◌, inl, inr, ℕ, zero, suc, ◌+◌, ◌≤◌, Bool, false, List, [], ◌∷◌, length, set}
use Rattle.std.proofs.Common.{get_or, Option, Some, None, refl, ap, arith}
use Rattle.std.specs.Prelude.{slice_get}
use Rattle.std.proofs.lemmas.Option.{slice_get-get_or}
use Rattle.serde_json.specs.Data.{Data}
use Rattle.irs_base.specs.Limits.{most_streams}
use Rattle.irs_base.specs.Outcomes.{First}
use Rattle.irs_terms.specs.Faults.{is_before}
use Rattle.irs_terms.specs.declared.places.Broken.{Broken}
use Rattle.irs_terms.specs.declared.stream_list.Swap.{Swap}
use Rattle.irs_read.specs.Documents.{Means}
use Rattle.irs_read.specs.Readings.{streams_in}
use Rattle.irs_net.specs.Parties.{AreSides, BreaksK8, BreaksK8Of, SidesOf, broken_at}
use Rattle.irs_net.specs.Private.FoundParties.{SidesTo, side_in}
use Rattle.irs_net.specs.declared.sides.Sides.{Sides}
use Rattle.irs_net.proofs.SideLemmas.{first_k8, first_of, sides_done, sides_more, streams_few}

-- that many streams that aren't forward
none_forward : ℕ → List Bool
none_forward zero = []
none_forward (suc n) = false ∷ none_forward n

-- there are that many, and none is forward
many_of : (n : ℕ) → length (none_forward n) ≡ n
unfolding none_forward
many_of zero = refl
many_of (suc n) = ap suc (many_of n)

false_at : (n i : ℕ) → get_or (none_forward n) i false ≡ false
unfolding none_forward
false_at zero i = refl
false_at (suc n) zero = refl
false_at (suc n) (suc i) = false_at n i

-- before the first stream there is none to have a side
at_first : (streams : List Data) → SidesTo streams 0 (none_forward 8)
at_first streams = record {
  count = many_of 8;
  each = λ first stream i low. absurd (omega (arith, low));
  past = λ i behind. false_at 8 i;
}

-- the streams have sides, or one is the first that breaks K8
abbrev SidesOrK8 : List Data → Type 0
SidesOrK8 streams =
    ((sides : Sides) × AreSides streams sides) ⊎ ((b : Broken) × First is_before (BreaksK8 streams) b)

module _ (streams : List Data) (few : length streams ≤ most_streams) (first : Data)
    (begins : slice_get streams 0 ≡ Some first) where
  -- the next stream is the first that breaks K8, or has a side
  one_more : (i : ℕ) (forward : List Bool) (stream : Data) → slice_get streams i ≡ Some stream
      → SidesTo streams i forward → (o : Option Bool) → side_in first stream ≡ o
      → ((side : Bool) → side_in first stream ≡ Some side → SidesOrK8 streams) → SidesOrK8 streams
  one_more i forward stream there to None none rest =
      inr (broken_at (i + 1), first_k8 streams i forward first stream begins there none to)
  one_more i forward stream there to (Some side) found rest = rest side found

  -- n streams from the place on, where those before it have these sides
  onward : (n i : ℕ) (forward : List Bool) → i + n ≡ length streams → SidesTo streams i forward → SidesOrK8 streams
  onward zero i forward e to =
      let done : i ≡ length streams = omega (arith, e) in
      inl (
        record { forward = forward; count = length streams },
        sides_done streams i (length streams) forward done refl to,
      )
  onward (suc n) i forward e to =
      let own = get_or streams i first in
      let there = slice_get-get_or streams i first (omega (arith, e)) in
      one_more i forward own there to (side_in first own) refl (λ side found.
      onward n (i + 1) (set forward i side) (omega (arith, e))
      (sides_more streams i forward first own side begins there (omega (arith, e, few)) found to))

-- at most eight streams have sides, or one is the first that breaks K8
sides_or_k8 : (streams : List Data) → length streams ≤ most_streams → SidesOrK8 streams
sides_or_k8 [] few =
    inl (record { forward = none_forward 8; count = 0 }, sides_done [] 0 0 (none_forward 8) refl refl (at_first []))
sides_or_k8 (x ∷ xs) few =
    onward (x ∷ xs) few x refl (length (x ∷ xs)) 0 (none_forward 8) (omega arith) (at_first (x ∷ xs))

-- the streams of a document that means a swap have sides, or one is the first that breaks K8
pub sides_or_broken : (d : Data) (swap : Swap) → Means d swap
    → ((sides : Sides) × SidesOf d sides) ⊎ ((b : Broken) × First is_before (BreaksK8Of d) b)
sides_or_broken d swap means =
    let few = streams_few d means.at means.clean means.found in
    elim (sides_or_k8 (streams_in means.at) few.1) [
      | inl there ↦ inl (there.0, record { swap = means.at; found = means.found; are = there.1 })
      | inr broken ↦ inr (broken.0, first_of d means.at (streams_in means.at) broken.0 means.found refl broken.1)
    ]
