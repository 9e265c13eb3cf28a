-- A rule that members of a list break: the first of them, or none.
use Rattle.std.proofs.Common.{◌≡◌, ◌⊎◌, ℕ, zero, suc, ◌+◌, ◌-◌, ◌<◌, ◌≤◌, List, [], ◌∷◌, length, arith, refl, inl, inr}
use Rattle.std.proofs.Common.{Some, subst}
use Rattle.std.specs.List.{slice_get}
use Rattle.std.proofs.lemmas.Option.{slice_get_within}
use Rattle.irs_base.specs.Outcomes.{First}
use Rattle.irs_terms.specs.Faults.{fault_at, comes_before}
use Rattle.irs_base.specs.Private.Order.{IsDecided}
use Rattle.irs_terms.specs.declared.places.Rule.{Rule}
use Rattle.irs_terms.specs.declared.places.Fault.{Fault}
use Rattle.irs_base.proofs.MemberLemmas.{NoneOf, none_of_more}
use Rattle.irs_payments.specs.Exchanges.{BreaksIn}
use Rattle.irs_payments.proofs.FirstFaults.{FirstOrNone, told, not_before_index}

-- the member at a place
member_of : {X : Type 0} (xs : List X) (k : ℕ) → k < length xs → (x : X) × (slice_get xs k ≡ Some x)
member_of [] k h = absurd (omega arith)
member_of (x ∷ xs) zero h = (x, refl)
member_of (x ∷ xs) (suc k) h = member_of xs k (omega arith)

module _ {X : Type 0} (rule : Rule) (elem : ℕ) (P : X → Type 0) (xs : List X) where
  -- past the end of the list no element breaks the rule
  pub none_in : (i : ℕ) → length xs ≤ i → NoneOf P xs i → (f : Fault) → BreaksIn rule elem P xs f → ⊥
  none_in i le below f h =
      let within = slice_get_within xs (h.number - 1) h.bad.member h.bad.at in
      below h.number (omega (arith, within)) h.bad

  -- the first element that has P is the first to break the rule
  pub first_in : (i : ℕ) (x : X) → slice_get xs i ≡ Some x → P x → NoneOf P xs i
      → First comes_before (BreaksIn rule elem P xs) (fault_at rule elem (i + 1))
  first_in i x at bad below =
      let place : i + 1 - 1 ≡ i = omega arith in (
        record {
          number = i + 1;
          bad = record { from_one = omega arith; member = x; at = rw place at; holds = bad };
          is = refl;
        },
        λ g h. told (fault_at rule elem (i + 1)) g (fault_at rule elem (i + 1)) (fault_at rule elem h.number) refl h.is
            (not_before_index rule elem h.number (i + 1) (λ less. below h.number (omega (arith, less)) h.bad)),
      )

  -- of the first i members one is the first that has P, or none has it
  first_below : ((k : ℕ) (x : X) → slice_get xs k ≡ Some x → IsDecided (P x)) → (i : ℕ) → i ≤ length xs
      → ((f : Fault) × First comes_before (BreaksIn rule elem P xs) f) ⊎ NoneOf P xs i
  first_below decided zero le = inr (λ n low h. absurd (omega (arith, low, h.from_one)))
  first_below decided (suc i) le = elim (first_below decided i (omega (arith, le))) [
    | inl found ↦ inl found
    | inr none ↦
        let here = member_of xs i (omega (arith, le)) in
        let one : i + 1 ≡ suc i = omega arith in
        elim (decided i here.0 here.1) [
          | inl bad ↦ inl (fault_at rule elem (i + 1), first_in i here.0 here.1 bad none)
          | inr good ↦ inr (subst (λ (k : ℕ). NoneOf P xs k) one (none_of_more P xs i here.0 here.1 good none))
        ]
  ]

  -- where each member has P or not, one is the first that has it, or none has it
  pub decides_in : ((k : ℕ) (x : X) → slice_get xs k ≡ Some x → IsDecided (P x)) → FirstOrNone (BreaksIn rule elem P xs)
  decides_in decided = elim (first_below decided (length xs) (omega arith)) [
    | inl found ↦ inl found
    | inr none ↦ inr (none_in (length xs) (omega arith) none)
  ]
