-- Of faults that are decided up to a limit, one is the first, or there is none.
use Rattle.std.proofs.Common.{◌≡◌, ◌⊎◌, inl, inr, ℕ, zero, suc, ◌<◌, Option, Some, None, refl, subst, arith}
use Rattle.std.proofs.lemmas.Bool.{cases_lt}
use Rattle.irs_base.specs.Outcomes.{First, IsFirst, earlier}
use Rattle.irs_terms.specs.Faults.{comes_before}
use Rattle.irs_base.specs.Private.Order.{IsDecided}
use Rattle.irs_terms.specs.declared.places.Fault.{Fault}
use Rattle.irs_terms.proofs.FaultOrder.{fault_order}
use Rattle.irs_base.proofs.Firsts.{first_one, first_or, first_same}

-- f is the fault of one of the numbers below n that have P
pub record Among (fault : ℕ → Fault) (P : ℕ → Type 0) (n : ℕ) (f : Fault) : Type 0 where
  pub number : ℕ
  pub within : number < n
  pub holds : P number
  pub is : f ≡ fault number

module _ (fault : ℕ → Fault) (P : ℕ → Type 0) where
  -- the fault of the number n itself
  abbrev Here : ℕ → Fault → Type 0
  Here n f = P n × (f ≡ fault n)

  wider : (n : ℕ) (f : Fault) → Among fault P n f → Among fault P (suc n) f
  wider n f h = record { number = h.number; within = omega (arith, h.within); holds = h.holds; is = h.is }

  split : (n : ℕ) (f : Fault) → Among fault P (suc n) f → Among fault P n f ⊎ Here n f
  split n f h = elim (cases_lt h.number n) [
    | inl low ↦ inl (record { number = h.number; within = low; holds = h.holds; is = h.is })
    | inr high ↦
        let same : h.number ≡ n = omega (arith, high, h.within) in
        inr (subst P same h.holds, subst (λ (k : ℕ). f ≡ fault k) same h.is)
  ]

  join : (n : ℕ) (f : Fault) → Among fault P n f ⊎ Here n f → Among fault P (suc n) f
  join n f (inl h) = wider n f h
  join n f (inr h) = record { number = n; within = omega arith; holds = h.0; is = h.1 }

  -- the first fault, or that there is none
  abbrev Answer : (Fault → Type 0) → Type 0
  Answer Q = (answer : Option Fault) × IsFirst comes_before Q answer

  here : (n : ℕ) → IsDecided (P n) → Answer (Here n)
  here n (inl holds) =
      (Some (fault n), first_one comes_before fault_order (Here n) (fault n) (holds, refl) (λ f h. h.1))
  here n (inr not) = (None, λ f h. not h.0)

  answer_among : (n : ℕ) → ((i : ℕ) → i < n → IsDecided (P i)) → Answer (Among fault P n)
  answer_among zero decides = (None, λ f h. omega (arith, h.within))
  answer_among (suc n) decides =
      let before = answer_among n (λ i low. decides i (omega (arith, low))) in
      let last = here n (decides n (omega arith)) in (
        earlier comes_before before.0 last.0,
        first_same comes_before (λ f. Among fault P n f
            ⊎ Here n f) (Among fault P (suc n)) (earlier comes_before before.0 last.0) (join n) (split n)
            (first_or comes_before fault_order (Among fault P n) (Here n) before.0 last.0 before.1 last.1),
      )

  -- one of them is the first, or there is none
  pub first_among : (n : ℕ) → ((i : ℕ) → i < n → IsDecided (P i))
      → ((f : Fault) × First comes_before (Among fault P n) f) ⊎ ((f : Fault) → Among fault P n f → ⊥)
  first_among n decides = of_answer (answer_among n decides)
    where
      of_answer : Answer (Among fault P n) → ((f : Fault) × First comes_before (Among fault P n) f)
          ⊎ ((f : Fault) → Among fault P n f → ⊥)
      of_answer (None, none) = inr none
      of_answer (Some f, first) = inl (f, first)
