-- The first payment without an amount, by stream and by payment.
use Rattle.std.proofs.Common.{◌≡◌, inl, inr, ℕ, ◌+◌, ◌-◌, ◌≤◌, List, [], ◌∷◌, length, Option, Some, None, refl, sym}
use Rattle.std.proofs.Common.{ap, subst, ◌∙◌, arith, suc, false}
use Rattle.std.specs.Prelude.{IsSome, nat_lt, slice_get}
use Rattle.std.proofs.lemmas.Bool.{cases_order}
use Rattle.std.proofs.lemmas.Option.{slice_get_within}
use Rattle.irs_base.specs.Lists.{Every, HoldsOf}
use Rattle.irs_base.specs.Outcomes.{First}
use Rattle.irs_base.proofs.Firsts.{level_later, level_same, lt_false}
use Rattle.irs_base.proofs.MemberLemmas.{NoneOf, some_is}
use Rattle.irs_base.specs.declared.line.Dec.{Dec}
use Rattle.irs_schedule.specs.Parts.{Part}
use Rattle.irs_schedule.specs.declared.entries.PaymentEntry.{PaymentEntry}
use Rattle.irs_unfixed.specs.Unfixed.{EachHasAmount, UnfixedAt, LacksAmount, place_before}
use Rattle.irs_unfixed.specs.declared.places.PaymentPlace.{PaymentPlace}

-- ---- numbers of a list

-- the member at a place has its number
pub holds_at : {X : Type 0} (P : X → Type 0) (xs : List X) (i : ℕ) (x : X) → slice_get xs i ≡ Some x → P x
    → HoldsOf P xs (i + 1)
holds_at P xs i x at holds =
    let back : i ≡ i + 1 - 1 = omega arith in
    record {
      from_one = omega arith;
      member = x;
      at = subst (λ (j : ℕ). slice_get xs j ≡ Some x) back at;
      holds = holds;
    }

-- the number after those of which none has it is the first
pub first_number : {X : Type 0} (P : X → Type 0) (xs : List X) (i : ℕ) (x : X) → slice_get xs i ≡ Some x → P x
    → NoneOf P xs i → First nat_lt (HoldsOf P xs) (i + 1)
first_number P xs i x at holds none =
    (holds_at P xs i x at holds, λ n h. lt_false n (i + 1) (λ less. none n (omega (arith, less)) h))

-- where none of all has it there is none
pub none_number : {X : Type 0} (P : X → Type 0) (xs : List X) (i : ℕ) → length xs ≤ i → NoneOf P xs i → (n : ℕ)
    → HoldsOf P xs n → ⊥
none_number P xs i all none n h =
    let within = slice_get_within xs (n - 1) h.member h.at in none n (omega (arith, all, within)) h

-- ---- places of a schedule

-- the payment with this number lacks its amount
abbrev pub LacksOf : ℕ → Part → Type 0
LacksOf payment p = HoldsOf LacksAmount p.payments payment

-- no payment of the first streams lacks its amount
abbrev pub NoneIn : List Part → ℕ → Type 0
NoneIn parts i = (payment : ℕ) → NoneOf (LacksOf payment) parts i

module _ (parts : List Part) (i : ℕ) (p : Part) (at : slice_get parts i ≡ Some p) (none : NoneIn parts i) where
  later_place : (k : ℕ) → First nat_lt (HoldsOf LacksAmount p.payments) k → (v : PaymentPlace) → UnfixedAt parts v
      → place_before v (record { stream = i + 1; payment = k }) ≡ false
  later_place k first v h = elim (cases_order v.stream (i + 1)) [
    | inl same ↦
        let place : v.stream - 1 ≡ i = omega (arith, same) in
        let member : h.member ≡ p =
        some_is h.member p (sym h.at ∙ ap (λ (j : ℕ). slice_get parts j) place ∙ at) in
        level_same v.stream (i + 1) (nat_lt v.payment k) same
        (first.1 v.payment (subst (LacksOf v.payment) member h.holds))
    | inr (inl less) ↦ absurd (none v.payment v.stream (omega (arith, less)) h)
    | inr (inr more) ↦ level_later v.stream (i + 1) (nat_lt v.payment k) more
  ]

  -- the first of the next stream that has one is the first of all
  pub first_place : (k : ℕ) → First nat_lt (HoldsOf LacksAmount p.payments) k
      → First place_before (UnfixedAt parts) (record { stream = i + 1; payment = k })
  first_place k first = (holds_at (LacksOf k) parts i p at first.0, later_place k first)

-- where no stream has one no payment lacks its amount
pub none_place : (parts : List Part) (i : ℕ) → length parts ≤ i → NoneIn parts i → (u : PaymentPlace) → UnfixedAt parts u → ⊥
none_place parts i all none u h = none_number (LacksOf u.payment) parts i all (none u.payment) u.stream h

-- ---- every amount is there

some_amount : (o : Option Dec) → (o ≡ None → ⊥) → IsSome o
some_amount None h = absurd (h refl)
some_amount (Some v) h = refl

-- where no member lacks what is looked for each has it
each_there : {X : Type 0} (P Q : X → Type 0) (xs : List X) → ((x : X) → (P x → ⊥) → Q x)
    → ((n : ℕ) → HoldsOf P xs n → ⊥) → Every Q xs
each_there P Q [] has none = tt
each_there P Q (x ∷ xs) has none = (
  has x (λ h. none 1 (holds_at P (x ∷ xs) 0 x refl h)),
  each_there P Q xs has (λ n h.
      let low = h.from_one in
      let on : suc (n - 1) ≡ suc n - 1 = omega (arith, low) in
      none (suc n) (record {
        from_one = omega arith;
        member = h.member;
        at = subst (λ (j : ℕ). slice_get (x ∷ xs) j ≡ Some h.member) on h.at;
        holds = h.holds;
      })),
)

-- where no payment of the schedule is unfixed every one has its amount
pub all_fixed : (parts : List Part) → ((u : PaymentPlace) → UnfixedAt parts u → ⊥) → EachHasAmount parts
all_fixed parts none =
    each_there (λ (p : Part). (k : ℕ) × LacksOf k p) (λ (p : Part). Every (λ (y : PaymentEntry). IsSome y.amount) p.payments)
    parts (λ p lacks.
    each_there LacksAmount (λ (y : PaymentEntry). IsSome y.amount) p.payments
    (λ y has. some_amount y.amount has) (λ k h. lacks (k, h))) (λ n h.
    none (record { stream = n; payment = h.holds.0 }) (record {
      from_one = h.from_one;
      member = h.member;
      at = h.at;
      holds = h.holds.1;
    }))
