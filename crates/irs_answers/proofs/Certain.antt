-- What can't be otherwise: cases that aren't decided, the first that breaks a rule, and outcomes of chains.
use Rattle.std.proofs.Common.{◌≡◌, ◌⊎◌, inl, inr, Bool, refl}
use Rattle.irs_base.specs.Outcomes.{Determined, First, Only, Spec, ◌>>=◌, answer, given_by, refused_as}
use Rattle.irs_terms.specs.Faults.{is_before}
use Rattle.irs_terms.specs.Faults.{rule_number}
use Rattle.irs_terms.specs.declared.places.Broken.{Broken}
use Rattle.irs_base.proofs.Firsts.{IsFounded, level_founded, rank_founded}
use Rattle.irs_answers.specs.Due.{IsCertain}
use Rattle.irs_answers.proofs.Agreement.{IsOne, determined_by}

-- ---- what is so can't be otherwise, and what follows from it can't either

-- what is so
pub certain : {P : Type 0} → P → IsCertain P
certain h = λ no. no h

-- what follows
pub certain_map : {P Q : Type 0} → (P → Q) → IsCertain P → IsCertain Q
certain_map f h = λ no. h (λ p. no (f p))

-- what follows, where that can't be otherwise itself
pub certain_then : {P Q : Type 0} → IsCertain P → (P → IsCertain Q) → IsCertain Q
certain_then h f = λ no. h (λ p. f p no)

-- one thing and another
pub certain_both : {P Q : Type 0} → IsCertain P → IsCertain Q → IsCertain (P × Q)
certain_both h k = λ no. h (λ p. k (λ q. no (p, q)))

-- it is so or not
pub certain_either : (P : Type 0) → IsCertain (P ⊎ (P → ⊥))
certain_either P = λ no. no (inr (λ p. no (inl p)))

-- there is a first in an order without an endless fall, or there is none
pub certain_first : {X : Type 0} (before : X → X → Bool) → IsFounded before → (P : X → Type 0)
    → IsCertain (((x : X) × First before P x) ⊎ ((x : X) → P x → ⊥))
certain_first before founded P = λ no. no (inr (founded P (λ x first. no (inl (x, first)))))

-- broken rules don't come before one another without end
pub broken_founded : IsFounded is_before
broken_founded =
    level_founded (λ (f : Broken). f.place.stream) _
    (level_founded (λ (f : Broken). rule_number f.rule) _
    (level_founded (λ (f : Broken). f.place.elem) _ (rank_founded (λ (f : Broken). f.place.index))))

-- ---- outcomes

-- there is an answer or a refusal
pub data Comes {A R : Type 0} (spec : Spec A R) : Type 0 where
  answers : (a : A) → spec.Answers a → Comes spec
  refuses : (r : R) → spec.Refuses r → Comes spec

-- a specification has an outcome: it can't be otherwise
abbrev pub AlwaysComes : {A R : Type 0} → Spec A R → Type 0
AlwaysComes spec = IsCertain (Comes spec)

module _ {A B R : Type 0} (s : Spec A R) (n : A → Spec B R) where
  then_answers : (a : A) → s.Answers a → Comes (n a) → Comes (s >>= n)
  then_answers a is (answers b then) = answers b (a, is, then)
  then_answers a is (refuses r then) = refuses r (inr (a, is, then))

  by_first : ((a : A) → s.Answers a → AlwaysComes (n a)) → Comes s → AlwaysComes (s >>= n)
  by_first over (answers a is) = certain_map (then_answers a is) (over a is)
  by_first over (refuses r is) = certain (refuses r (inl is))

  -- a chain comes to something where each of its steps does
  pub then_comes : AlwaysComes s → ((a : A) → s.Answers a → AlwaysComes (n a)) → AlwaysComes (s >>= n)
  then_comes h over = certain_then h (by_first over)

module _ {A R S : Type 0} (say : R → S) (s : Spec A R) where
  said : Comes s → Comes (refused_as say s)
  said (answers a is) = answers a is
  said (refuses r is) = refuses (say r) (r, is, refl)

  -- reasons are said in another way
  pub refused_as_comes : AlwaysComes s → AlwaysComes (refused_as say s)
  refused_as_comes h = certain_map said h

-- a value is the answer
pub answer_comes : {A R : Type 0} (x : A) → AlwaysComes {A = A} {R = R} (answer x)
answer_comes x = certain (answers x refl)

-- some value is there
pub given_comes : {A R : Type 0} (P : A → Type 0) → IsCertain ((a : A) × P a)
    → AlwaysComes {A = A} {R = R} (given_by P)
given_comes P h = certain_map (λ x. answers x.0 x.1) h

-- some value is there, and it is the only one
pub only_comes : {A R : Type 0} (P : A → Type 0) → IsCertain ((a : A) × P a) → ((a b : A) → P a → P b → b ≡ a)
    → AlwaysComes {A = A} {R = R} (given_by (Only P))
only_comes P h one =
    certain_map (λ x. answers x.0 (record { is = x.1; only = λ b k. one x.0 b x.1 k })) h

-- where a specification has an outcome and no other one, it is determined
by_outcome : {A : Type 0} (spec : Spec A A) → IsOne spec → Comes spec → Determined spec
by_outcome spec one (answers a is) = determined_by spec one a (inl is)
by_outcome spec one (refuses a is) = determined_by spec one a (inr is)

-- so it is where it can't be otherwise that it has one
pub certain_determined : {A : Type 0} (spec : Spec A A) → IsOne spec → AlwaysComes spec → IsCertain (Determined spec)
certain_determined spec one h = certain_map (by_outcome spec one) h
