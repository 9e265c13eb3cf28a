-- When two specifications allow no outcomes but the same.
use Rattle.std.proofs.Common.{◌≡◌, ◌⊎◌, inl, inr, ℕ, List, refl, sym, ap, subst, ◌∙◌}
use Rattle.irs_base.specs.Outcomes.{Only, Determined, Spec, ◌>>=◌, answer, answered, given_by, refused, refused_as}
use Rattle.irs_terms.specs.declared.places.Broken.{Broken}
use Rattle.irs_answers.specs.Messages.{Answer, Gives, keeping}

-- whatever the two answer is the same in this sense, and whatever they refuse is the same; where one answers, the other
-- doesn't refuse
pub record Agree {A R : Type 0} (Near : A → A → Type 0) (s t : Spec A R) : Type 0 where
  pub answers : (a b : A) → s.Answers a → t.Answers b → Near a b
  pub refuses : (r q : R) → s.Refuses r → t.Refuses q → r ≡ q
  pub apart : (a : A) (r : R) → s.Answers a → t.Refuses r → ⊥
  pub back : (a : A) (r : R) → s.Refuses r → t.Answers a → ⊥

-- the same value
abbrev pub Same : {X : Type 0} → X → X → Type 0
Same x y = x ≡ y

-- at most one outcome
abbrev pub IsOne : {A R : Type 0} → Spec A R → Type 0
IsOne spec = Agree Same spec spec

-- chains agree where their parts do
pub then_agree : {A B R : Type 0} (Near : A → A → Type 0) (Alike : B → B → Type 0) (s t : Spec A R) (n m : A → Spec B R)
    → Agree Near s t → ((a b : A) → s.Answers a → t.Answers b → Near a b → Agree Alike (n a) (m b))
    → Agree Alike (s >>= n) (t >>= m)
then_agree Near Alike s t n m h over = record {
  answers = λ x y p q. (over p.0 q.0 p.1 q.1 (h.answers p.0 q.0 p.1 q.1)).answers x y p.2 q.2;
  refuses = λ r q x y. elim x [
    | inl first ↦ elim y [
      | inl other ↦ h.refuses r q first other
      | inr other ↦ absurd (h.back other.0 r first other.1)
    ]
    | inr then ↦ elim y [
      | inl other ↦ absurd (h.apart then.0 q then.1 other)
      | inr other ↦ (over then.0 other.0 then.1 other.1 (h.answers then.0 other.0 then.1 other.1)).refuses r q then.2 other.2
    ]
  ];
  apart = λ x r p y. elim y [
    | inl other ↦ h.apart p.0 r p.1 other
    | inr other ↦ (over p.0 other.0 p.1 other.1 (h.answers p.0 other.0 p.1 other.1)).apart x r p.2 other.2
  ];
  back = λ x r y p. elim y [
    | inl other ↦ h.back p.0 r other p.1
    | inr other ↦ (over other.0 p.0 other.1 p.1 (h.answers other.0 p.0 other.1 p.1)).back x r other.2 p.2
  ];
}

-- a chain over one answer
pub then_one : {A B R : Type 0} (Alike : B → B → Type 0) (s : Spec A R) (n : A → Spec B R) → IsOne s
    → ((a : A) → s.Answers a → Agree Alike (n a) (n a)) → Agree Alike (s >>= n) (s >>= n)
then_one Alike s n h over =
    then_agree Same Alike s s n n h (λ a b is _ e. subst (λ x. Agree Alike (n a) (n x)) e (over a is))

-- reasons said in another way agree
pub refused_as_agree : {A R S : Type 0} (Near : A → A → Type 0) (say : R → S) (s t : Spec A R) → Agree Near s t
    → Agree Near (refused_as say s) (refused_as say t)
refused_as_agree Near say s t h = record {
  answers = h.answers;
  refuses = λ r q x y. x.2 ∙ (λ i. say (h.refuses x.0 y.0 x.1 y.1 i)) ∙ sym y.2;
  apart = λ a r p y. h.apart a y.0 p y.1;
  back = λ a r x p. h.back a x.0 x.1 p;
}

-- values given agree where they are the same
pub given_agree : {A R : Type 0} (Near : A → A → Type 0) (P Q : A → Type 0) → ((a b : A) → P a → Q b → Near a b)
    → Agree {A = A} {R = R} Near (given_by P) (given_by Q)
given_agree Near P Q same = record {
  answers = same;
  refuses = λ r q x y. absurd x;
  apart = λ a r p y. y;
  back = λ a r x p. x;
}

-- so are two answers
pub answer_agree : {A R : Type 0} (Near : A → A → Type 0) (x y : A) → Near x y
    → Agree {A = A} {R = R} Near (answer x) (answer y)
answer_agree Near x y h =
    given_agree Near (λ a. a ≡ x) (λ a. a ≡ y) (λ a b p q. subst (λ z. Near z b) (sym p) (subst (Near x) (sym q) h))

two_given : {A : Type 0} (spec : Spec A A) → IsOne spec → (a b : A) → spec.Answers a ⊎ spec.Refuses a
    → spec.Answers b ⊎ spec.Refuses b → a ≡ b
two_given spec one a b (inl h) (inl k) = one.answers a b h k
two_given spec one a b (inl h) (inr k) = absurd (one.apart a b h k)
two_given spec one a b (inr h) (inl k) = absurd (one.back b a h k)
two_given spec one a b (inr h) (inr k) = one.refuses a b h k

-- where a specification has one outcome, it gives one status and one text
pub one_given : (spec : Spec Answer Answer) → IsOne spec → (s u : ℕ) (t v : List ℕ) → Gives spec s t → Gives spec u v
    → (s ≡ u) × (t ≡ v)
one_given spec one s u t v h k =
    let e = two_given spec one (s, t) (u, v) h k in (ap (λ (a : Answer). a.0) e, ap (λ (a : Answer). a.1) e)

-- an outcome of a specification with no other one is determined
pub determined_by : {A : Type 0} (spec : Spec A A) → IsOne spec → (a : A) → spec.Answers a ⊎ spec.Refuses a
    → Determined spec
determined_by spec one a (inl is) =
    answered a (record { is = is; only = λ b h. one.answers b a h is }) (λ r h. one.apart a r is h)
determined_by spec one a (inr is) =
    refused a (record { is = is; only = λ b h. one.refuses b a h is }) (λ r h. one.apart r a h is)

-- the only value is one
pub only_one : {A R : Type 0} (P : A → Type 0) → IsOne {A = A} {R = R} (given_by (Only P))
only_one P = given_agree Same (Only P) (Only P) (λ a b h k. sym (h.only b k.is))

-- rules that are kept aren't broken, and one comes first
pub keeping_one : (K : Type 0) (P : Broken → Type 0) → (K → (b : Broken) → P b → ⊥)
    → ((b c : Broken) → P b → P c → b ≡ c) → IsOne (keeping K P)
keeping_one K P never one = record {
  answers = λ _ _ _ _. refl;
  refuses = one;
  apart = λ _ b keeps broken. never keeps b broken;
  back = λ _ b broken keeps. never keeps b broken;
}

-- ---- what one specification allows, another allows

-- the second answers and refuses with whatever the first does
pub record Within {A R : Type 0} (s t : Spec A R) : Type 0 where
  pub answers : (a : A) → s.Answers a → t.Answers a
  pub refuses : (r : R) → s.Refuses r → t.Refuses r

-- so it is of one and the same
pub same_within : {A R : Type 0} (s : Spec A R) → Within s s
same_within s = record { answers = λ _ h. h; refuses = λ _ h. h }

-- so it is of chains whose parts are so
pub then_within : {A B R : Type 0} (s t : Spec A R) (n m : A → Spec B R) → Within s t → ((a : A) → Within (n a) (m a))
    → Within (s >>= n) (t >>= m)
then_within s t n m h over = record {
  answers = λ b x. (x.0, h.answers x.0 x.1, (over x.0).answers b x.2);
  refuses = λ r x. elim x [
    | inl first ↦ inl (h.refuses r first)
    | inr then ↦ inr (then.0, h.answers then.0 then.1, (over then.0).refuses r then.2)
  ];
}

-- reasons said in another way
pub refused_as_within : {A R S : Type 0} (say : R → S) (s t : Spec A R) → Within s t
    → Within (refused_as say s) (refused_as say t)
refused_as_within say s t h = record { answers = h.answers; refuses = λ r x. (x.0, h.refuses x.0 x.1, x.2) }

-- values given
pub given_within : {A R : Type 0} (P Q : A → Type 0) → ((a : A) → P a → Q a)
    → Within {A = A} {R = R} (given_by P) (given_by Q)
given_within P Q there = record { answers = there; refuses = λ r x. x }

-- the only value with a property, by one that says the same
pub only_within : {A R : Type 0} (P Q : A → Type 0) → ((a : A) → P a → Q a) → ((a : A) → Q a → P a)
    → Within {A = A} {R = R} (given_by (Only P)) (given_by (Only Q))
only_within P Q there back =
    given_within (Only P) (Only Q) (λ a h. record { is = there a h.is; only = λ b k. h.only b (back b k) })

-- outcomes agree with those of a specification that allows no less and has one outcome
pub within_agree : {A R : Type 0} (s t : Spec A R) → Within s t → IsOne t → Agree Same s t
within_agree s t h one = record {
  answers = λ a b x y. one.answers a b (h.answers a x) y;
  refuses = λ r q x y. one.refuses r q (h.refuses r x) y;
  apart = λ a r x y. one.apart a r (h.answers a x) y;
  back = λ a r x y. one.back a r (h.refuses r x) y;
}
