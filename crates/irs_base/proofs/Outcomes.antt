-- Which specifications determine their outcome, and what a call that stops half way meets.
use Rattle.std.proofs.Common.{◌≡◌, ◌⊎◌, inl, inr, ℕ, suc, ◌+◌, List, [], ◌∷◌, ◌++◌, length, take, drop, Bool, Some, Result, Ok, Err, IsErrAnd}
use Rattle.std.proofs.Common.{◌<◌, refl, sym, subst, ap, ◌∙◌, arith, append_assoc}
use Rattle.std.specs.List.{slice_get}
use Rattle.std.proofs.lemmas.List.{length-take-le, take-append-drop, take_more}
use Rattle.std.proofs.lemmas.Option.{get_or_from_slice_get, slice_get_within}
use Rattle.irs_base.specs.Outcomes.{IfStopped, First, Only, Determined, IfMemory, Meets, RefusesNothing}
use Rattle.irs_base.specs.Outcomes.{Spec, ◌>>=◌, answer, answered, each_in_turn, given_by, refused, refused_as}
use Rattle.irs_base.specs.Outcomes.{unbroken, unless_broken}
use Rattle.irs_base.specs.Lists.{Every}
use Rattle.irs_base.specs.declared.stopped.Stopped.{Stopped}
use Rattle.irs_base.specs.declared.stopped.Stopped.TheVariants.{Broken as OfBroken, Memory as OfMemory}

-- a value given as the answer is the only one
pub answer_determined : {A R : Type 0} (x : A) → Determined {A = A} {R = R} (answer x)
answer_determined x = answered x (record { is = refl; only = λ y h. h }) (λ r h. h)

-- there is one value, and no more
pub given_by_determined : {A R : Type 0} (Is : A → Type 0) → (a : A) × Is a → ((a b : A) → Is a → Is b → a ≡ b)
    → Determined {A = A} {R = R} (given_by Is)
given_by_determined Is there one =
    answered there.0 (record { is = there.1; only = λ b h. one b there.0 h there.1 }) (λ r h. h)

-- the rules are decided, an answer exists where none is broken, and there is at most one of each
pub unless_broken_determined : {A F : Type 0} (before : F → F → Bool) (Breaks : F → Type 0) (Is : A → Type 0)
    → (((f : F) × First before Breaks f) ⊎ ((f : F) → Breaks f → ⊥))
    → (((f : F) → Breaks f → ⊥) → (a : A) × Is a)
    → ((a b : A) → Is a → Is b → a ≡ b)
    → ((f g : F) → First before Breaks f → First before Breaks g → f ≡ g)
    → Determined (unless_broken before Breaks Is)
unless_broken_determined before Breaks Is (inl first) exists one one_broken =
    refused first.0 (record { is = first.1; only = λ g h. one_broken g first.0 h first.1 }) (λ a h. h.0 first.0 first.1.0)
unless_broken_determined before Breaks Is (inr none) exists one one_broken =
    let there = exists none in
    answered there.0 (record { is = (none, there.1); only = λ a h. one a there.0 h.1 there.1 }) (λ f h. none f h.0)

-- the rules are decided, and there is at most one first of them
pub unbroken_determined : {F : Type 0} (before : F → F → Bool) (Breaks : F → Type 0)
    → (((f : F) × First before Breaks f) ⊎ ((f : F) → Breaks f → ⊥))
    → ((f g : F) → First before Breaks f → First before Breaks g → f ≡ g)
    → Determined (unbroken before Breaks)
unbroken_determined before Breaks (inl first) one_broken =
    refused first.0 (record { is = first.1; only = λ g h. one_broken g first.0 h first.1 }) (λ a h. h first.0 first.1.0)
unbroken_determined before Breaks (inr none) one_broken =
    answered tt (record { is = none; only = λ a h. refl }) (λ f h. none f h.0)

module _ {A B R : Type 0} (spec : Spec A R) (next : A → Spec B R) where
  over_answer : (a : A) → Only spec.Answers a → ((r : R) → spec.Refuses r → ⊥) → Determined (next a)
      → Determined (spec >>= next)
  over_answer a one none (answered b only free) =
      answered b
      (record {
        is = (a, one.is, only.is);
        only = λ c h. only.only c (subst (λ (x : A). (next x).Answers c) (one.only h.0 h.1) h.2);
      })
      (λ r h. elim h [
        | inl first ↦ none r first
        | inr then ↦ free r (subst (λ (x : A). (next x).Refuses r) (one.only then.0 then.1) then.2)
      ])
  over_answer a one none (refused r only free) =
      refused r
      (record {
        is = inr (a, one.is, only.is);
        only = λ p h. elim h [
          | inl first ↦ absurd (none p first)
          | inr then ↦ only.only p (subst (λ (x : A). (next x).Refuses p) (one.only then.0 then.1) then.2)
        ];
      })
      (λ c h. free c (subst (λ (x : A). (next x).Answers c) (one.only h.0 h.1) h.2))

  -- a chain determines its outcome where each of its specifications does
  pub then_determined : Determined spec → ((a : A) → spec.Answers a → Determined (next a)) → Determined (spec >>= next)
  then_determined (answered a one none) over = over_answer a one none (over a one.is)
  then_determined (refused r one none) over =
      refused r
      (record {
        is = inl one.is;
        only = λ p h. elim h [
          | inl first ↦ one.only p first
          | inr then ↦ absurd (none then.0 then.1)
        ];
      })
      (λ c h. none h.0 h.1)

-- saying the reason in another way leaves one outcome
pub refused_as_determined : {A R S : Type 0} (say : R → S) (spec : Spec A R) → Determined spec
    → Determined (refused_as say spec)
refused_as_determined say spec (answered a one none) = answered a one (λ s h. none h.0 h.1)
refused_as_determined {R = R} {S = S} say spec (refused r one none) =
    refused (say r)
    (record {
      is = (r, one.is, refl);
      only = λ s h. subst (λ (x : R). s ≡ say x) (one.only h.0 h.1) h.2;
    })
    none

module _ {X A R : Type 0} (spec : ℕ → X → Spec A R) where
  -- a list in turn has one outcome where each of its items has
  pub each_determined : (P : X → Type 0) → ((i : ℕ) (x : X) → P x → Determined (spec i x)) → (n : ℕ) (xs : List X)
      → Every P xs → Determined (each_in_turn spec n xs)
  unfolding each_in_turn
  each_determined P one n [] h = answer_determined []
  each_determined P one n (x ∷ xs) h =
      then_determined (spec n x) _ (one n x h.0) (λ a _.
      then_determined (each_in_turn spec (n + 1) xs) _ (each_determined P one (n + 1) xs h.1) (λ rest _.
      answer_determined (a ∷ rest)))

  -- one item more is answered
  pub each_more : (n : ℕ) (xs : List X) (given : List A) (y : X) (a : A) → (each_in_turn spec n xs).Answers given
      → (spec (n + length xs) y).Answers a → (each_in_turn spec n (xs ++ y ∷ [])).Answers (given ++ a ∷ [])
  unfolding each_in_turn
  each_more n [] given y a done last =
      let same : given ++ a ∷ [] ≡ a ∷ [] = ap (λ (front : List A). front ++ a ∷ []) done in
      let here : n + 0 ≡ n = omega arith in
      (a, subst (λ (i : ℕ). (spec i y).Answers a) here last, ([], refl, same))
  each_more n (x ∷ xs) given y a done last =
      let moved : n + suc (length xs) ≡ (n + 1) + length xs = omega arith in
      let rest = done.2 in
      let more = each_more (n + 1) xs rest.0 y a rest.1 (subst (λ (i : ℕ). (spec i y).Answers a) moved last) in
      (done.0, done.1, (rest.0 ++ a ∷ [], more, ap (λ (front : List A). front ++ a ∷ []) rest.2))

  -- an item after answered ones is refused
  pub each_stops : (n : ℕ) (xs : List X) (given : List A) (y : X) (ys : List X) (r : R)
      → (each_in_turn spec n xs).Answers given → (spec (n + length xs) y).Refuses r
      → (each_in_turn spec n (xs ++ y ∷ ys)).Refuses r
  unfolding each_in_turn
  each_stops n [] given y ys r done last =
      let here : n + 0 ≡ n = omega arith in
      inl (subst (λ (i : ℕ). (spec i y).Refuses r) here last)
  each_stops n (x ∷ xs) given y ys r done last =
      let moved : n + suc (length xs) ≡ (n + 1) + length xs = omega arith in
      let rest = done.2 in
      inr (
        done.0,
        done.1,
        inl (each_stops (n + 1) xs rest.0 y ys r rest.1
            (subst (λ (i : ℕ). (spec i y).Refuses r) moved last)),
      )

  -- the same along a list: the items before the place i are answered
  module _ (n : ℕ) (xs : List X) (i : ℕ) (given : List A) (y : X) (at : slice_get xs i ≡ Some y)
      (done : (each_in_turn spec n (take i xs)).Answers given) where
    inside : i < length xs
    inside = slice_get_within xs i y at

    count : length (take i xs) ≡ i
    count = length-take-le i xs (omega (arith, inside))

    longer : take (i + 1) xs ≡ take i xs ++ y ∷ []
    longer = take_more xs i y inside ∙ ap (λ (q : X). take i xs ++ q ∷ []) (get_or_from_slice_get xs i y y at)

    whole : take i xs ++ y ∷ drop (i + 1) xs ≡ xs
    whole =
        sym (append_assoc (take i xs) (y ∷ []) (drop (i + 1) xs))
        ∙ ap (λ (front : List X). front ++ drop (i + 1) xs) (sym longer)
        ∙ take-append-drop (i + 1) xs

    -- and so is that at i
    pub each_goes_on : (a : A) → (spec (n + i) y).Answers a
        → (each_in_turn spec n (take (i + 1) xs)).Answers (given ++ a ∷ [])
    each_goes_on a last =
        subst (λ (ys : List X). (each_in_turn spec n ys).Answers (given ++ a ∷ [])) (sym longer)
        (each_more n (take i xs) given y a done (subst (λ (k : ℕ). (spec (n + k) y).Answers a) (sym count) last))

    -- that at i is refused
    pub each_ends : (r : R) → (spec (n + i) y).Refuses r → (each_in_turn spec n xs).Refuses r
    each_ends r last =
        subst (λ (ys : List X). (each_in_turn spec n ys).Refuses r) whole
        (each_stops n (take i xs) given y (drop (i + 1) xs) r done
        (subst (λ (k : ℕ). (spec (n + k) y).Refuses r) (sym count) last))

  -- no item
  pub each_begins : (n : ℕ) → (each_in_turn spec n []).Answers []
  unfolding each_in_turn
  each_begins n = refl

-- ---- what a determined outcome says

module _ {A R : Type 0} {spec : Spec A R} where
  -- there is at most one answer
  pub one_answer : Determined spec → (a b : A) → spec.Answers a → spec.Answers b → a ≡ b
  one_answer (answered c one none) a b h k = one.only a h ∙ sym (one.only b k)
  one_answer (refused r one none) a b h k = absurd (none a h)

  -- and at most one refusal
  pub one_refusal : Determined spec → (r t : R) → spec.Refuses r → spec.Refuses t → r ≡ t
  one_refusal (answered c one none) r t h k = absurd (none r h)
  one_refusal (refused q one none) r t h k = one.only r h ∙ sym (one.only t k)

  -- where there is an answer, nothing is refused
  pub answered_free : Determined spec → (a : A) → spec.Answers a → RefusesNothing spec
  answered_free (answered c one none) a h = none
  answered_free (refused r one none) a h = absurd (none a h)

  -- where nothing is refused, there is an answer
  pub answer_there : Determined spec → RefusesNothing spec → (a : A) × spec.Answers a
  answer_there (answered a one none) free = (a, one.is)
  answer_there (refused r one none) free = absurd (free r one.is)

-- a specification of each item that allows no less
module _ {X A R : Type 0} (from to : ℕ → X → Spec A R)
    (answers : (i : ℕ) (x : X) (a : A) → (from i x).Answers a → (to i x).Answers a)
    (refuses : (i : ℕ) (x : X) (r : R) → (from i x).Refuses r → (to i x).Refuses r) where
  -- allows no less of a list in turn
  pub each_answers : (n : ℕ) (xs : List X) (given : List A) → (each_in_turn from n xs).Answers given
      → (each_in_turn to n xs).Answers given
  unfolding each_in_turn
  each_answers n [] given h = h
  each_answers n (x ∷ xs) given h =
      let rest = h.2 in
      (h.0, answers n x h.0 h.1, (rest.0, each_answers (n + 1) xs rest.0 rest.1, rest.2))

  pub each_refuses : (n : ℕ) (xs : List X) (r : R) → (each_in_turn from n xs).Refuses r
      → (each_in_turn to n xs).Refuses r
  unfolding each_in_turn
  each_refuses n [] r h = h
  each_refuses n (x ∷ xs) r (inl first) = inl (refuses n x r first)
  each_refuses n (x ∷ xs) r (inr (a, is, inl later)) = inr (a, answers n x a is, inl (each_refuses (n + 1) xs r later))
  each_refuses n (x ∷ xs) r (inr (a, is, inr last)) = absurd last.2

-- a call that a `?` stops, where the reason is a right refusal
pub stopped_meets : {A R : Type 0} (spec : Spec A R) (r : Result A (Stopped R)) (e : Stopped R)
    → IsErrAnd r (λ x. x ≡ e) → IfStopped e spec.Refuses → Meets spec r
stopped_meets spec (Ok v) e is h = absurd is
stopped_meets {R = R} spec (Err x) e is h = subst (λ (y : Stopped R). IfStopped y spec.Refuses) (sym is) h

-- what holds always holds where memory ran out
pub if_memory : {A R : Type 0} (P : Type 0) (r : Result A (Stopped R)) → P → IfMemory r P
if_memory P (Ok a) h = tt
if_memory P (Err (OfBroken r)) h = tt
if_memory P (Err OfMemory) h = h
