-- Steps of reading, one after another.
use Rattle.std.proofs.Common.{◌≡◌, ◌≢◌, ◌⊎◌, inl, inr, ℕ, ◌+◌, Bool, true, false, cond, ◌&&◌, List, [], ◌∷◌, ◌++◌, length, Option, Some, None, nat_eq, refl, sym, ap, ◌∙◌, arith}
use Rattle.std.proofs.lemmas.Bool.{cases_Bool}
use Rattle.std.proofs.lemmas.Bool.Decides.{nat_tests}
use Rattle.irs_xml.specs.Characters.{is_white_space, is_white, is_gap, rest_after}
use Rattle.irs_xml.specs.Private.Reading.{◌>>=◌, choose, skip_space, gap_at, past}

-- equal options have equal values
pub same_some : {A : Type 0} {x y : A} → ◌≡◌ {A = Option A} (Some x) (Some y) → x ≡ y
same_some e = cc e

-- what gives something after a step had something from the step
pub bind_some : {A B : Type 0} (o : Option A) (f : A → Option B) (y : B) → (o >>= f) ≡ Some y
    → (x : A) × (o ≡ Some x) × (f x ≡ Some y)
bind_some None f y e = absurd (cc e)
bind_some (Some x) f y e = (x, refl, e)

-- a choice that gave something took the first way or, where there was none, the second
pub choose_some : {A B : Type 0} (o : Option A) (f : A → Option B) (g : Option B) (y : B) → choose o f g ≡ Some y
    → ((x : A) × (o ≡ Some x) × (f x ≡ Some y)) ⊎ ((o ≡ None) × (g ≡ Some y))
choose_some None f g y e = inr (refl, e)
choose_some (Some x) f g y e = inl (x, refl, e)

-- a test that gave this took one of its two branches
pub chosen : {A : Type 0} (b : Bool) (x y z : A) → cond b x y ≡ z → ((b ≡ true) × (x ≡ z)) ⊎ ((b ≡ false) × (y ≡ z))
chosen true x y z e = inl (refl, e)
chosen false x y z e = inr (refl, e)

-- where two tests both hold, each holds
pub both_true : (a b : Bool) → a && b ≡ true → (a ≡ true) × (b ≡ true)
both_true true b e = (refl, e)
both_true false b e = absurd (cc e)

-- where each of two tests holds, both hold
pub true_both : (a b : Bool) → a ≡ true → b ≡ true → a && b ≡ true
true_both a b e f = rw (e) f

-- numbers that compare equal are equal
pub eq_true : (a b : ℕ) → nat_eq a b ≡ true → a ≡ b
eq_true a b h = grind (arith, nat_tests)

-- numbers that don't compare equal differ
pub eq_false : (a b : ℕ) → nat_eq a b ≡ false → a ≢ b
eq_false a b h = grind (arith, nat_tests)

-- a number compares equal to itself
pub true_eq : (a : ℕ) → nat_eq a a ≡ true
true_eq a = grind (arith, nat_tests)

-- numbers that differ don't compare equal
pub false_eq : (a b : ℕ) → a ≢ b → nat_eq a b ≡ false
false_eq a b h = grind (arith, nat_tests)

-- words

-- a word that is read is at the front, and the rest is after it
pub after_sound : (w cs r : List ℕ) → rest_after w cs ≡ Some r → cs ≡ w ++ r
after_sound [] cs r e = same_some e
after_sound (x ∷ w) [] r e = absurd (cc e)
after_sound (x ∷ w) (c ∷ cs) r e = elim (chosen (nat_eq c x) (rest_after w cs) None (Some r) e) [
  | inl h ↦ ap (λ y. y ∷ cs) (eq_true c x h.0) ∙ ap (λ t. x ∷ t) (after_sound w cs r h.1)
  | inr h ↦ absurd (let k = h.1 in cc k)
]

-- a word at the front is read
pub after_complete : (w r : List ℕ) → rest_after w (w ++ r) ≡ Some r
after_complete [] r = refl
after_complete (x ∷ w) r = let e = true_eq x in rw e (after_complete w r)

-- a word that is read takes its own length
pub length_after : (w cs r : List ℕ) → rest_after w cs ≡ Some r → length r + length w ≡ length cs
length_after [] cs r e = let s = same_some e in let l = ap length s in omega (arith, l)
length_after (x ∷ w) [] r e = absurd (cc e)
length_after (x ∷ w) (c ∷ cs) r e = elim (chosen (nat_eq c x) (rest_after w cs) None (Some r) e) [
  | inl h ↦ let l = length_after w cs r h.1 in omega (arith, l)
  | inr h ↦ absurd (let k = h.1 in cc k)
]

-- a word of two parts
pub after-append : (a b cs : List ℕ) → rest_after (a ++ b) cs ≡ (rest_after a cs >>= rest_after b)
after-append [] b cs = refl
after-append (x ∷ a) b [] = refl
after-append (x ∷ a) b (c ∷ cs) = by_test (nat_eq c x) _ _ (after-append a b cs)
  where
    by_test : (t : Bool) (m n : Option (List ℕ)) → m ≡ (n >>= rest_after b) → cond t m None ≡ (cond t n None >>= rest_after b)
    by_test true m n e = e
    by_test false m n e = refl

-- a mark at the front is the first mark
pub past_found : (mark cs r : List ℕ) → rest_after mark cs ≡ Some r → past mark cs ≡ Some r
past_found mark [] r e = e
past_found mark (c ∷ cs) r e = rw e refl

-- white space

-- the characters don't begin with one of this kind
abbrev pub begins : (ℕ → Bool) → List ℕ → Bool
begins test [] = false
begins test (c ∷ cs) = test c

-- nothing is skipped where no white space is in front
pub skip-stop : (cs : List ℕ) → begins is_white_space cs ≡ false → skip_space cs ≡ cs
skip-stop [] h = refl
skip-stop (c ∷ cs) h = rw h refl

-- white space is skipped to its end
pub skip-white : (s cs : List ℕ) → is_white s ≡ true → begins is_white_space cs ≡ false → skip_space (s ++ cs) ≡ cs
skip-white [] cs w h = skip-stop cs h
skip-white (x ∷ s) cs w h = let b = both_true (is_white_space x) (is_white s) w in let e = b.0 in rw e (skip-white s cs b.1 h)

-- the white space at the front
abbrev pub white_run : List ℕ → List ℕ
white_run [] = []
white_run (c ∷ cs) = cond (is_white_space c) (c ∷ white_run cs) []

-- the white space in front is white
pub run_white : (cs : List ℕ) → is_white (white_run cs) ≡ true
run_white [] = refl
run_white (c ∷ cs) = elim (cases_Bool (is_white_space c)) [
  | inl h ↦ rw h (true_both (is_white_space c) (is_white (white_run cs)) h (run_white cs))
  | inr h ↦ rw h refl
]

-- characters are the white space in front and what is left after it
pub skip_sound : (cs : List ℕ) → cs ≡ white_run cs ++ skip_space cs
skip_sound [] = refl
skip_sound (c ∷ cs) = elim (cases_Bool (is_white_space c)) [
  | inl h ↦ rw h (ap (λ t. c ∷ t) (skip_sound cs))
  | inr h ↦ rw h refl
]

-- no white space is in front of what is left after it
pub skip_stops : (cs : List ℕ) → begins is_white_space (skip_space cs) ≡ false
skip_stops [] = refl
skip_stops (c ∷ cs) = elim (cases_Bool (is_white_space c)) [
  | inl h ↦ rw h (skip_stops cs)
  | inr h ↦ rw h h
]

-- a gap that is read is one character of white space or more
pub gap_sound : (cs r : List ℕ) → gap_at cs ≡ Some r → (s : List ℕ) × (is_gap s ≡ true) × (cs ≡ s ++ r) × (r ≡ skip_space cs)
gap_sound [] r e = absurd (cc e)
gap_sound (c ∷ cs) r e = elim (chosen (is_white_space c) (Some (skip_space cs)) None (Some r) e) [
  | inl h ↦
      let is = same_some h.1 in
      let space = h.0 in (
        c ∷ white_run cs,
        true_both (is_white_space c) (is_white (white_run cs)) space (run_white cs),
        ap (λ t. c ∷ t) (skip_sound cs) ∙ ap (λ t. c ∷ (white_run cs ++ t)) is,
        rw space (sym is),
      )
  | inr h ↦ absurd (let k = h.1 in cc k)
]

-- white space is read as a gap to its end
pub gap_complete : (s r : List ℕ) → is_gap s ≡ true → begins is_white_space r ≡ false → gap_at (s ++ r) ≡ Some r
gap_complete [] r g h = absurd (cc g)
gap_complete (c ∷ s) r g h =
    let b = both_true (is_white_space c) (is_white s) g in
    let e = b.0 in rw e (ap (λ t. Some t) (skip-white s r b.1 h))

-- there is no gap where no white space is in front
pub gap_none : (cs : List ℕ) → begins is_white_space cs ≡ false → gap_at cs ≡ None
gap_none [] h = refl
gap_none (c ∷ cs) h = rw h refl

-- where there is no gap, nothing is skipped
pub no_gap : (cs : List ℕ) → gap_at cs ≡ None → skip_space cs ≡ cs
no_gap [] e = refl
no_gap (c ∷ cs) e = elim (cases_Bool (is_white_space c)) [
  | inl h ↦ absurd (let k = rw h at e in cc k)
  | inr h ↦ rw h refl
]
