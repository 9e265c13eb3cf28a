-- Where a word ends.
use Rattle.std.proofs.Common.{◌≡◌, ℕ, zero, suc, ◌-◌, ◌<◌, ◌≤◌, Bool, true, false, ◌&&◌, List, [], ◌∷◌, take, drop}
use Rattle.std.proofs.Common.{length, get_or, arith, refl, ap}
use Rattle.irs_base.specs.Texts.{is_space_or_tab}
use Rattle.irs_resets.specs.FixingFiles.{word, behind_word, trimmed, is_blank}

-- no byte before the place is a space
abbrev pub NoneBefore : List ℕ → ℕ → Type 0
NoneBefore bytes i = (k : ℕ) → k < i → is_space_or_tab (get_or bytes k 0) ≡ false

-- a word ends at the first space
pub word_here : (bytes : List ℕ) (i : ℕ) → i < length bytes → is_space_or_tab (get_or bytes i 0) ≡ true → NoneBefore bytes i
    → (take i bytes ≡ word bytes) × (drop i bytes ≡ behind_word bytes)
word_here [] i within gap none = absurd (omega (arith, within))
word_here (b ∷ bs) zero within gap none = (rw gap refl, rw gap refl)
word_here (b ∷ bs) (suc i) within gap none =
    let first : is_space_or_tab b ≡ false = none 0 (omega arith) in
    let rest = word_here bs i (omega (arith, within)) gap (λ k h. none (suc k) (omega (arith, h))) in
    (rw first (ap (λ (l : List ℕ). b ∷ l) rest.0), rw first rest.1)

-- a text without spaces is one word
pub word_alone : (bytes : List ℕ) → NoneBefore bytes (length bytes) → (bytes ≡ word bytes) × ([] ≡ behind_word bytes)
word_alone [] none = (refl, refl)
word_alone (b ∷ bs) none =
    let first : is_space_or_tab b ≡ false = none 0 (omega arith) in
    let rest = word_alone bs (λ k h. none (suc k) (omega (arith, h))) in
    (rw first (ap (λ (l : List ℕ). b ∷ l) rest.0), rw first rest.1)

-- the bytes from the place on are spaces
abbrev pub AllFrom : List ℕ → ℕ → Type 0
AllFrom bytes n = (k : ℕ) → n ≤ k → k < length bytes → is_space_or_tab (get_or bytes k 0) ≡ true

blank : (bytes : List ℕ) → AllFrom bytes 0 → is_blank bytes ≡ true
blank [] all = refl
blank (b ∷ bs) all =
    let first : is_space_or_tab b ≡ true = all 0 (omega arith) (omega arith) in
    rw first (blank bs (λ k from to. all (suc k) (omega arith) (omega (arith, to))))

not_blank : (bytes : List ℕ) (i : ℕ) → i < length bytes → is_space_or_tab (get_or bytes i 0) ≡ false → is_blank bytes ≡ false
not_blank [] i within solid = absurd (omega (arith, within))
not_blank (b ∷ bs) zero within solid = rw solid refl
not_blank (b ∷ bs) (suc i) within solid = rw (not_blank bs i (omega (arith, within)) solid) (false_right (is_space_or_tab b))
  where
    false_right : (c : Bool) → (c && false) ≡ false
    false_right true = refl
    false_right false = refl

-- spaces alone leave nothing
pub trimmed_blank : (bytes : List ℕ) → AllFrom bytes 0 → [] ≡ trimmed bytes
trimmed_blank [] all = refl
trimmed_blank (b ∷ bs) all = rw (blank (b ∷ bs) all) refl

-- what is trimmed ends at the last byte that is no space
pub trimmed_here : (bytes : List ℕ) (i : ℕ) → i < length bytes → is_space_or_tab (get_or bytes i 0) ≡ false
    → AllFrom bytes (suc i) → take (suc i) bytes ≡ trimmed bytes
trimmed_here [] i within solid all = absurd (omega (arith, within))
trimmed_here (b ∷ bs) zero within solid all =
    rw (not_blank (b ∷ bs) zero within solid)
    (ap (λ (l : List ℕ). b ∷ l) (trimmed_blank bs (λ k from to. all (suc k) (omega arith) (omega (arith, to)))))
trimmed_here (b ∷ bs) (suc i) within solid all =
    rw (not_blank (b ∷ bs) (suc i) within solid)
    (ap (λ (l : List ℕ). b ∷ l)
    (trimmed_here bs i (omega (arith, within)) solid
    (λ k from to. all (suc k) (omega (arith, from)) (omega (arith, to)))))

-- the same by the number of bytes that stay
pub trimmed_to : (bytes : List ℕ) (n : ℕ) → 0 < n → n ≤ length bytes → is_space_or_tab (get_or bytes (n - 1) 0) ≡ false
    → AllFrom bytes n → take n bytes ≡ trimmed bytes
trimmed_to bytes zero some within solid all = absurd (omega (arith, some))
trimmed_to bytes (suc i) some within solid all =
    let e : suc i - 1 ≡ i = omega arith in
    trimmed_here bytes i (omega (arith, within)) (rw e at solid) all

-- nothing is left of nothing
pub trimmed_none : (bytes : List ℕ) (n : ℕ) → n ≤ 0 → AllFrom bytes n → take n bytes ≡ trimmed bytes
trimmed_none bytes zero none all = trimmed_blank bytes all
trimmed_none bytes (suc i) none all = absurd (omega (arith, none))
