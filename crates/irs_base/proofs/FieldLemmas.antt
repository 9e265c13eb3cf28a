-- Where a field ends.
use Rattle.std.proofs.Common.{◌≡◌, ℕ, zero, suc, ◌+◌, ◌-◌, ◌<◌, ◌≤◌, true, false, List, [], ◌∷◌, take, drop, length}
use Rattle.std.proofs.Common.{inl, inr, ◌==◌, get_or, arith, refl, sym, ◌∙◌, ap, length-drop}
use Rattle.std.proofs.lemmas.Bool.Decides.{nat_tests}
use Rattle.std.proofs.Math.Seq.{drop-cons}
use Rattle.std.proofs.lemmas.Bool.{cases_Bool}
use Rattle.std.proofs.lemmas.List.{take_all}
use Rattle.irs_base.specs.Texts.{with_byte, is_space_or_tab, begins_space, without_gap, fields}

-- each byte before the place parts fields
abbrev pub AllBefore : List ℕ → ℕ → Type 0
AllBefore bytes i = (k : ℕ) → k < i → is_space_or_tab (get_or bytes k 0) ≡ true

-- the gap ends at the first byte that is no space
pub gap_here : (bytes : List ℕ) (i : ℕ) → i < length bytes → is_space_or_tab (get_or bytes i 0) ≡ false → AllBefore bytes i
    → drop i bytes ≡ without_gap bytes
gap_here [] i within solid all = absurd (omega (arith, within))
gap_here (b ∷ bs) zero within solid all = rw solid refl
gap_here (b ∷ bs) (suc i) within solid all =
    let first : is_space_or_tab b ≡ true = all 0 (omega arith) in
    rw first (gap_here bs i (omega (arith, within)) solid (λ k h. all (suc k) (omega (arith, h))))

-- spaces alone leave nothing
pub gap_alone : (bytes : List ℕ) → AllBefore bytes (length bytes) → [] ≡ without_gap bytes
gap_alone [] all = refl
gap_alone (b ∷ bs) all =
    let first : is_space_or_tab b ≡ true = all 0 (omega arith) in
    rw first (gap_alone bs (λ k h. all (suc k) (omega (arith, h))))

-- without its gap a text has the same fields, begins with one, and isn't longer
pub same_fields : (bytes : List ℕ) → fields (without_gap bytes) ≡ fields bytes
same_fields [] = refl
same_fields (b ∷ bs) = elim (cases_Bool (is_space_or_tab b)) [
  | inl gap ↦ rw gap (same_fields bs)
  | inr solid ↦ rw (solid, solid) refl
]

-- with nothing after its gap a text has no fields
pub none_behind : (bytes rest : List ℕ) → rest ≡ without_gap bytes → (length rest == 0) ≡ true → fields bytes ≡ []
none_behind bytes [] e none = sym (same_fields bytes) ∙ ap fields (sym e)
none_behind bytes (b ∷ bs) e none = absurd (nat_eq-suc-zero (length bs) none)
  where
    nat_eq-suc-zero : (n : ℕ) → (suc n == 0) ≡ true → ⊥
    nat_eq-suc-zero n h = grind (arith, nat_tests, h)

-- what is left after the gap begins with no space
pub begins_solid : (bytes : List ℕ) → begins_space (without_gap bytes) ≡ false
begins_solid [] = refl
begins_solid (b ∷ bs) = elim (cases_Bool (is_space_or_tab b)) [
  | inl gap ↦ rw gap (begins_solid bs)
  | inr solid ↦ rw solid solid
]

-- what is left after the gap is no longer than the text
pub not_longer : (bytes : List ℕ) → length (without_gap bytes) ≤ length bytes
not_longer [] = omega arith
not_longer (b ∷ bs) = elim (cases_Bool (is_space_or_tab b)) [
  | inl gap ↦ rw gap (omega (arith, not_longer bs))
  | inr solid ↦ rw solid (omega arith)
]

-- a gap in front changes nothing
pub skip_one : (bytes : List ℕ) (i : ℕ) → i < length bytes → is_space_or_tab (get_or bytes i 0) ≡ true
    → fields (drop (i + 1) bytes) ≡ fields (drop i bytes)
skip_one bytes i within gap =
    let e : i + 1 ≡ suc i = omega arith in
    rw (e, drop-cons bytes i 0 within, gap) refl

-- the rest of a text is all that comes after its first bytes
pub whole_rest : (bytes : List ℕ) (i : ℕ) → i ≤ length bytes → take (length bytes - i) (drop i bytes) ≡ drop i bytes
whole_rest bytes i h = take_all (length bytes - i) (drop i bytes) (omega (arith, length-drop i bytes))

-- a text from a byte on that is no space begins with none
pub begins_at : (bytes : List ℕ) (i : ℕ) → i < length bytes → is_space_or_tab (get_or bytes i 0) ≡ false
    → begins_space (drop i bytes) ≡ false
begins_at bytes i within no_gap = rw (drop-cons bytes i 0 within, no_gap) refl

-- no fields are left at the end of a text
pub none_left : (bytes : List ℕ) (i : ℕ) → length bytes ≤ i → fields (drop i bytes) ≡ []
none_left [] zero h = refl
none_left [] (suc i) h = refl
none_left (b ∷ bs) zero h = absurd (omega (arith, h))
none_left (b ∷ bs) (suc i) h = none_left bs i (omega (arith, h))

-- a field goes to the first gap
pub field_at : (bytes : List ℕ) (i : ℕ) → 0 < i → i < length bytes → is_space_or_tab (get_or bytes i 0) ≡ true
    → ((k : ℕ) → k < i → is_space_or_tab (get_or bytes k 0) ≡ false) → fields bytes ≡ take i bytes ∷ fields (drop i bytes)
field_at [] i some within gap none = absurd (omega (arith, within))
field_at (b ∷ bs) zero some within gap none = absurd (omega (arith, some))
field_at (b ∷ []) (suc i) some within gap none = absurd (omega (arith, within))
field_at (b ∷ c ∷ cs) (suc zero) some within gap none =
    let first : is_space_or_tab b ≡ false = none 0 (omega arith) in
    rw (first, gap) refl
field_at (b ∷ c ∷ cs) (suc (suc i)) some within gap none =
    let first : is_space_or_tab b ≡ false = none 0 (omega arith) in
    let second : is_space_or_tab c ≡ false = none 1 (omega arith) in
    let rest = field_at (c ∷ cs) (suc i) (omega arith) (omega (arith, within)) gap
    (λ k h. none (suc k) (omega (arith, h))) in
    begun b c cs first second ∙ ap (with_byte b) rest
  where
    begun : (b c : ℕ) (cs : List ℕ) → is_space_or_tab b ≡ false → is_space_or_tab c ≡ false
        → fields (b ∷ c ∷ cs) ≡ with_byte b (fields (c ∷ cs))
    begun b c cs first second = rw (first, second) refl

-- a text without spaces is one field
pub field_alone : (bytes : List ℕ) → 0 < length bytes
    → ((k : ℕ) → k < length bytes → is_space_or_tab (get_or bytes k 0) ≡ false) → fields bytes ≡ bytes ∷ []
field_alone [] some none = absurd (omega (arith, some))
field_alone (b ∷ []) some none =
    let first : is_space_or_tab b ≡ false = none 0 (omega arith) in
    rw first refl
field_alone (b ∷ c ∷ cs) some none =
    let first : is_space_or_tab b ≡ false = none 0 (omega arith) in
    let second : is_space_or_tab c ≡ false = none 1 (omega arith) in
    let rest = field_alone (c ∷ cs) (omega arith) (λ k h. none (suc k) (omega (arith, h))) in
    begun b c cs first second ∙ ap (with_byte b) rest
  where
    begun : (b c : ℕ) (cs : List ℕ) → is_space_or_tab b ≡ false → is_space_or_tab c ≡ false
        → fields (b ∷ c ∷ cs) ≡ with_byte b (fields (c ∷ cs))
    begun b c cs first second = rw (first, second) refl

-- the first byte is no gap
pub first_solid : (bytes : List ℕ) → begins_space bytes ≡ false → is_space_or_tab (get_or bytes 0 0) ≡ false
first_solid [] h = refl
first_solid (b ∷ bs) h = h

-- the first field ends at the first space
pub field_here : (bytes : List ℕ) (i : ℕ) → begins_space bytes ≡ false → i < length bytes
    → is_space_or_tab (get_or bytes i 0) ≡ true → ((k : ℕ) → k < i → is_space_or_tab (get_or bytes k 0) ≡ false)
    → fields bytes ≡ take i bytes ∷ fields (drop i bytes)
field_here bytes zero begins within gap none = absurd (let f = first_solid bytes begins in cc (f, gap))
field_here bytes (suc i) begins within gap none = field_at bytes (suc i) (omega arith) within gap none
