-- A tenor is a number from 1 to 999 and a letter, and no other word is one.
use Rattle.std.proofs.Common.{◌≡◌, inl, inr, ℕ, ◌+◌, ◌*◌, ◌-◌, ◌/◌, ◌%◌, ◌≤◌, ◌<◌, List, [], ◌∷◌, ◌++◌, Option, Some, None, IfSome, Bool}
use Rattle.std.proofs.Common.{true, false, refl, sym, ◌∙◌, ap, ap₂, subst, arith}
use Rattle.std.specs.Fmt.{decimal}
use Rattle.std.specs.Prelude.{nat_le, ◌&&◌, ◌==◌, if◌then◌else◌}
use Rattle.std.proofs.lemmas.Bool.{cases_lt}
use Rattle.std.proofs.lemmas.Bool.Decides.{nat_tests}
use Rattle.std.proofs.lemmas.Fmt.{decimal_digit, decimal_step}
use Rattle.std.proofs.lemmas.Option.{same_Some}
use Rattle.irs_base.proofs.TextLemmas.{of_two_digits}
use Rattle.irs_resets.specs.FixingFiles.{digit_at, first_digit, tenor_at, tens, two_digit_number, hundreds}
use Rattle.irs_resets.specs.FixingFiles.{three_digits, unit_of_letter, with_unit, IsTenorWord, tenor_text, unit_text}
use Rattle.irs_terms.specs.Lawful.{IsLawfulTenor}
use Rattle.irs_terms.specs.declared.frequency.Frequency.{Frequency}
use Rattle.irs_terms.specs.declared.frequency.Unit.{Unit as FrequencyUnit}
use Rattle.irs_terms.specs.declared.frequency.Unit.TheVariants.{D, W, M, Y, T}

-- ---- digits

both : (a b : Bool) → (a && b) ≡ true → (a ≡ true) × (b ≡ true)
both true b e = (refl, e)
both false b e = cc

at_most : (a b : ℕ) → nat_le a b ≡ true → a ≤ b
at_most a b e = grind (arith, nat_tests)

digit_if : (t : Bool) (b n : ℕ) → (nat_le 48 b && nat_le b 57) ≡ t
    → (let o : Option ℕ = if t then Some (b - 48) else None in o ≡ Some n) → (b ≡ 48 + n) × (n ≤ 9)
digit_if true b n e is =
    let tests = both (nat_le 48 b) (nat_le b 57) e in
    let low = at_most 48 b tests.0 in
    let high = at_most b 57 tests.1 in
    let same : b - 48 ≡ n = same_Some (b - 48) n is in
    (omega (arith, low, same), omega (arith, low, high, same))
digit_if false b n e is = cc

digit_is : (b n : ℕ) → digit_at b ≡ Some n → (b ≡ 48 + n) × (n ≤ 9)
digit_is b n e = digit_if (nat_le 48 b && nat_le b 57) b n refl e

not_zero : (b : ℕ) → (b == 48) ≡ false → b ≡ 48 → ⊥
not_zero b e same = grind (arith, nat_tests)

-- a digit that isn't 0
record IsFirst (b n : ℕ) : Type 0 where
  is : b ≡ 48 + n
  low : 1 ≤ n
  high : n ≤ 9

first_if : (t : Bool) (b n : ℕ) → (b == 48) ≡ t → (let o : Option ℕ = if t then None else digit_at b in o ≡ Some n)
    → IsFirst b n
first_if true b n e is = cc
first_if false b n e is =
    let d = digit_is b n is in
    let same = d.0 in
    elim (cases_lt 0 n) [
      | inl more ↦ record { is = same; low = omega (arith, more); high = d.1 }
      | inr none ↦ absurd (not_zero b e (omega (arith, same, none)))
    ]

first_is : (b n : ℕ) → first_digit b ≡ Some n → IsFirst b n
first_is b n e = first_if (b == 48) b n refl e

-- ---- numbers

-- the digits of a number from 1 to 999
record IsNumber (ds : List ℕ) (n : ℕ) : Type 0 where
  low : 1 ≤ n
  high : n ≤ 999
  is : ds ≡ decimal n

three : (n : ℕ) → 100 ≤ n → n < 1000 → decimal n ≡ (48 + n / 100) ∷ (48 + n / 10 % 10) ∷ (48 + n % 10) ∷ []
three n low high =
    let same : n / 10 / 10 ≡ n / 100 = omega arith in
    decimal_step n (omega (arith, low)) (omega (arith, high))
    ∙ ap (λ ds. ds ++ (48 + n % 10) ∷ []) (of_two_digits (n / 10) (omega (arith, low)) (omega (arith, high)))
    ∙ ap (λ m. (48 + m) ∷ (48 + n / 10 % 10) ∷ (48 + n % 10) ∷ []) same

one_number : (a n : ℕ) → first_digit a ≡ Some n → IsNumber (a ∷ []) n
one_number a n e =
    let f = first_is a n e in
    let high = f.high in
    record {
      low = f.low;
      high = omega (arith, high);
      is = ap (λ x. x ∷ []) f.is ∙ sym (decimal_digit n (omega (arith, high)));
    }

tens_number : (o p : Option ℕ) (a b n : ℕ) → ((x : ℕ) → o ≡ Some x → IsFirst a x)
    → ((y : ℕ) → p ≡ Some y → (b ≡ 48 + y) × (y ≤ 9)) → tens o p ≡ Some n → IsNumber (a ∷ b ∷ []) n
tens_number (Some x) (Some y) a b n f g e =
    let p = f x refl in
    let q = g y refl in
    let at = p.is in
    let low = p.low in
    let high = p.high in
    let second = q.0 in
    let small = q.1 in
    let same : 10 * x + y ≡ n = same_Some (10 * x + y) n e in
    let front : a ≡ 48 + n / 10 = omega (arith, at, same, small) in
    let back : b ≡ 48 + n % 10 = omega (arith, second, same, small) in
    record {
      low = omega (arith, low, same);
      high = omega (arith, high, small, same);
      is =
          ap₂ (λ s t. s ∷ t ∷ []) front back
          ∙ sym (of_two_digits n (omega (arith, low, same)) (omega (arith, high, small, same)));
    }
tens_number (Some x) None a b n f g e = cc
tens_number None p a b n f g e = cc

hundreds_number : (o p q : Option ℕ) (a b c n : ℕ) → ((x : ℕ) → o ≡ Some x → IsFirst a x)
    → ((y : ℕ) → p ≡ Some y → (b ≡ 48 + y) × (y ≤ 9)) → ((z : ℕ) → q ≡ Some z → (c ≡ 48 + z) × (z ≤ 9))
    → hundreds o p q ≡ Some n → IsNumber (a ∷ b ∷ c ∷ []) n
hundreds_number (Some x) (Some y) (Some z) a b c n f g h e =
    let p = f x refl in
    let q = g y refl in
    let r = h z refl in
    let at = p.is in
    let low = p.low in
    let high = p.high in
    let second = q.0 in
    let few = q.1 in
    let last = r.0 in
    let small = r.1 in
    let same : 100 * x + 10 * y + z ≡ n = same_Some (100 * x + 10 * y + z) n e in
    let front : a ≡ 48 + n / 100 = omega (arith, at, same, few, small) in
    let middle : b ≡ 48 + n / 10 % 10 = omega (arith, second, same, few, small) in
    let back : c ≡ 48 + n % 10 = omega (arith, last, same, small) in
    record {
      low = omega (arith, low, same);
      high = omega (arith, high, few, small, same);
      is =
          ap (λ s. s ∷ b ∷ c ∷ []) front
          ∙ ap₂ (λ s t. (48 + n / 100) ∷ s ∷ t ∷ []) middle back
          ∙ sym (three n (omega (arith, low, same)) (omega (arith, high, few, small, same)));
    }
hundreds_number (Some x) (Some y) None a b c n f g h e = cc
hundreds_number (Some x) None r a b c n f g h e = cc
hundreds_number None p r a b c n f g h e = cc

-- ---- letters

-- the letter of a unit that a tenor may have
record IsLetter (b : ℕ) (x : FrequencyUnit) : Type 0 where
  is : b ∷ [] ≡ unit_text x
  not_term : x ≡ T → ⊥

equal : (a b : ℕ) → (a == b) ≡ true → a ≡ b
equal a b e = grind (arith, nat_tests)

letter_if : (s t u v : Bool) (b : ℕ) (x : FrequencyUnit) → (b == 68) ≡ s → (b == 87) ≡ t → (b == 77) ≡ u → (b == 89) ≡ v
    → (let o : Option FrequencyUnit =
    if s then Some D else (if t then Some W else (if u then Some M else (if v then Some Y else None))) in o ≡ Some x)
    → IsLetter b x
letter_if true t u v b x e f g h is =
    subst (IsLetter b) (same_Some D x is) (record { is = ap (λ c. c ∷ []) (equal b 68 e); not_term = λ p. cc })
letter_if false true u v b x e f g h is =
    subst (IsLetter b) (same_Some W x is) (record { is = ap (λ c. c ∷ []) (equal b 87 f); not_term = λ p. cc })
letter_if false false true v b x e f g h is =
    subst (IsLetter b) (same_Some M x is) (record { is = ap (λ c. c ∷ []) (equal b 77 g); not_term = λ p. cc })
letter_if false false false true b x e f g h is =
    subst (IsLetter b) (same_Some Y x is) (record { is = ap (λ c. c ∷ []) (equal b 89 h); not_term = λ p. cc })
letter_if false false false false b x e f g h is = cc

letter_is : (b : ℕ) (x : FrequencyUnit) → unit_of_letter b ≡ Some x → IsLetter b x
letter_is b x e = letter_if (b == 68) (b == 87) (b == 77) (b == 89) b x refl refl refl refl e

-- ---- tenors

-- a number and a letter are a tenor
number_and_letter : (o : Option ℕ) (ds : List ℕ) (u : ℕ) (f : Frequency) → ((n : ℕ) → o ≡ Some n → IsNumber ds n)
    → (p : Option FrequencyUnit) → ((x : FrequencyUnit) → p ≡ Some x → IsLetter u x)
    → with_unit o p ≡ Some (Some f) → IsTenorWord (ds ++ u ∷ []) f
number_and_letter (Some n) ds u f number (Some x) letter e =
    let made : Frequency = record { count = n; unit = x } in
    let is : made ≡ f = same_Some made f (same_Some (Some made) (Some f) e) in
    let i = number n refl in
    let l = letter x refl in
    subst (IsTenorWord (ds ++ u ∷ [])) is
    (record { lawful = ((i.low, i.high), l.not_term); is = ap₂ (λ s t. s ++ t) i.is l.is })
number_and_letter (Some n) ds u f number None letter e = cc
number_and_letter None ds u f number p letter e = cc

dash_none : (b : Bool) (f : Frequency) → (let o : Option (Option Frequency) = if b then Some None else None in
    o ≡ Some (Some f)) → ⊥
dash_none true f e = cc
dash_none false f e = cc

-- what is read as a tenor is one
pub tenor_word : (w : List ℕ) (f : Frequency) → tenor_at w ≡ Some (Some f) → IsTenorWord w f
tenor_word [] f e = cc
tenor_word (a ∷ []) f e = absurd (dash_none (a == 45) f e)
tenor_word (a ∷ u ∷ []) f e =
    number_and_letter (first_digit a) (a ∷ []) u f (one_number a) (unit_of_letter u) (letter_is u) e
tenor_word (a ∷ b ∷ u ∷ []) f e =
    number_and_letter (two_digit_number a b) (a ∷ b ∷ []) u f
    (λ n. tens_number (first_digit a) (digit_at b) a b n (first_is a) (digit_is b)) (unit_of_letter u) (letter_is u) e
tenor_word (a ∷ b ∷ c ∷ u ∷ []) f e =
    number_and_letter (three_digits a b c) (a ∷ b ∷ c ∷ []) u f
    (λ n. hundreds_number (first_digit a) (digit_at b) (digit_at c) a b c n (first_is a) (digit_is b) (digit_is c))
    (unit_of_letter u) (letter_is u) e
tenor_word (a ∷ b ∷ c ∷ d ∷ g ∷ rest) f e = cc

-- ---- the text of a tenor is read back

digit_read : (n : ℕ) → n < 10 → digit_at (48 + n) ≡ Some n
digit_read n h = grind (arith, nat_tests)

first_read : (n : ℕ) → 1 ≤ n → n < 10 → first_digit (48 + n) ≡ Some n
first_read n low h = grind (arith, nat_tests)

-- the byte of a unit's letter is after the space
pub unit_back : (u : FrequencyUnit) → (u ≡ T → ⊥) → (b : ℕ) × (unit_text u ≡ b ∷ []) × (unit_of_letter b ≡ Some u) × (33 ≤ b)
unit_back D h = (68, refl, refl, omega arith)
unit_back W h = (87, refl, refl, omega arith)
unit_back M h = (77, refl, refl, omega arith)
unit_back Y h = (89, refl, refl, omega arith)
unit_back T h = absurd (h refl)

-- the letter by its byte
pub tenor_made : (f : Frequency) (b : ℕ) → unit_text f.unit ≡ b ∷ []
    → decimal f.count ++ unit_text f.unit ≡ decimal f.count ++ b ∷ []
tenor_made f b e = ap (λ (t : List ℕ). decimal f.count ++ t) e

pair_read : (n : ℕ) → 10 ≤ n → n < 100 → two_digit_number (48 + n / 10) (48 + n % 10) ≡ Some n
pair_read n low high =
    let e : 10 * (n / 10) + n % 10 ≡ n = omega arith in
    ap₂ tens (first_read (n / 10) (omega (arith, low)) (omega (arith, high))) (digit_read (n % 10) (omega arith))
    ∙ ap (λ (m : ℕ). Some m) e

three_read : (n : ℕ) → 100 ≤ n → n < 1000 → three_digits (48 + n / 100) (48 + n / 10 % 10) (48 + n % 10) ≡ Some n
three_read n low high =
    let e : 100 * (n / 100) + 10 * (n / 10 % 10) + n % 10 ≡ n = omega arith in
    let a = first_read (n / 100) (omega (arith, low)) (omega (arith, high)) in
    let b = digit_read (n / 10 % 10) (omega arith) in
    let c = digit_read (n % 10) (omega arith) in
    rw (a, b, c) (ap (λ (m : ℕ). Some m) e)

-- a frequency made of its parts
abbrev frequency : ℕ → FrequencyUnit → Frequency
frequency n u = record { count = n; unit = u }

tenor_by : (f : Frequency) (n b : ℕ) → IsLawfulTenor f → f.count ≡ n → unit_of_letter b ≡ Some f.unit
    → tenor_at (decimal n ++ b ∷ []) ≡ Some (Some f)
tenor_by f n b h same unit =
    let low = h.0.0 in
    let high = h.0.1 in
    elim (cases_lt n 10) [
      | inl one ↦ ap (λ (t : List ℕ). tenor_at (t ++ b ∷ [])) (decimal_digit n one)
          ∙ ap₂ with_unit (first_read n (omega (arith, low, same)) one) unit
          ∙ ap (λ (k : ℕ). Some (Some (frequency k f.unit))) (sym same)
      | inr more ↦ elim (cases_lt n 100) [
        | inl less ↦ ap (λ (t : List ℕ). tenor_at (t ++ b ∷ [])) (of_two_digits n more less)
            ∙ ap₂ with_unit (pair_read n more less) unit ∙ ap (λ (k : ℕ). Some (Some (frequency k f.unit))) (sym same)
        | inr many ↦
            let few : n < 1000 = omega (arith, high, same) in
            ap (λ (t : List ℕ). tenor_at (t ++ b ∷ [])) (three n many few)
            ∙ ap₂ with_unit (three_read n many few) unit ∙ ap (λ (k : ℕ). Some (Some (frequency k f.unit))) (sym same)
      ]
    ]

pub tenor_back : (tenor : Option Frequency) → IfSome tenor IsLawfulTenor → tenor_at (tenor_text tenor) ≡ Some tenor
tenor_back None h = refl
tenor_back (Some f) h =
    let u = unit_back f.unit h.1 in
    ap tenor_at (tenor_made f u.0 u.1) ∙ tenor_by f f.count u.0 h refl u.2

-- what is a tenor is read as one
pub tenor_read : (w : List ℕ) (f : Frequency) → IsTenorWord w f → tenor_at w ≡ Some (Some f)
tenor_read w f h = ap tenor_at h.is ∙ tenor_back (Some f) h.lawful
