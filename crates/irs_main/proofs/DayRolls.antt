-- A day of the month that a roll names is a number from 1 to 30, and no other text is one.
use Rattle.std.proofs.Common.{◌≡◌, inl, inr, ℕ, ◌+◌, ◌*◌, ◌-◌, ◌/◌, ◌%◌, ◌≤◌, ◌<◌, List, [], ◌∷◌, Option, Some, None, Bool}
use Rattle.std.proofs.Common.{true, false, refl, sym, ◌∙◌, ap, ap₂, arith}
use Rattle.std.specs.Prelude.{nat_le, ◌&&◌, if◌then◌else◌}
use Rattle.std.proofs.lemmas.Bool.{cases_lt}
use Rattle.std.proofs.lemmas.Bool.Decides.{nat_tests}
use Rattle.std.proofs.lemmas.Fmt.{decimal_digit}
use Rattle.std.proofs.lemmas.Option.{same_Some}
use Rattle.irs_base.proofs.TextLemmas.{of_two_digits}
use Rattle.irs_elements.specs.Codes.{day_number_at, day_roll_at, is_first_digit}
use Rattle.irs_terms.specs.declared.codes.RollCode.{RollCode}
use Rattle.irs_terms.specs.declared.codes.RollCode.TheVariants.{Dom}
use Rattle.irs_main.specs.Elements.{IsDayRoll}

first_range : (a : ℕ) → is_first_digit a ≡ true → (49 ≤ a) × (a ≤ 57)
first_range a e = (grind (arith, nat_tests), grind (arith, nat_tests))

one_by : (t : Bool) (a : ℕ) (r : RollCode) → is_first_digit a ≡ t
    → (let o : Option RollCode = if t then Some (Dom (a - 48)) else None in o ≡ Some r) → IsDayRoll (a ∷ []) r
one_by true a r e is =
    let d = first_range a e in
    let low = d.0 in
    let high = d.1 in
    let back : a ≡ 48 + (a - 48) = omega (arith, low) in
    record {
      day = a - 48;
      from_one = omega (arith, low);
      to_thirty = omega (arith, high);
      is = ap (λ x. x ∷ []) back ∙ sym (decimal_digit (a - 48) (omega (arith, high)));
      gives = sym (same_Some (Dom (a - 48)) r is);
    }
one_by false a r e is = cc

pairs : (a b : ℕ) → (is_first_digit a && nat_le 48 b && nat_le b 57) ≡ true
    → ((49 ≤ a) × (a ≤ 57)) × ((48 ≤ b) × (b ≤ 57))
pairs a b e = ((grind (arith, nat_tests), grind (arith, nat_tests)), (grind (arith, nat_tests), grind (arith, nat_tests)))

at_most : (a b : ℕ) → nat_le a b ≡ true → a ≤ b
at_most a b e = grind (arith, nat_tests)

number_by : (t : Bool) (n : ℕ) (r : RollCode) → nat_le n 30 ≡ t
    → (let o : Option RollCode = if t then Some (Dom n) else None in o ≡ Some r) → (n ≤ 30) × (r ≡ Dom n)
number_by true n r e is = (at_most n 30 e, sym (same_Some (Dom n) r is))
number_by false n r e is = cc

two_by : (t : Bool) (a b : ℕ) (r : RollCode) → (is_first_digit a && nat_le 48 b && nat_le b 57) ≡ t
    → (let o : Option RollCode = if t then day_number_at (10 * (a - 48) + (b - 48)) else None in o ≡ Some r)
    → IsDayRoll (a ∷ b ∷ []) r
two_by true a b r e is =
    let d = pairs a b e in
    let low = d.0.0 in
    let high = d.0.1 in
    let least = d.1.0 in
    let most = d.1.1 in
    let n : ℕ = 10 * (a - 48) + (b - 48) in
    let small = number_by (nat_le n 30) n r refl is in
    let front : a ≡ 48 + n / 10 = omega (arith, low, high, least, most) in
    let back : b ≡ 48 + n % 10 = omega (arith, low, high, least, most) in
    record {
      day = n;
      from_one = omega (arith, low, least);
      to_thirty = small.0;
      is = ap₂ (λ s t. s ∷ t ∷ []) front back ∙ sym (of_two_digits n (omega (arith, low, least)) (omega (arith, high, most)));
      gives = small.1;
    }
two_by false a b r e is = cc

-- what is read as a day of the month is one
pub day_roll : (s : List ℕ) (r : RollCode) → day_roll_at s ≡ Some r → IsDayRoll s r
day_roll [] r e = cc
day_roll (a ∷ []) r e = one_by (is_first_digit a) a r refl e
day_roll (a ∷ b ∷ []) r e = two_by (is_first_digit a && nat_le 48 b && nat_le b 57) a b r refl e
day_roll (a ∷ b ∷ c ∷ rest) r e = cc

one_read : (n : ℕ) → 1 ≤ n → n < 10 → day_roll_at ((48 + n) ∷ []) ≡ Some (Dom n)
one_read n low high =
    let yes : is_first_digit (48 + n) ≡ true = grind (arith, nat_tests) in
    let same : 48 + n - 48 ≡ n = omega arith in
    rw (yes, same) refl

two_read : (n : ℕ) → 10 ≤ n → n ≤ 30 → day_roll_at ((48 + n / 10) ∷ (48 + n % 10) ∷ []) ≡ Some (Dom n)
two_read n low high =
    let yes : is_first_digit (48 + n / 10) ≡ true = grind (arith, nat_tests) in
    let least : nat_le 48 (48 + n % 10) ≡ true = grind (arith, nat_tests) in
    let most : nat_le (48 + n % 10) 57 ≡ true = grind (arith, nat_tests) in
    let same : 10 * (48 + n / 10 - 48) + (48 + n % 10 - 48) ≡ n = omega arith in
    let small : nat_le n 30 ≡ true = grind (arith, nat_tests) in
    rw (yes, least, most, same, small) refl

-- what is a day of the month is read as one
pub day_roll_read : (s : List ℕ) (r : RollCode) → IsDayRoll s r → day_roll_at s ≡ Some r
day_roll_read s r h =
    let low = h.from_one in
    let high = h.to_thirty in
    ap day_roll_at h.is ∙ elim (cases_lt h.day 10) [
      | inl one ↦ ap day_roll_at (decimal_digit h.day one) ∙ one_read h.day low one
      | inr more ↦ ap day_roll_at (of_two_digits h.day more (omega (arith, high))) ∙ two_read h.day more high
    ] ∙ ap (λ (x : RollCode). Some x) (sym h.gives)
