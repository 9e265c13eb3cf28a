-- What is read as a reference is spelt as one, and what is spelt as one is read.
use Rattle.std.proofs.Common.{◌≡◌, inl, inr, ℕ, ◌+◌, ◌*◌, ◌<◌, ◌≤◌, true, false, cond, ◌&&◌, List, [], ◌∷◌, ◌++◌, Some, None, nat_eq, nat_lt, refl, sym, ap, ◌∙◌, arith, append_assoc}
use Rattle.std.proofs.lemmas.Bool.{cases_Bool}
use Rattle.std.proofs.lemmas.Bool.Decides.{nat_tests}
use Rattle.std.specs.Char.{is_digit, digit_value}
use Rattle.std.specs.List.{list_all}
use Rattle.std.specs.Prelude.{codes}
use Rattle.irs_xml.specs.Characters.{is_char, rest_after, Reference, less, greater, ampersand, apostrophe, quotation}
use Rattle.irs_xml.specs.Characters.{decimal, hexadecimal, reference_text, number_after_in_base, character_of}
use Rattle.irs_xml.specs.Characters.{are_digits, is_reference}
use Rattle.irs_xml.specs.Private.Reading.{Got, capped, digits_at, number_at, character_at, reference_at}
use Rattle.irs_xml.proofs.Steps.{same_some, bind_some, choose_some, chosen, both_true, true_both, eq_true, after_sound}

-- past the last character

capped_small : (n : ℕ) → n < 0x11_0000 → capped n ≡ n
capped_small n h = omega arith

allowed_small : (n : ℕ) → is_char n ≡ true → n < 0x11_0000
unfolding is_char
allowed_small n h = grind (arith, nat_tests)

capped_allowed : (n : ℕ) → is_char (capped n) ≡ true → capped n ≡ n
capped_allowed n h = let s = allowed_small (capped n) h in omega (arith, s)

times_more : (n base : ℕ) → 1 ≤ base → n ≤ n * base
times_more n base h = grind arith

capped_step : (n base d : ℕ) → 1 ≤ base → capped (capped n * base + d) ≡ capped (n * base + d)
capped_step n base d h = elim (cases_Bool (nat_lt n 0x11_0000)) [
  | inl e ↦ let s : n < 0x11_0000 = grind (arith, nat_tests) in ap (λ m. capped (m * base + d)) (capped_small n s)
  | inr e ↦
      let big : 0x11_0000 ≤ n = grind (arith, nat_tests) in
      let is : capped n ≡ 0x11_0000 = omega arith in
      let a = times_more n base h in
      let b = times_more (capped n) base h in
      omega (arith, is, a, b)
]

-- the digits up to a semicolon
record ReadDigits (base n : ℕ) (cs : List ℕ) (m : ℕ) (rest : List ℕ) : Type 0 where
  digits : List ℕ
  are : list_all (λ x. is_digit x base) digits ≡ true
  says : m ≡ capped (number_after_in_base base n digits)
  spelt : cs ≡ digits ++ 59 ∷ rest

digits_sound : (base n k : ℕ) (cs : List ℕ) (m : ℕ) (rest : List ℕ) → 1 ≤ base → k ≡ capped n
    → digits_at base k cs ≡ Some (m, rest) → ReadDigits base n cs m rest
digits_sound base n k [] m rest h is e = absurd (cc e)
digits_sound base n k (c ∷ cs) m rest h is e =
    elim (chosen (nat_eq c 59) (Some (k, cs)) (cond (is_digit c base) (digits_at base (capped (k * base + digit_value c)) cs) None) (Some (m, rest)) e) [
      | inl t ↦
          let same = same_some t.1 in record {
            digits = [];
            are = refl;
            says = sym (ap (λ p. p.0) same) ∙ is;
            spelt = ap (λ x. x ∷ cs) (eq_true c 59 t.0) ∙ ap (λ p. 59 ∷ p.1) same;
          }
      | inr t ↦
          elim (chosen (is_digit c base) (digits_at base (capped (k * base + digit_value c)) cs) None (Some (m, rest)) t.1) [
            | inl u ↦
                let next : capped (k * base + digit_value c) ≡ capped (n * base + digit_value c) =
                ap (λ x. capped (x * base + digit_value c)) is ∙ capped_step n base (digit_value c) h in
                let r = digits_sound base (n * base + digit_value c) (capped (k * base + digit_value c)) cs m rest h next u.1 in
                record {
                  digits = c ∷ r.digits;
                  are = true_both (is_digit c base) (list_all (λ x. is_digit x base) r.digits) u.0 r.are;
                  says = r.says;
                  spelt = ap (λ t. c ∷ t) r.spelt;
                }
            | inr u ↦ absurd (let x = u.1 in cc x)
          ]
    ]

small_digit : (c base : ℕ) → base ≤ 36 → is_digit c base ≡ true → capped (digit_value c) ≡ digit_value c
small_digit c base h e = let l : digit_value c < base = grind (arith, nat_tests) in omega (arith, l)

-- a number that was read: one digit or more, and a semicolon
record ReadNumber (base : ℕ) (cs : List ℕ) (m : ℕ) (rest : List ℕ) : Type 0 where
  digits : List ℕ
  are : are_digits base digits ≡ true
  says : m ≡ capped (number_after_in_base base 0 digits)
  spelt : cs ≡ digits ++ 59 ∷ rest

number_sound : (base : ℕ) (cs : List ℕ) (m : ℕ) (rest : List ℕ) → 1 ≤ base → base ≤ 36
    → number_at base cs ≡ Some (m, rest) → ReadNumber base cs m rest
number_sound base [] m rest low high e = absurd (cc e)
number_sound base (c ∷ cs) m rest low high e =
    elim (chosen (is_digit c base) (digits_at base (digit_value c) cs) None (Some (m, rest)) e) [
      | inl t ↦
          let zero_before : digit_value c ≡ 0 * base + digit_value c = omega arith in
          let first : digit_value c ≡ capped (0 * base + digit_value c) =
          sym (small_digit c base high t.0) ∙ ap capped zero_before in
          let r = digits_sound base (0 * base + digit_value c) (digit_value c) cs m rest low first t.1 in record {
            digits = c ∷ r.digits;
            are = true_both (is_digit c base) (list_all (λ x. is_digit x base) r.digits) t.0 r.are;
            says = r.says;
            spelt = ap (λ t. c ∷ t) r.spelt;
          }
      | inr t ↦ absurd (let x = t.1 in cc x)
    ]

-- a character that was read by its number
record ReadCharacter (base : ℕ) (cs : List ℕ) (m : ℕ) (rest : List ℕ) : Type 0 where
  digits : List ℕ
  are : are_digits base digits && is_char (number_after_in_base base 0 digits) ≡ true
  says : m ≡ number_after_in_base base 0 digits
  spelt : cs ≡ digits ++ 59 ∷ rest

character_sound : (base : ℕ) (cs : List ℕ) (m : ℕ) (rest : List ℕ) → 1 ≤ base → base ≤ 36
    → character_at base cs ≡ Some (m, rest) → ReadCharacter base cs m rest
unfolding character_at
character_sound base cs m rest low high e =
    let b = bind_some (number_at base cs) (λ n. cond (is_char n.0) (Some n) None) (m, rest) e in
    elim (chosen (is_char b.0.0) (Some b.0) None (Some (m, rest)) b.2) [
      | inl t ↦
          let is = same_some t.1 in
          let r = number_sound base cs b.0.0 b.0.1 low high b.1 in
          let allowed : is_char (capped (number_after_in_base base 0 r.digits)) ≡ true = ap is_char (sym r.says) ∙ t.0 in
          let exact = capped_allowed (number_after_in_base base 0 r.digits) allowed in record {
            digits = r.digits;
            are = true_both (are_digits base r.digits) (is_char (number_after_in_base base 0 r.digits)) r.are
                (ap is_char (sym exact) ∙ allowed);
            says = sym (ap (λ p. p.0) is) ∙ r.says ∙ exact;
            spelt = r.spelt ∙ ap (λ p. r.digits ++ 59 ∷ p.1) is;
          }
      | inr t ↦ absurd (let x = t.1 in cc x)
    ]

-- a reference that was read after its `&`
pub record ReadReference (cs : List ℕ) (c : ℕ) (rest : List ℕ) : Type 0 where
  pub reference : Reference
  pub is_reference : is_reference reference ≡ true
  pub says : c ≡ character_of reference
  pub spelt : 38 ∷ cs ≡ reference_text reference ++ rest

named_sound : (r : Reference) (c n : ℕ) (w cs x rest : List ℕ) → is_reference r ≡ true → n ≡ character_of r
    → reference_text r ≡ 38 ∷ w → rest_after w cs ≡ Some x → ◌≡◌ {A = Got ℕ} (Some (n, x)) (Some (c, rest)) → ReadReference cs c rest
named_sound r c n w cs x rest ok says text found is =
    let same = same_some is in record {
      reference = r;
      is_reference = ok;
      says = sym (ap (λ p. p.0) same) ∙ says;
      spelt = ap (λ t. 38 ∷ t) (after_sound w cs x found) ∙ ap (λ p. 38 ∷ (w ++ p.1)) same ∙ ap (λ t. t ++ rest) (sym text);
    }

-- what is read as a reference is spelt as one
pub reference_sound : (cs : List ℕ) (c : ℕ) (rest : List ℕ) → reference_at cs ≡ Some (c, rest) → ReadReference cs c rest
unfolding reference_at
reference_sound cs c rest e =
    elim (choose_some (rest_after (codes "lt;") cs) (λ rest. Some (60, rest)) _ (c, rest) e) [
      | inl h ↦ named_sound less c 60 (codes "lt;") cs h.0 rest refl refl refl h.1 h.2
      | inr no_lt ↦ elim (choose_some (rest_after (codes "gt;") cs) (λ rest. Some (62, rest)) _ (c, rest) no_lt.1) [
        | inl h ↦ named_sound greater c 62 (codes "gt;") cs h.0 rest refl refl refl h.1 h.2
        | inr no_gt ↦ elim (choose_some (rest_after (codes "amp;") cs) (λ rest. Some (38, rest)) _ (c, rest) no_gt.1) [
          | inl h ↦ named_sound ampersand c 38 (codes "amp;") cs h.0 rest refl refl refl h.1 h.2
          | inr no_amp ↦ elim (choose_some (rest_after (codes "apos;") cs) (λ rest. Some (39, rest)) _ (c, rest) no_amp.1) [
            | inl h ↦ named_sound apostrophe c 39 (codes "apos;") cs h.0 rest refl refl refl h.1 h.2
            | inr no_apos ↦ elim (choose_some (rest_after (codes "quot;") cs) (λ rest. Some (34, rest)) _ (c, rest) no_apos.1) [
              | inl h ↦ named_sound quotation c 34 (codes "quot;") cs h.0 rest refl refl refl h.1 h.2
              | inr no_quot ↦ elim (choose_some (rest_after (codes "#x") cs) (λ rest. character_at 16 rest) _ (c, rest) no_quot.1) [
                | inl h ↦
                    let r = character_sound 16 h.0 c rest (omega arith) (omega arith) h.2 in record {
                      reference = hexadecimal r.digits;
                      is_reference = r.are;
                      says = r.says;
                      spelt = ap (λ t. 38 ∷ t) (after_sound (codes "#x") cs h.0 h.1) ∙ ap (λ t. codes "&#x" ++ t) r.spelt
                          ∙ ap (λ t. codes "&#x" ++ t) (sym (append_assoc r.digits (codes ";") rest));
                    }
                | inr no_hex ↦ elim (choose_some (rest_after (codes "#") cs) (λ rest. character_at 10 rest) None (c, rest) no_hex.1) [
                  | inl h ↦
                      let r = character_sound 10 h.0 c rest (omega arith) (omega arith) h.2 in record {
                        reference = decimal r.digits;
                        is_reference = r.are;
                        says = r.says;
                        spelt = ap (λ t. 38 ∷ t) (after_sound (codes "#") cs h.0 h.1) ∙ ap (λ t. codes "&#" ++ t) r.spelt
                            ∙ ap (λ t. codes "&#" ++ t) (sym (append_assoc r.digits (codes ";") rest));
                      }
                  | inr none ↦ absurd (let k = none.1 in cc k)
                ]
              ]
            ]
          ]
        ]
      ]
    ]

-- the way back

semicolon_no_digit : (base : ℕ) → base ≤ 36 → is_digit 59 base ≡ false
semicolon_no_digit base h = grind (arith, nat_tests)

digit_no_semicolon : (c base : ℕ) → base ≤ 36 → is_digit c base ≡ true → nat_eq c 59 ≡ false
digit_no_semicolon c base h e = elim (cases_Bool (nat_eq c 59)) [
  | inl s ↦ absurd (let is = eq_true c 59 s in
      let k = sym (semicolon_no_digit base h) ∙ ap (λ x. is_digit x base) (sym is) ∙ e in cc k)
  | inr s ↦ s
]

digits_complete : (base n k : ℕ) (ds rest : List ℕ) → 1 ≤ base → base ≤ 36 → k ≡ capped n
    → list_all (λ x. is_digit x base) ds ≡ true → digits_at base k (ds ++ 59 ∷ rest) ≡ Some (capped (number_after_in_base base n ds), rest)
digits_complete base n k [] rest low high is all = ap (λ m. Some (m, rest)) is
digits_complete base n k (d ∷ ds) rest low high is all =
    let b = both_true (is_digit d base) (list_all (λ x. is_digit x base) ds) all in
    let digit = b.0 in
    let other = digit_no_semicolon d base high b.0 in
    let next : capped (k * base + digit_value d) ≡ capped (n * base + digit_value d) =
    ap (λ x. capped (x * base + digit_value d)) is ∙ capped_step n base (digit_value d) low in
    rw (other, digit) (digits_complete base (n * base + digit_value d) (capped (k * base + digit_value d)) ds rest low high next b.1)

character_complete : (base : ℕ) (ds rest : List ℕ) → 1 ≤ base → base ≤ 36
    → are_digits base ds && is_char (number_after_in_base base 0 ds) ≡ true
    → character_at base (ds ++ 59 ∷ rest) ≡ Some (number_after_in_base base 0 ds, rest)
unfolding character_at
character_complete base [] rest low high h = absurd (cc h)
character_complete base (d ∷ ds) rest low high h =
    let a = both_true (are_digits base (d ∷ ds)) (is_char (number_after_in_base base 0 (d ∷ ds))) h in
    let b = both_true (is_digit d base) (list_all (λ x. is_digit x base) ds) a.0 in
    let digit = b.0 in
    let zero_before : digit_value d ≡ 0 * base + digit_value d = omega arith in
    let first : digit_value d ≡ capped (0 * base + digit_value d) =
    sym (small_digit d base high b.0) ∙ ap capped zero_before in
    let read = digits_complete base (0 * base + digit_value d) (digit_value d) ds rest low high first b.1 in
    let exact : capped (number_after_in_base base 0 (d ∷ ds)) ≡ number_after_in_base base 0 (d ∷ ds) =
    capped_small (number_after_in_base base 0 (d ∷ ds)) (allowed_small (number_after_in_base base 0 (d ∷ ds)) a.1) in
    let allowed = a.1 in
    rw digit (rw read (rw exact (rw allowed refl)))

no_hex_digit : is_digit 120 10 ≡ false
no_hex_digit = refl

decimal_no_hex : (d : ℕ) → is_digit d 10 ≡ true → nat_eq d 120 ≡ false
decimal_no_hex d h = elim (cases_Bool (nat_eq d 120)) [
  | inl s ↦ absurd (let is = eq_true d 120 s in
      let k = sym no_hex_digit ∙ ap (λ x. is_digit x 10) (sym is) ∙ h in cc k)
  | inr s ↦ s
]

-- the characters after the first
abbrev pub tail : List ℕ → List ℕ
tail [] = []
tail (c ∷ cs) = cs

-- what a reference is after its `&`
pub reference_complete : (r : Reference) (rest : List ℕ) → is_reference r ≡ true
    → reference_at (tail (reference_text r ++ rest)) ≡ Some (character_of r, rest)
unfolding reference_at
reference_complete less rest h = refl
reference_complete greater rest h = refl
reference_complete ampersand rest h = refl
reference_complete apostrophe rest h = refl
reference_complete quotation rest h = refl
reference_complete (hexadecimal ds) rest h =
    ap (character_at 16) (append_assoc ds (codes ";") rest) ∙ character_complete 16 ds rest (omega arith) (omega arith) h
reference_complete (decimal []) rest h = absurd (cc h)
reference_complete (decimal (d ∷ ds)) rest h =
    let a = both_true (are_digits 10 (d ∷ ds)) (is_char (number_after_in_base 10 0 (d ∷ ds))) h in
    let b = both_true (is_digit d 10) (list_all (λ x. is_digit x 10) ds) a.0 in
    let other = decimal_no_hex d b.0 in
    rw other (ap (character_at 10) (append_assoc (d ∷ ds) (codes ";") rest)
    ∙ character_complete 10 (d ∷ ds) rest (omega arith) (omega arith) h)
