-- How the value of an attribute goes on, a character after another.
use Rattle.std.proofs.Common.{◌≡◌, ◌≢◌, inl, inr, ℕ, zero, suc, ◌<◌, ◌≤◌, cond, List, [], ◌∷◌, ◌++◌, length, Some, None, nat_eq, refl, sym, ap, ◌∙◌, arith, length-append}
use Rattle.std.specs.Char.{encode_utf8}
use Rattle.irs_xml.specs.Characters.{is_white_space, Reference, less, greater, ampersand, apostrophe, quotation}
use Rattle.irs_xml.specs.Characters.{decimal, hexadecimal, reference_text}
use Rattle.irs_xml.specs.Private.Reading.{reference_at, value_at, value_character_at}
use Rattle.irs_xml.proofs.Steps.{same_some, chosen, true_eq, false_eq}
use Rattle.irs_xml.proofs.ReferenceLaws.{reference_sound}

reference_long : (r : Reference) → 1 ≤ length (reference_text r)
reference_long less = omega arith
reference_long greater = omega arith
reference_long ampersand = omega arith
reference_long apostrophe = omega arith
reference_long quotation = omega arith
reference_long (decimal ds) = omega arith
reference_long (hexadecimal ds) = omega arith

-- a reference takes characters
pub reference_short : (cs : List ℕ) (c : ℕ) (rest : List ℕ) → reference_at cs ≡ Some (c, rest) → length rest ≤ length cs
reference_short cs c rest e =
    let r = reference_sound cs c rest e in
    let l = ap length r.spelt ∙ length-append (reference_text r.reference) rest in
    let some = reference_long r.reference in
    omega (arith, l, some)

-- what is read after this text gives what is read from the start
pub record ValueGoes (quote : ℕ) (text cs all : List ℕ) : Type 0 where
  pub fuel : ℕ
  pub enough : length cs ≤ fuel
  pub same : value_at fuel quote text cs ≡ value_at (length all) quote [] all

-- before the first character the whole value is left
pub value_starts : (quote : ℕ) (all : List ℕ) → ValueGoes quote [] all all
value_starts quote all = record { fuel = length all; enough = omega arith; same = refl }

-- one character more may be looked at
record Step (quote : ℕ) (text : List ℕ) (c : ℕ) (cs all : List ℕ) : Type 0 where
  fuel : ℕ
  enough : length cs ≤ fuel
  same : value_at (suc fuel) quote text (c ∷ cs) ≡ value_at (length all) quote [] all

one_more : (quote : ℕ) (text : List ℕ) (c : ℕ) (cs all : List ℕ) → ValueGoes quote text (c ∷ cs) all → Step quote text c cs all
one_more quote text c cs all g = by_fuel g.fuel g.enough g.same
  where
    by_fuel : (n : ℕ) → length (c ∷ cs) ≤ n → value_at n quote text (c ∷ cs) ≡ value_at (length all) quote [] all → Step quote text c cs all
    by_fuel zero h e = absurd (omega (arith, h))
    by_fuel (suc n) h e = record { fuel = n; enough = omega (arith, h); same = e }

character_short : (c : ℕ) (cs : List ℕ) (d : ℕ) (rest : List ℕ) → value_character_at c cs ≡ Some (d, rest) → length rest ≤ length cs
unfolding value_character_at
character_short c cs d rest e =
    elim (chosen (nat_eq c 60) None (cond (nat_eq c 38) (reference_at cs) (Some (cond (is_white_space c) 32 c, cs))) (Some (d, rest)) e) [
      | inl h ↦ absurd (let k = h.1 in cc k)
      | inr h ↦ elim (chosen (nat_eq c 38) (reference_at cs) (Some (cond (is_white_space c) 32 c, cs)) (Some (d, rest)) h.1) [
        | inl k ↦ reference_short cs d rest k.1
        | inr k ↦ let same : cs ≡ rest = ap (λ p. p.1) (same_some k.1) in let l = ap length same in omega (arith, l)
      ]
    ]

-- a character of the value is appended to the text so far
pub value_more : (quote : ℕ) (text : List ℕ) (c : ℕ) (cs : List ℕ) (d : ℕ) (rest all : List ℕ) → c ≢ quote
    → value_character_at c cs ≡ Some (d, rest) → ValueGoes quote text (c ∷ cs) all → ValueGoes quote (text ++ encode_utf8 d) rest all
unfolding value_at
value_more quote text c cs d rest all q read g =
    let s = one_more quote text c cs all g in
    let eq = false_eq c quote q in
    let short = character_short c cs d rest read in
    let same : value_at s.fuel quote (text ++ encode_utf8 d) rest ≡ value_at (length all) quote [] all = rw (eq, read) at s.same in
    record { fuel = s.fuel; enough = omega (arith, short, s.enough); same = same }

-- the characters that are left become fewer
pub value_shorter : (c : ℕ) (old cs : List ℕ) (d : ℕ) (rest : List ℕ) → old ≡ c ∷ cs → value_character_at c cs ≡ Some (d, rest)
    → length rest < length old
value_shorter c old cs d rest e read =
    let short = character_short c cs d rest read in let l = ap length e in omega (arith, short, l)

-- a value with a wrong character isn't read
pub value_wrong : (quote : ℕ) (text : List ℕ) (c : ℕ) (cs all : List ℕ) → c ≢ quote → value_character_at c cs ≡ None
    → ValueGoes quote text (c ∷ cs) all → value_at (length all) quote [] all ≡ None
unfolding value_at
value_wrong quote text c cs all q read g =
    let s = one_more quote text c cs all g in
    let eq = false_eq c quote q in
    sym (rw (eq, read) at s.same)

-- the quote ends the value with the text so far
pub value_ends : (quote : ℕ) (text cs all : List ℕ) → ValueGoes quote text (quote ∷ cs) all → value_at (length all) quote [] all ≡ Some (text, cs)
unfolding value_at
value_ends quote text cs all g =
    let s = one_more quote text quote cs all g in
    let eq = true_eq quote in
    sym (rw eq at s.same)

-- a value without its end quote isn't read
pub value_stops : (quote : ℕ) (text all : List ℕ) → ValueGoes quote text [] all → value_at (length all) quote [] all ≡ None
unfolding value_at
value_stops quote text all g = sym g.same ∙ nothing g.fuel
  where
    nothing : (n : ℕ) → value_at n quote text [] ≡ None
    nothing zero = refl
    nothing (suc n) = refl
