-- What is read as a name is spelt as one, and what is spelt as one is read.
use Rattle.std.proofs.Common.{◌≡◌, inl, inr, ℕ, Bool, true, false, ◌&&◌, ◌||◌, List, [], ◌∷◌, ◌++◌, Some, None, nat_eq, refl, sym, ap, ◌∙◌, append_assoc}
use Rattle.std.proofs.lemmas.Bool.{cases_Bool}
use Rattle.std.specs.Char.{encode_utf8}
use Rattle.std.specs.List.{list_all}
use Rattle.std.specs.Prelude.{codes}
use Rattle.std.specs.Str.{encode_utf8_all}
use Rattle.irs_xml.specs.Characters.{rest_after, is_name_start, is_name_char, is_nc_name, QName, name_text, prefixed}
use Rattle.irs_xml.specs.Characters.{is_prefix, is_qname}
use Rattle.irs_xml.specs.Private.Reading.{◌>>=◌, choose, name_run, name_rest, name_at, qname_at}
use Rattle.irs_xml.proofs.Steps.{same_some, bind_some, choose_some, chosen, both_true, true_both, after_sound, begins}

run_named : (cs : List ℕ) → list_all is_name_char (name_run cs) ≡ true
run_named [] = refl
run_named (c ∷ cs) = elim (cases_Bool (is_name_char c)) [
  | inl h ↦ rw h (true_both (is_name_char c) (list_all is_name_char (name_run cs)) h (run_named cs))
  | inr h ↦ rw h refl
]

run_and_rest : (cs : List ℕ) → cs ≡ name_run cs ++ name_rest cs
run_and_rest [] = refl
run_and_rest (c ∷ cs) = elim (cases_Bool (is_name_char c)) [
  | inl h ↦ rw h (ap (λ t. c ∷ t) (run_and_rest cs))
  | inr h ↦ rw h refl
]

-- a name that was read
pub record ReadName (cs bytes rest : List ℕ) : Type 0 where
  pub name : List ℕ
  pub is_name : is_nc_name name ≡ true
  pub says : bytes ≡ encode_utf8_all name
  pub spelt : cs ≡ name ++ rest

-- what is read as a name is spelt as one
pub name_sound : (cs bytes rest : List ℕ) → name_at cs ≡ Some (bytes, rest) → ReadName cs bytes rest
name_sound [] bytes rest e = absurd (cc e)
name_sound (c ∷ cs) bytes rest e =
    elim (chosen (is_name_start c) (Some (encode_utf8 c ++ encode_utf8_all (name_run cs), name_rest cs)) None (Some (bytes, rest)) e) [
      | inl h ↦
          let is = same_some h.1 in record {
            name = c ∷ name_run cs;
            is_name = true_both (is_name_start c) (list_all is_name_char (name_run cs)) h.0 (run_named cs);
            says = sym (ap (λ p. p.0) is);
            spelt = ap (λ t. c ∷ t) (run_and_rest cs) ∙ ap (λ p. c ∷ (name_run cs ++ p.1)) is;
          }
      | inr h ↦ absurd (let k = h.1 in cc k)
    ]

run_stops : (ns rest : List ℕ) → list_all is_name_char ns ≡ true → begins is_name_char rest ≡ false → name_run (ns ++ rest) ≡ ns
run_stops [] [] h s = refl
run_stops [] (c ∷ rest) h s = rw s refl
run_stops (n ∷ ns) rest h s =
    let b = both_true (is_name_char n) (list_all is_name_char ns) h in
    let e = b.0 in rw e (ap (λ t. n ∷ t) (run_stops ns rest b.1 s))

rest_stops : (ns rest : List ℕ) → list_all is_name_char ns ≡ true → begins is_name_char rest ≡ false → name_rest (ns ++ rest) ≡ rest
rest_stops [] [] h s = refl
rest_stops [] (c ∷ rest) h s = rw s refl
rest_stops (n ∷ ns) rest h s =
    let b = both_true (is_name_char n) (list_all is_name_char ns) h in
    let e = b.0 in rw e (rest_stops ns rest b.1 s)

-- a name is read whole where no character of a name follows
pub name_complete : (ns rest : List ℕ) → is_nc_name ns ≡ true → begins is_name_char rest ≡ false
    → name_at (ns ++ rest) ≡ Some (encode_utf8_all ns, rest)
name_complete [] rest h s = absurd (cc h)
name_complete (n ∷ ns) rest h s =
    let b = both_true (is_name_start n) (list_all is_name_char ns) h in
    let e = b.0 in
    rw (e, run_stops ns rest b.1 s, rest_stops ns rest b.1 s) refl

-- names of two parts

-- neither a character of a name nor a colon
abbrev pub is_qname_char : ℕ → Bool
is_qname_char c = is_name_char c || nat_eq c 58

-- what isn't a character of a qualified name isn't one of a name
pub no_name_begins : (cs : List ℕ) → begins is_qname_char cs ≡ false → begins is_name_char cs ≡ false
no_name_begins [] h = refl
no_name_begins (c ∷ cs) h = either (is_name_char c) (nat_eq c 58) h
  where
    either : (a b : Bool) → a || b ≡ false → a ≡ false
    either true b e = absurd (cc e)
    either false b e = refl

no_colon_begins : (cs : List ℕ) → begins is_qname_char cs ≡ false → rest_after (codes ":") cs ≡ None
no_colon_begins [] h = refl
no_colon_begins (c ∷ cs) h = let e = other (is_name_char c) (nat_eq c 58) h in rw e refl
  where
    other : (a b : Bool) → a || b ≡ false → b ≡ false
    other true b e = absurd (cc e)
    other false b e = e

colon_ends : begins is_name_char (58 ∷ []) ≡ false
unfolding is_name_char is_name_start
colon_ends = refl

-- a prefix that is a name is written with its colon
pub prefixed_name : (p l : List ℕ) → is_nc_name p ≡ true → prefixed p l ≡ p ++ 58 ∷ l
prefixed_name [] l h = absurd (cc h)
prefixed_name (c ∷ p) l h = refl

prefix_name : (p : List ℕ) → is_nc_name p ≡ true → is_prefix p ≡ true
prefix_name [] h = refl
prefix_name (c ∷ p) h = h

-- a qualified name that was read
pub record ReadQName (cs prefix local rest : List ℕ) : Type 0 where
  pub name : QName
  pub is_name : is_qname name ≡ true
  pub says_prefix : prefix ≡ encode_utf8_all name.prefix
  pub says_local : local ≡ encode_utf8_all name.local
  pub spelt : cs ≡ name_text name ++ rest

-- what is read as a qualified name is spelt as one
pub qname_sound : (cs prefix local rest : List ℕ) → qname_at cs ≡ Some ((prefix, local), rest) → ReadQName cs prefix local rest
unfolding qname_at
qname_sound cs prefix local rest e =
    let b = bind_some (name_at cs) (λ first. choose (rest_after (codes ":") first.1)
    (λ rest. name_at rest >>= λ local. Some ((first.0, local.0), local.1)) (Some (([], first.0), first.1)))
    ((prefix, local), rest) e in
    let first = b.0 in
    let n = name_sound cs first.0 first.1 b.1 in
    elim (choose_some (rest_after (codes ":") first.1) (λ rest. name_at rest >>= λ local. Some ((first.0, local.0), local.1))
    (Some (([], first.0), first.1)) ((prefix, local), rest) b.2) [
      | inl h ↦
          let m = bind_some (name_at h.0) (λ local. Some ((first.0, local.0), local.1)) ((prefix, local), rest) h.2 in
          let second = m.0 in
          let l = name_sound h.0 second.0 second.1 m.1 in
          let is = same_some m.2 in record {
            name = record { prefix = n.name; local = l.name };
            is_name = true_both (is_prefix n.name) (is_nc_name l.name) (prefix_name n.name n.is_name) l.is_name;
            says_prefix = sym (ap (λ p. p.0.0) is) ∙ n.says;
            says_local = sym (ap (λ p. p.0.1) is) ∙ l.says;
            spelt = n.spelt ∙ ap (λ t. n.name ++ t) (after_sound (codes ":") first.1 h.0 h.1)
                ∙ ap (λ t. n.name ++ (58 ∷ t)) (l.spelt ∙ ap (λ p. l.name ++ p.1) is)
                ∙ sym (append_assoc n.name (58 ∷ l.name) rest)
                ∙ ap (λ t. t ++ rest) (sym (prefixed_name n.name l.name n.is_name));
          }
      | inr h ↦
          let is = same_some h.1 in record {
            name = record { prefix = []; local = n.name };
            is_name = n.is_name;
            says_prefix = sym (ap (λ p. p.0.0) is);
            says_local = sym (ap (λ p. p.0.1) is) ∙ n.says;
            spelt = n.spelt ∙ ap (λ p. n.name ++ p.1) is;
          }
    ]

with_prefix : (c : ℕ) (p l rest : List ℕ) → is_nc_name (c ∷ p) ≡ true → is_nc_name l ≡ true → begins is_qname_char rest ≡ false
    → qname_at ((c ∷ p) ++ 58 ∷ (l ++ rest)) ≡ Some ((encode_utf8_all (c ∷ p), encode_utf8_all l), rest)
unfolding qname_at
with_prefix c p l rest hp hl s =
    let first = name_complete (c ∷ p) (58 ∷ (l ++ rest)) hp colon_ends in
    let second = name_complete l rest hl (no_name_begins rest s) in
    rw (first) (rw (second) refl)

by_prefix : (p l rest : List ℕ) → begins is_qname_char rest ≡ false → is_prefix p && is_nc_name l ≡ true
    → qname_at (prefixed p l ++ rest) ≡ Some ((encode_utf8_all p, encode_utf8_all l), rest)
unfolding qname_at
by_prefix [] l rest s h =
    let first = name_complete l rest h (no_name_begins rest s) in
    let none = no_colon_begins rest s in
    rw (first) (rw (none) refl)
by_prefix (c ∷ p) l rest s h =
    let b = both_true (is_nc_name (c ∷ p)) (is_nc_name l) h in
    ap qname_at (append_assoc (c ∷ p) (58 ∷ l) rest) ∙ with_prefix c p l rest b.0 b.1 s

-- a qualified name is read whole where no such character follows
pub qname_complete : (n : QName) (rest : List ℕ) → is_qname n ≡ true → begins is_qname_char rest ≡ false
    → qname_at (name_text n ++ rest) ≡ Some ((encode_utf8_all n.prefix, encode_utf8_all n.local), rest)
qname_complete n rest h s = by_prefix n.prefix n.local rest s h
