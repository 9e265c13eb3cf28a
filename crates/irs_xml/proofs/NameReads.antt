-- Names at the front of a text.
use Rattle.std.proofs.Common.{◌≡◌, ◌≢◌, ℕ, ◌-◌, true, false, List, [], ◌∷◌, ◌++◌, length, take, drop, Some, None, nat_eq, refl, sym, ap, subst, ◌∙◌, arith, append_assoc, length-append, inl, inr}
use Rattle.std.proofs.lemmas.Bool.{cases_Bool}
use Rattle.std.proofs.lemmas.Bool.Decides.{nat_tests}
use Rattle.std.proofs.lemmas.List.{append-nil}
use Rattle.std.proofs.Math.Seq.{take-append_seam, drop-append_seam}
use Rattle.std.proofs.lemmas.Str.{chars-nil, chars_past_char, encodes-append, IsCharBoundary-at_seam}
use Rattle.std.specs.Char.{encode_utf8}
use Rattle.std.specs.Str.{chars, encode_utf8_all, IsUtf8, IsCharBoundary}
use Rattle.irs_xml.specs.Characters.{ends_after, is_name_start, is_name_char, seen}
use Rattle.irs_xml.specs.Private.Reading.{name_run, name_rest, name_at, SplitsName, EndsName}
use Rattle.irs_xml.proofs.Seeing.{seen_other, seen_return}

-- a name doesn't begin with CR
pub start_no_return : (c : ℕ) → is_name_start c ≡ true → c ≢ 13
unfolding is_name_start
start_no_return c h e = absurd (let k = subst (λ x. is_name_start x ≡ true) e h in cc k)

-- CR isn't a character of a name
pub char_no_return : (c : ℕ) → is_name_char c ≡ true → c ≢ 13
unfolding is_name_char is_name_start
char_no_return c h e = absurd (let k = subst (λ x. is_name_char x ≡ true) e h in cc k)

-- before the first character the whole text is left
pub splits_nothing : (text : List ℕ) → SplitsName text text
splits_nothing text = record { run = []; whole = refl; is_run = refl; is_rest = refl }

last_encoded : (run : List ℕ) (c : ℕ) → encode_utf8_all (run ++ c ∷ []) ≡ encode_utf8_all run ++ encode_utf8 c
last_encoded run c = encodes-append run (c ∷ []) ∙ ap (λ t. encode_utf8_all run ++ t) (append-nil (encode_utf8 c))

run_more : (c : ℕ) (cs : List ℕ) → is_name_char c ≡ true → name_run (c ∷ cs) ≡ c ∷ name_run cs
run_more c cs h = rw h refl

rest_more : (c : ℕ) (cs : List ℕ) → is_name_char c ≡ true → name_rest (c ∷ cs) ≡ name_rest cs
rest_more c cs h = rw h refl

-- a further character of a name is passed over
pub splits_more : (text left rest : List ℕ) (c : ℕ) → SplitsName text left → IsUtf8 left → left ≡ encode_utf8 c ++ rest
    → is_name_char c ≡ true → SplitsName text rest
splits_more text left rest c s u e h =
    let first : chars left ≡ c ∷ chars rest = chars_past_char left rest c u e in record {
      run = s.run ++ c ∷ [];
      whole = s.whole ∙ ap (λ t. encode_utf8_all s.run ++ t) e ∙ sym (append_assoc (encode_utf8_all s.run) (encode_utf8 c) rest)
          ∙ ap (λ t. t ++ rest) (sym (last_encoded s.run c));
      is_run = s.is_run ∙ ap (λ t. s.run ++ name_run t) first ∙ ap (λ t. s.run ++ t) (run_more c (chars rest) h)
          ∙ sym (append_assoc s.run (c ∷ []) (name_run (chars rest)));
      is_rest = s.is_rest ∙ ap name_rest first ∙ rest_more c (chars rest) h;
    }

ends_nothing : (left : List ℕ) → chars left ≡ [] → EndsName left
ends_nothing left e = record { no_run = ap name_run e; no_rest = ap name_rest e ∙ sym e }

-- a name ends at the end of the text
pub ends_empty : (left : List ℕ) → length left ≡ 0 → EndsName left
ends_empty [] e = ends_nothing [] chars-nil
ends_empty (b ∷ bs) e = absurd (omega arith)

-- a name ends before a character that names can't have
pub ends_other : (left rest : List ℕ) (c : ℕ) → IsUtf8 left → left ≡ encode_utf8 c ++ rest → is_name_char c ≡ false
    → EndsName left
ends_other left rest c u e h =
    let first : chars left ≡ c ∷ chars rest = chars_past_char left rest c u e in
    record { no_run = ap name_run first ∙ rw h refl; no_rest = ap name_rest first ∙ (rw h (sym first)) }

-- the ends of lines are no part of names

plain_next : (c : ℕ) (cs : List ℕ) → c ≢ 13 → ends_after false (c ∷ cs) ≡ c ∷ ends_after false cs
unfolding ends_after
plain_next c cs h = grind (arith, nat_tests)

returned : (c : ℕ) (cs : List ℕ) → c ≡ 13 → ends_after false (c ∷ cs) ≡ 10 ∷ ends_after true cs
unfolding ends_after
returned c cs e = rw e refl

feed_is_none : is_name_char 10 ≡ false
unfolding is_name_char is_name_start
feed_is_none = refl

-- what begins with no character of a name does so too with its ends of lines as one LF each
record OtherFront (cs : List ℕ) : Type 0 where
  first : ℕ
  others : List ℕ
  is : cs ≡ first ∷ others
  apart : is_name_char first ≡ false

other_front : (c : ℕ) (cs : List ℕ) → is_name_char c ≡ false → OtherFront (ends_after false (c ∷ cs))
other_front c cs h = elim (cases_Bool (nat_eq c 13)) [
  | inl e ↦ record { first = 10; others = ends_after true cs; is = returned c cs (grind (arith, nat_tests)); apart = feed_is_none }
  | inr e ↦ record { first = c; others = ends_after false cs; is = plain_next c cs (grind (arith, nat_tests)); apart = h }
]

none_run : (cs : List ℕ) → OtherFront cs → name_run cs ≡ []
none_run cs f = ap name_run f.is ∙ (let h = f.apart in rw h refl)

none_rest : (cs : List ℕ) → OtherFront cs → name_rest cs ≡ cs
none_rest cs f = ap name_rest f.is ∙ (let h = f.apart in rw h (sym f.is))

-- reading line ends as LF doesn't change the name in front
pub run-ends : (cs : List ℕ) → name_run (ends_after false cs) ≡ name_run cs
unfolding ends_after
run-ends [] = refl
run-ends (c ∷ cs) = elim (cases_Bool (is_name_char c)) [
  | inl h ↦ ap name_run (plain_next c cs (char_no_return c h)) ∙ run_more c (ends_after false cs) h
      ∙ ap (λ t. c ∷ t) (run-ends cs) ∙ sym (run_more c cs h)
  | inr h ↦ none_run (ends_after false (c ∷ cs)) (other_front c cs h) ∙ (rw h refl)
]

-- line ends are read as LF before or after the name is passed over, with the same result
pub rest-ends : (cs : List ℕ) → name_rest (ends_after false cs) ≡ ends_after false (name_rest cs)
unfolding ends_after
rest-ends [] = refl
rest-ends (c ∷ cs) = elim (cases_Bool (is_name_char c)) [
  | inl h ↦ ap name_rest (plain_next c cs (char_no_return c h)) ∙ rest_more c (ends_after false cs) h
      ∙ rest-ends cs ∙ ap (ends_after false) (sym (rest_more c cs h))
  | inr h ↦ none_rest (ends_after false (c ∷ cs)) (other_front c cs h) ∙ ap (ends_after false) (sym (other_rest c cs h))
]
  where
    other_rest : (c : ℕ) (cs : List ℕ) → is_name_char c ≡ false → name_rest (c ∷ cs) ≡ c ∷ cs
    other_rest c cs h = rw h refl

-- there is no name at the end of a text
pub no_name_at_end : (text : List ℕ) → seen text ≡ [] → name_at (seen text) ≡ None
no_name_at_end text e = ap name_at e

start_case : (c : ℕ) (cs : List ℕ) → is_name_start c ≡ true
    → name_at (c ∷ cs) ≡ Some (encode_utf8 c ++ encode_utf8_all (name_run cs), name_rest cs)
start_case c cs h = rw h refl

no_start_case : (c : ℕ) (cs : List ℕ) → is_name_start c ≡ false → name_at (c ∷ cs) ≡ None
no_start_case c cs h = rw h refl

feed_no_start : is_name_start 10 ≡ false
unfolding is_name_start
feed_no_start = refl

-- no name where the first character begins none
pub no_name_other : (text behind : List ℕ) (c : ℕ) → IsUtf8 text → text ≡ encode_utf8 c ++ behind → is_name_start c ≡ false
    → name_at (seen text) ≡ None
no_name_other text behind c u e h = elim (cases_Bool (nat_eq c 13)) [
  | inl is ↦
      let same : c ≡ 13 = grind (arith, nat_tests) in
      ap name_at (seen_return text behind u (e ∙ ap (λ x. encode_utf8 x ++ behind) same))
      ∙ no_start_case 10 _ feed_no_start
  | inr is ↦ ap name_at (seen_other text behind c u e (grind (arith, nat_tests))) ∙ no_start_case c _ h
]

-- a name, its first character and those after it
pub record Named (text behind left : List ℕ) (c : ℕ) : Type 0 where
  pub utf8 : IsUtf8 text
  pub begins : text ≡ encode_utf8 c ++ behind
  pub start : is_name_start c ≡ true
  pub splits : SplitsName behind left
  pub ends : EndsName left

whole_of : {text behind left : List ℕ} {c : ℕ} (n : Named text behind left c)
    → text ≡ (encode_utf8 c ++ encode_utf8_all n.splits.run) ++ left
whole_of {text} {behind} {left} {c} n =
    n.begins ∙ ap (λ t. encode_utf8 c ++ t) n.splits.whole
    ∙ sym (append_assoc (encode_utf8 c) (encode_utf8_all n.splits.run) left)

length_of : (text xs left : List ℕ) → text ≡ xs ++ left → length text - length left ≡ length xs
length_of text xs left e = let l = ap length e ∙ length-append xs left in omega (arith, l)

-- a name that is read ends between two characters of the text
pub may_split : {text behind left : List ℕ} {c : ℕ} → Named text behind left c → IsUtf8 left
    → IsCharBoundary text (length text - length left)
may_split {text} {behind} {left} {c} n u =
    let xs = encode_utf8 c ++ encode_utf8_all n.splits.run in
    let at : IsCharBoundary text (length xs) = IsCharBoundary-at_seam text xs left (whole_of n) u in
    subst (IsCharBoundary text) (sym (length_of text xs left (whole_of n))) at

cut_front : (text xs left : List ℕ) → text ≡ xs ++ left → take (length text - length left) text ≡ xs
cut_front text xs left e =
    ap (λ n. take n text) (length_of text xs left e) ∙ ap (take (length xs)) e ∙ take-append_seam xs left

cut_back : (text xs left : List ℕ) → text ≡ xs ++ left → drop (length text - length left) text ≡ left
cut_back text xs left e =
    ap (λ n. drop n text) (length_of text xs left e) ∙ ap (drop (length xs)) e ∙ drop-append_seam xs left

-- the name that the definitions read is the text up to where the code stops
pub name_read : {text behind left : List ℕ} {c : ℕ} → Named text behind left c
    → name_at (seen text) ≡ Some (take (length text - length left) text, seen (drop (length text - length left) text))
unfolding seen
name_read {text} {behind} {left} {c} n =
    let xs = encode_utf8 c ++ encode_utf8_all n.splits.run in
    let run : name_run (seen behind) ≡ n.splits.run = run-ends (chars behind) ∙ n.splits.is_run
    ∙ ap (λ t. n.splits.run ++ t) n.ends.no_run ∙ append-nil n.splits.run in
    let rest : name_rest (seen behind) ≡ seen left = rest-ends (chars behind)
    ∙ ap (ends_after false) (n.splits.is_rest ∙ n.ends.no_rest) in
    ap name_at (seen_other text behind c n.utf8 n.begins (start_no_return c n.start)) ∙ start_case c (seen behind) n.start
    ∙ ap (λ t. Some (encode_utf8 c ++ encode_utf8_all t, name_rest (seen behind))) run
    ∙ ap (λ t. Some (xs, t)) rest
    ∙ ap (λ t. Some (t, seen left)) (sym (cut_front text xs left (whole_of n)))
    ∙ ap (λ t. Some (take (length text - length left) text, seen t)) (sym (cut_back text xs left (whole_of n)))
