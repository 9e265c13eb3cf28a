-- What is read as a tag is spelt as one, and what is spelt as one is read.
use Rattle.std.proofs.Common.{◌≡◌, inl, inr, ℕ, zero, suc, ◌≤◌, Bool, true, false, cond, not, ◌&&◌, ◌||◌, List, [], ◌∷◌, ◌++◌, length, Some, None, nat_eq, refl, sym, ap, subst, ◌∙◌, arith, append_assoc, length-append}
use Rattle.std.proofs.lemmas.Bool.{cases_Bool}
use Rattle.std.proofs.lemmas.Bool.Decides.{nat_tests}
use Rattle.std.proofs.lemmas.List.{append-nil}
use Rattle.std.specs.Char.{encode_utf8}
use Rattle.std.specs.List.{list_all}
use Rattle.std.specs.Prelude.{codes}
use Rattle.std.specs.Str.{encode_utf8_all}
use Rattle.irs_xml.specs.Characters.{is_white_space, is_white, is_gap, rest_after, is_name_start, is_name_char}
use Rattle.irs_xml.specs.Characters.{is_nc_name, QName, name_text, prefixed, is_prefix, is_qname, Reference, less}
use Rattle.irs_xml.specs.Characters.{greater, ampersand, apostrophe, quotation, decimal, hexadecimal, reference_text}
use Rattle.irs_xml.specs.Characters.{character_of, is_reference}
use Rattle.irs_xml.specs.Content.{most_attributes}
use Rattle.irs_xml.specs.Tags.{Setting, Opening, setting_of, settings_of, opening_of, ValuePiece, plain, refers}
use Rattle.irs_xml.specs.Tags.{piece_text, piece_character, is_piece, pieces_text, are_pieces, pieces_value, Attribute}
use Rattle.irs_xml.specs.Tags.{attribute_text, is_quote, is_spaced_attribute, attributes_text, are_attributes, Tag}
use Rattle.irs_xml.specs.Tags.{tag_text, is_tag}
use Rattle.irs_xml.specs.Private.Reading.{Got, ◌>>=◌, choose, skip_space, gap_at, qname_at, reference_at, equals_at}
use Rattle.irs_xml.specs.Private.Reading.{quote_at, value_character_at, value_at, setting_at, tag_end_at, settings_at}
use Rattle.irs_xml.specs.Private.Reading.{tag_at}
use Rattle.irs_xml.proofs.Steps.{same_some, bind_some, choose_some, chosen, both_true, true_both, eq_true, true_eq, after_sound, begins, white_run, run_white, skip_sound, skip-white, gap_sound, gap_complete}
use Rattle.irs_xml.proofs.NameLaws.{is_qname_char, qname_sound, qname_complete}
use Rattle.irs_xml.proofs.ReferenceLaws.{reference_sound, reference_complete, tail}
use Rattle.irs_xml.proofs.CommentLaws.{space_no_name}

not_false : (b : Bool) → b ≡ false → not b ≡ true
not_false b e = rw e refl

not_true : (b : Bool) → not b ≡ true → b ≡ false
not_true true e = absurd (cc e)
not_true false e = refl

-- values

-- the rest of an attribute's value, read up to its quote and appended to a text
pub record ReadValue (quote : ℕ) (text cs out rest : List ℕ) : Type 0 where
  pub pieces : List ValuePiece
  pub are : are_pieces quote pieces ≡ true
  pub says : out ≡ text ++ pieces_value pieces
  pub spelt : cs ≡ pieces_text pieces ++ quote ∷ rest

-- a piece of an attribute's value that was read, whose first character isn't the quote
record ReadPiece (c : ℕ) (cs : List ℕ) (d : ℕ) (rest : List ℕ) : Type 0 where
  piece : ValuePiece
  is : (quote : ℕ) → nat_eq c quote ≡ false → is_piece quote piece ≡ true
  says : d ≡ piece_character piece
  spelt : c ∷ cs ≡ piece_text piece ++ rest

piece_sound : (c : ℕ) (cs : List ℕ) (d : ℕ) (rest : List ℕ) → value_character_at c cs ≡ Some (d, rest) → ReadPiece c cs d rest
unfolding value_character_at
piece_sound c cs d rest e =
    elim (chosen (nat_eq c 60) None (cond (nat_eq c 38) (reference_at cs) (Some (cond (is_white_space c) 32 c, cs))) (Some (d, rest)) e) [
      | inl h ↦ absurd (let k = h.1 in cc k)
      | inr h ↦ elim (chosen (nat_eq c 38) (reference_at cs) (Some (cond (is_white_space c) 32 c, cs)) (Some (d, rest)) h.1) [
        | inl k ↦
            let r = reference_sound cs d rest k.1 in record {
              piece = refers r.reference;
              is = λ quote other. r.is_reference;
              says = r.says;
              spelt = ap (λ x. x ∷ cs) (eq_true c 38 k.0) ∙ r.spelt;
            }
        | inr k ↦
            let is = same_some k.1 in record {
              piece = plain c;
              is = λ quote other. true_both (not (nat_eq c 60)) (not (nat_eq c 38) && not (nat_eq c quote)) (not_false (nat_eq c 60) h.0)
                  (true_both (not (nat_eq c 38)) (not (nat_eq c quote)) (not_false (nat_eq c 38) k.0) (not_false (nat_eq c quote) other));
              says = sym (ap (λ p. p.0) is);
              spelt = ap (λ p. c ∷ p.1) is;
            }
      ]
    ]

-- what is read as an attribute's value is spelt as one
pub value_sound : (n quote : ℕ) (text cs out rest : List ℕ) → value_at n quote text cs ≡ Some (out, rest) → ReadValue quote text cs out rest
unfolding value_at
value_sound zero quote text cs out rest e = absurd (cc e)
value_sound (suc n) quote text [] out rest e = absurd (cc e)
value_sound (suc n) quote text (c ∷ cs) out rest e =
    elim (chosen (nat_eq c quote) (Some (text, cs)) (value_character_at c cs >>= λ r. value_at n quote (text ++ encode_utf8 r.0) r.1) (Some (out, rest)) e) [
      | inl h ↦
          let is = same_some h.1 in record {
            pieces = [];
            are = refl;
            says = sym (ap (λ p. p.0) is) ∙ sym (append-nil text);
            spelt = ap (λ x. x ∷ cs) (eq_true c quote h.0) ∙ ap (λ p. quote ∷ p.1) is;
          }
      | inr h ↦
          let b = bind_some (value_character_at c cs) (λ r. value_at n quote (text ++ encode_utf8 r.0) r.1) (out, rest) h.1 in
          let p = piece_sound c cs b.0.0 b.0.1 b.1 in
          let v = value_sound n quote (text ++ encode_utf8 b.0.0) b.0.1 out rest b.2 in record {
            pieces = p.piece ∷ v.pieces;
            are = true_both (is_piece quote p.piece) (are_pieces quote v.pieces) (p.is quote h.0) v.are;
            says = v.says ∙ append_assoc text (encode_utf8 b.0.0) (pieces_value v.pieces)
                ∙ ap (λ d. text ++ (encode_utf8 d ++ pieces_value v.pieces)) p.says;
            spelt = p.spelt ∙ ap (λ t. piece_text p.piece ++ t) v.spelt
                ∙ sym (append_assoc (piece_text p.piece) (pieces_text v.pieces) (quote ∷ rest));
          }
    ]

quote_no_mark : (q : ℕ) → is_quote q ≡ true → nat_eq 38 q ≡ false
quote_no_mark q h = grind (arith, nat_tests)

-- a reference begins with `&`
pub reference_begins : (r : Reference) (rest : List ℕ) → reference_text r ++ rest ≡ 38 ∷ tail (reference_text r ++ rest)
reference_begins less rest = refl
reference_begins greater rest = refl
reference_begins ampersand rest = refl
reference_begins apostrophe rest = refl
reference_begins quotation rest = refl
reference_begins (decimal ds) rest = refl
reference_begins (hexadecimal ds) rest = refl

value_next : (n quote c : ℕ) (text cs : List ℕ) (d : ℕ) (rest : List ℕ) → nat_eq c quote ≡ false → value_character_at c cs ≡ Some (d, rest)
    → value_at (suc n) quote text (c ∷ cs) ≡ value_at n quote (text ++ encode_utf8 d) rest
unfolding value_at
value_next n quote c text cs d rest other read = rw (other, read) refl

character_plain : (quote c : ℕ) (cs : List ℕ) → is_piece quote (plain c) ≡ true → value_character_at c cs ≡ Some (piece_character (plain c), cs)
unfolding value_character_at
character_plain quote c cs h =
    let a = both_true (not (nat_eq c 60)) (not (nat_eq c 38) && not (nat_eq c quote)) h in
    let b = both_true (not (nat_eq c 38)) (not (nat_eq c quote)) a.1 in
    let x = not_true (nat_eq c 60) a.0 in let y = not_true (nat_eq c 38) b.0 in rw (x, y) refl

character_refers : (r : Reference) (rest : List ℕ) → is_reference r ≡ true
    → value_character_at 38 (tail (reference_text r ++ rest)) ≡ Some (character_of r, rest)
unfolding value_character_at
character_refers r rest h = reference_complete r rest h

value_end : (n quote : ℕ) (text rest : List ℕ) → value_at (suc n) quote text (quote ∷ rest) ≡ Some (text ++ [], rest)
unfolding value_at
value_end n quote text rest = let e = true_eq quote in rw e (ap (λ t. Some (t, rest)) (sym (append-nil text)))

-- a reference has at least one character
pub reference_some : (r : Reference) → 1 ≤ length (reference_text r)
reference_some less = omega arith
reference_some greater = omega arith
reference_some ampersand = omega arith
reference_some apostrophe = omega arith
reference_some quotation = omega arith
reference_some (decimal ds) = omega arith
reference_some (hexadecimal ds) = omega arith

-- every value that follows the rules is read up to its quote
pub value_complete : (n quote : ℕ) (text : List ℕ) (ps : List ValuePiece) (rest : List ℕ) → is_quote quote ≡ true → are_pieces quote ps ≡ true
    → length (pieces_text ps ++ quote ∷ rest) ≤ n → value_at n quote text (pieces_text ps ++ quote ∷ rest) ≡ Some (text ++ pieces_value ps, rest)
value_complete zero quote text [] rest q are l = absurd (omega (arith, l))
value_complete zero quote text (p ∷ ps) rest q are l = absurd (let k = length-append (pieces_text (p ∷ ps)) (quote ∷ rest) in omega (arith, l, k))
value_complete (suc n) quote text [] rest q are l = value_end n quote text rest
value_complete (suc n) quote text (plain c ∷ ps) rest q are l =
    let b = both_true (is_piece quote (plain c)) (are_pieces quote ps) are in
    let a = both_true (not (nat_eq c 60)) (not (nat_eq c 38) && not (nat_eq c quote)) b.0 in
    let other = not_true (nat_eq c quote) (both_true (not (nat_eq c 38)) (not (nat_eq c quote)) a.1).1 in
    let more = value_complete n quote (text ++ encode_utf8 (piece_character (plain c))) ps rest q b.1 (omega (arith, l)) in
    value_next n quote c text (pieces_text ps ++ quote ∷ rest) (piece_character (plain c)) (pieces_text ps ++ quote ∷ rest) other
    (character_plain quote c (pieces_text ps ++ quote ∷ rest) b.0)
    ∙ more ∙ ap (λ t. Some (t, rest)) (append_assoc text (encode_utf8 (piece_character (plain c))) (pieces_value ps))
value_complete (suc n) quote text (refers r ∷ ps) rest q are l =
    let b = both_true (is_reference r) (are_pieces quote ps) are in
    let left = pieces_text ps ++ quote ∷ rest in
    let whole : pieces_text (refers r ∷ ps) ++ quote ∷ rest ≡ 38 ∷ tail (reference_text r ++ left) =
    append_assoc (reference_text r) (pieces_text ps) (quote ∷ rest) ∙ reference_begins r left in
    let long = ap length (append_assoc (reference_text r) (pieces_text ps) (quote ∷ rest)) ∙ length-append (reference_text r) left in
    let some = reference_some r in
    let more = value_complete n quote (text ++ encode_utf8 (character_of r)) ps rest q b.1 (omega (arith, l, long, some)) in
    ap (value_at (suc n) quote text) whole
    ∙ value_next n quote 38 text (tail (reference_text r ++ left)) (character_of r) left (quote_no_mark quote q) (character_refers r left b.0)
    ∙ more ∙ ap (λ t. Some (t, rest)) (append_assoc text (encode_utf8 (character_of r)) (pieces_value ps))

-- attributes

-- what is read as a quote is one
pub quote_sound : (cs : List ℕ) (q : ℕ) (rest : List ℕ) → quote_at cs ≡ Some (q, rest) → (is_quote q ≡ true) × (cs ≡ q ∷ rest)
unfolding quote_at
quote_sound cs q rest e =
    elim (choose_some (rest_after (codes "'") cs) (λ rest. Some (39, rest)) (choose (rest_after (34 ∷ []) cs) (λ rest. Some (34, rest)) None) (q, rest) e) [
      | inl h ↦
          let is = same_some h.2 in
          (ap is_quote (sym (ap (λ p. p.0) is)), after_sound (codes "'") cs h.0 h.1 ∙ ap (λ p. p.0 ∷ p.1) is)
      | inr h ↦ elim (choose_some (rest_after (34 ∷ []) cs) (λ rest. Some (34, rest)) None (q, rest) h.1) [
        | inl k ↦
            let is = same_some k.2 in
            (ap is_quote (sym (ap (λ p. p.0) is)), after_sound (34 ∷ []) cs k.0 k.1 ∙ ap (λ p. p.0 ∷ p.1) is)
        | inr k ↦ absurd (let x = k.1 in cc x)
      ]
    ]

double_quote : (rest : List ℕ) → quote_at (34 ∷ rest) ≡ Some (34, rest)
unfolding quote_at
double_quote rest = refl

single_quote : (rest : List ℕ) → quote_at (39 ∷ rest) ≡ Some (39, rest)
unfolding quote_at
single_quote rest = refl

-- every quote is read
pub quote_complete : (q : ℕ) (rest : List ℕ) → is_quote q ≡ true → quote_at (q ∷ rest) ≡ Some (q, rest)
quote_complete q rest h = elim (cases_Bool (nat_eq q 34)) [
  | inl e ↦ subst (λ x. quote_at (x ∷ rest) ≡ Some (x, rest)) (sym (eq_true q 34 e)) (double_quote rest)
  | inr e ↦
      let is : q ≡ 39 = grind (arith, nat_tests) in
      subst (λ x. quote_at (x ∷ rest) ≡ Some (x, rest)) (sym is) (single_quote rest)
]

-- `=` with white space round it that was read
pub record ReadEquals (cs rest : List ℕ) : Type 0 where
  pub before : List ℕ
  pub after : List ℕ
  pub white_before : is_white before ≡ true
  pub white_after : is_white after ≡ true
  pub spelt : cs ≡ before ++ (61 ∷ (after ++ rest))

-- what is read as `=` is `=` with white space round it
pub equals_sound : (cs rest : List ℕ) → equals_at cs ≡ Some rest → ReadEquals cs rest
unfolding equals_at
equals_sound cs rest e =
    let b = bind_some (rest_after (codes "=") (skip_space cs)) (λ rest. Some (skip_space rest)) rest e in record {
      before = white_run cs;
      after = white_run b.0;
      white_before = run_white cs;
      white_after = run_white b.0;
      spelt = skip_sound cs ∙ ap (λ t. white_run cs ++ t) (after_sound (codes "=") (skip_space cs) b.0 b.1
          ∙ ap (λ t. 61 ∷ t) (skip_sound b.0 ∙ ap (λ t. white_run b.0 ++ t) (same_some b.2)));
    }

equals_no_space : is_white_space 61 ≡ false
unfolding is_white_space
equals_no_space = refl

-- `=` is read with the white space round it
pub equals_complete : (before after rest : List ℕ) → is_white before ≡ true → is_white after ≡ true → begins is_white_space rest ≡ false
    → equals_at (before ++ (61 ∷ (after ++ rest))) ≡ Some rest
unfolding equals_at
equals_complete before after rest w v s =
    let first = skip-white before (61 ∷ (after ++ rest)) w equals_no_space in
    let second = skip-white after rest v s in
    rw (first, second) refl

-- an attribute that was read after its white space
record ReadSetting (cs : List ℕ) (s : Setting) (rest : List ℕ) : Type 0 where
  name : QName
  before : List ℕ
  behind : List ℕ
  quote : ℕ
  pieces : List ValuePiece
  is_name : is_qname name ≡ true
  white_before : is_white before ≡ true
  white_behind : is_white behind ≡ true
  is_quote : is_quote quote ≡ true
  are : are_pieces quote pieces ≡ true
  says : s ≡ record { prefix = encode_utf8_all name.prefix; local = encode_utf8_all name.local; value = pieces_value pieces }
  spelt : cs ≡ name_text name ++ (before ++ (61 ∷ (behind ++ (quote ∷ (pieces_text pieces ++ quote ∷ rest)))))

setting_parts : (p l v p' l' v' : List ℕ) → p ≡ p' → l ≡ l' → v ≡ v'
    → ◌≡◌ {A = Setting} (record { prefix = p; local = l; value = v }) (record { prefix = p'; local = l'; value = v' })
setting_parts p l v p' l' v' a b c = λ i. record { prefix = a i; local = b i; value = c i }

setting_sound : (cs : List ℕ) (s : Setting) (rest : List ℕ) → setting_at cs ≡ Some (s, rest) → ReadSetting cs s rest
unfolding setting_at
setting_sound cs s rest e =
    let a = bind_some (qname_at cs) _ (s, rest) e in
    let b = bind_some (equals_at a.0.1) _ (s, rest) a.2 in
    let q = bind_some (quote_at b.0) _ (s, rest) b.2 in
    let v = bind_some (value_at (length q.0.1) q.0.0 [] q.0.1) _ (s, rest) q.2 in
    let is = same_some v.2 in
    let name = qname_sound cs a.0.0.0 a.0.0.1 a.0.1 a.1 in
    let eq = equals_sound a.0.1 b.0 b.1 in
    let quote = quote_sound b.0 q.0.0 q.0.1 q.1 in
    let value = value_sound (length q.0.1) q.0.0 [] q.0.1 v.0.0 v.0.1 v.1 in
    record {
      name = name.name;
      before = eq.before;
      behind = eq.after;
      quote = q.0.0;
      pieces = value.pieces;
      is_name = name.is_name;
      white_before = eq.white_before;
      white_behind = eq.white_after;
      is_quote = quote.0;
      are = value.are;
      says = sym (ap (λ p. p.0) is) ∙ setting_parts _ _ _ _ _ _ name.says_prefix name.says_local value.says;
      spelt = name.spelt ∙ ap (λ t. name_text name.name ++ t) (eq.spelt
          ∙ ap (λ t. eq.before ++ (61 ∷ (eq.after ++ t))) (quote.1 ∙ ap (λ t. q.0.0 ∷ t) (value.spelt
          ∙ ap (λ p. pieces_text value.pieces ++ q.0.0 ∷ p.1) is)));
    }

-- `>`, or `/>` of an empty element
abbrev pub end_text : Bool → List ℕ
end_text false = codes ">"
end_text true = codes "/>"

end_sound : (cs : List ℕ) (b : Bool) (rest : List ℕ) → tag_end_at cs ≡ Some (b, rest) → cs ≡ end_text b ++ rest
unfolding tag_end_at
end_sound cs b rest e =
    elim (choose_some (rest_after (codes ">") cs) (λ rest. Some (false, rest)) (choose (rest_after (codes "/>") cs) (λ rest. Some (true, rest)) None) (b, rest) e) [
      | inl h ↦ let is = same_some h.2 in after_sound (codes ">") cs h.0 h.1 ∙ ap (λ p. end_text p.0 ++ p.1) is
      | inr h ↦ elim (choose_some (rest_after (codes "/>") cs) (λ rest. Some (true, rest)) None (b, rest) h.1) [
        | inl k ↦ let is = same_some k.2 in after_sound (codes "/>") cs k.0 k.1 ∙ ap (λ p. end_text p.0 ++ p.1) is
        | inr k ↦ absurd (let x = k.1 in cc x)
      ]
    ]

end_complete : (b : Bool) (rest : List ℕ) → tag_end_at (end_text b ++ rest) ≡ Some (b, rest)
unfolding tag_end_at
end_complete false rest = refl
end_complete true rest = refl

-- the attributes of a tag and its end, read after the attributes before them
record ReadSettings (n : ℕ) (ss : List Setting) (cs : List ℕ) (out : List Setting) (b : Bool) (rest : List ℕ) : Type 0 where
  attributes : List Attribute
  space : List ℕ
  are : are_attributes attributes ≡ true
  few : length attributes ≤ n
  white : is_white space ≡ true
  says : out ≡ ss ++ settings_of attributes
  spelt : cs ≡ attributes_text attributes ++ (space ++ (end_text b ++ rest))

settings_stop : (n : ℕ) (ss : List Setting) (cs : List ℕ) (out : List Setting) (b : Bool) (rest : List ℕ) (x : Bool × List ℕ)
    → tag_end_at (skip_space cs) ≡ Some x → ◌≡◌ {A = Got (List Setting × Bool)} (Some ((ss, x.0), x.1)) (Some ((out, b), rest))
    → ReadSettings n ss cs out b rest
settings_stop n ss cs out b rest x found e =
    let is = same_some e in record {
      attributes = [];
      space = white_run cs;
      are = refl;
      few = omega arith;
      white = run_white cs;
      says = sym (ap (λ p. p.0.0) is) ∙ sym (append-nil ss);
      spelt = skip_sound cs ∙ ap (λ t. white_run cs ++ t) (end_sound (skip_space cs) x.0 x.1 found ∙ ap (λ p. end_text p.0.1 ++ p.1) is);
    }

regroup : (a : Attribute) (x y : List ℕ)
    → a.gap ++ (name_text a.name ++ (a.before ++ (61 ∷ (a.after ++ (a.quote ∷ (pieces_text a.pieces ++ a.quote ∷ (x ++ y)))))))
    ≡ (attribute_text a ++ x) ++ y
regroup a x y = sym (simp append_assoc)

settings_sound : (n : ℕ) (ss : List Setting) (cs : List ℕ) (out : List Setting) (b : Bool) (rest : List ℕ)
    → settings_at n ss cs ≡ Some ((out, b), rest) → ReadSettings n ss cs out b rest
unfolding settings_at
settings_sound zero ss cs out b rest e =
    elim (choose_some (tag_end_at (skip_space cs)) (λ end. Some ((ss, end.0), end.1)) None ((out, b), rest) e) [
      | inl h ↦ settings_stop zero ss cs out b rest h.0 h.1 h.2
      | inr h ↦ absurd (let x = h.1 in cc x)
    ]
settings_sound (suc n) ss cs out b rest e =
    elim (choose_some (tag_end_at (skip_space cs)) (λ end. Some ((ss, end.0), end.1))
    (gap_at cs >>= λ rest. setting_at rest >>= λ s. settings_at n (ss ++ s.0 ∷ []) s.1) ((out, b), rest) e) [
      | inl h ↦ settings_stop (suc n) ss cs out b rest h.0 h.1 h.2
      | inr h ↦
          let g = bind_some (gap_at cs) _ ((out, b), rest) h.1 in
          let s = bind_some (setting_at g.0) _ ((out, b), rest) g.2 in
          let gap = gap_sound cs g.0 g.1 in
          let one = setting_sound g.0 s.0.0 s.0.1 s.1 in
          let more = settings_sound n (ss ++ s.0.0 ∷ []) s.0.1 out b rest s.2 in
          let a : Attribute = record { gap = gap.0; name = one.name; before = one.before; after = one.behind; quote = one.quote; pieces = one.pieces } in
          record {
            attributes = a ∷ more.attributes;
            space = more.space;
            are = true_both (is_spaced_attribute a) (are_attributes more.attributes)
                (true_both (is_gap a.gap) (is_qname a.name && (is_white a.before && (is_white a.after && (is_quote a.quote && are_pieces a.quote a.pieces)))) gap.1
                (true_both (is_qname a.name) (is_white a.before && (is_white a.after && (is_quote a.quote && are_pieces a.quote a.pieces))) one.is_name
                (true_both (is_white a.before) (is_white a.after && (is_quote a.quote && are_pieces a.quote a.pieces)) one.white_before
                (true_both (is_white a.after) (is_quote a.quote && are_pieces a.quote a.pieces) one.white_behind
                (true_both (is_quote a.quote) (are_pieces a.quote a.pieces) one.is_quote one.are))))) more.are;
            few = let f = more.few in omega (arith, f);
            white = more.white;
            says = more.says ∙ append_assoc ss (s.0.0 ∷ []) (settings_of more.attributes) ∙ ap (λ x. ss ++ x ∷ settings_of more.attributes) one.says;
            spelt = gap.2 ∙ ap (λ t. gap.0 ++ t) (one.spelt ∙ ap (λ t. name_text one.name ++ (one.before ++ (61 ∷ (one.behind
                ++ (one.quote ∷ (pieces_text one.pieces ++ one.quote ∷ t)))))) more.spelt)
                ∙ regroup a (attributes_text more.attributes) (more.space ++ (end_text b ++ rest));
          }
    ]

-- what comes after a name in a tag

space_no_colon : (c : ℕ) → is_white_space c ≡ true → nat_eq c 58 ≡ false
unfolding is_white_space
space_no_colon c h = grind (arith, nat_tests)

space_no_qname : (c : ℕ) → is_white_space c ≡ true → is_qname_char c ≡ false
space_no_qname c h = both_false (is_name_char c) (nat_eq c 58) (space_no_name c h) (space_no_colon c h)
  where
    both_false : (a b : Bool) → a ≡ false → b ≡ false → a || b ≡ false
    both_false a b e f = rw (e) f

white_no_qname : (s rest : List ℕ) → is_white s ≡ true → begins is_qname_char rest ≡ false → begins is_qname_char (s ++ rest) ≡ false
white_no_qname [] rest w r = r
white_no_qname (c ∷ s) rest w r = space_no_qname c (both_true (is_white_space c) (is_white s) w).0

equals_no_qname : (rest : List ℕ) → begins is_qname_char (61 ∷ rest) ≡ false
unfolding is_name_char is_name_start
equals_no_qname rest = refl

end_no_qname : (b : Bool) (rest : List ℕ) → begins is_qname_char (end_text b ++ rest) ≡ false
unfolding is_name_char is_name_start
end_no_qname false rest = refl
end_no_qname true rest = refl

end_no_space : (b : Bool) (rest : List ℕ) → begins is_white_space (end_text b ++ rest) ≡ false
unfolding is_white_space
end_no_space false rest = refl
end_no_space true rest = refl

-- a quote isn't white space
pub quote_no_space : (q : ℕ) (rest : List ℕ) → is_quote q ≡ true → begins is_white_space (q ∷ rest) ≡ false
unfolding is_white_space
quote_no_space q rest h = grind (arith, nat_tests)

-- what an attribute is after its white space
abbrev attribute_tail : Attribute → List ℕ → List ℕ
attribute_tail a rest =
    name_text a.name ++ (a.before ++ (61 ∷ (a.after ++ (a.quote ∷ (pieces_text a.pieces ++ a.quote ∷ rest)))))

-- what an attribute that follows the rules keeps, each rule by itself
record Lawful (a : Attribute) : Type 0 where
  gap : is_gap a.gap ≡ true
  name : is_qname a.name ≡ true
  before : is_white a.before ≡ true
  behind : is_white a.after ≡ true
  quote : is_quote a.quote ≡ true
  pieces : are_pieces a.quote a.pieces ≡ true

lawful : (a : Attribute) → is_spaced_attribute a ≡ true → Lawful a
lawful a h =
    let x = both_true (is_gap a.gap) (is_qname a.name && (is_white a.before && (is_white a.after && (is_quote a.quote && are_pieces a.quote a.pieces)))) h in
    let y = both_true (is_qname a.name) (is_white a.before && (is_white a.after && (is_quote a.quote && are_pieces a.quote a.pieces))) x.1 in
    let z = both_true (is_white a.before) (is_white a.after && (is_quote a.quote && are_pieces a.quote a.pieces)) y.1 in
    let u = both_true (is_white a.after) (is_quote a.quote && are_pieces a.quote a.pieces) z.1 in
    let v = both_true (is_quote a.quote) (are_pieces a.quote a.pieces) u.1 in
    record { gap = x.0; name = y.0; before = z.0; behind = u.0; quote = v.0; pieces = v.1 }

setting_complete : (a : Attribute) (rest : List ℕ) → Lawful a → setting_at (attribute_tail a rest) ≡ Some (setting_of a, rest)
unfolding setting_at
setting_complete a rest l =
    let behind_name = a.before ++ (61 ∷ (a.after ++ (a.quote ∷ (pieces_text a.pieces ++ a.quote ∷ rest)))) in
    let name = qname_complete a.name behind_name l.name
    (white_no_qname a.before (61 ∷ (a.after ++ (a.quote ∷ (pieces_text a.pieces ++ a.quote ∷ rest)))) l.before
    (equals_no_qname (a.after ++ (a.quote ∷ (pieces_text a.pieces ++ a.quote ∷ rest))))) in
    let eq = equals_complete a.before a.after (a.quote ∷ (pieces_text a.pieces ++ a.quote ∷ rest)) l.before l.behind
    (quote_no_space a.quote (pieces_text a.pieces ++ a.quote ∷ rest) l.quote) in
    let quote = quote_complete a.quote (pieces_text a.pieces ++ a.quote ∷ rest) l.quote in
    let value = value_complete (length (pieces_text a.pieces ++ a.quote ∷ rest)) a.quote [] a.pieces rest l.quote l.pieces (omega arith) in
    rw name (rw eq (rw quote (rw value refl)))

-- a name begins neither with `>` nor with `/`, nor with white space
start_plain : (c : ℕ) → is_name_start c ≡ true → (nat_eq c 62 ≡ false) × (nat_eq c 47 ≡ false) × (is_white_space c ≡ false)
unfolding is_name_start is_white_space
start_plain c h = (grind (arith, nat_tests), grind (arith, nat_tests), grind (arith, nat_tests))

nc_begins : (ns : List ℕ) → is_nc_name ns ≡ true → (c : ℕ) × (cs : List ℕ) × (ns ≡ c ∷ cs) × (is_name_start c ≡ true)
nc_begins [] h = absurd (cc h)
nc_begins (c ∷ cs) h = (c, cs, refl, (both_true (is_name_start c) (list_all is_name_char cs) h).0)

-- a qualified name begins as a name does
pub prefixed_begins : (p l : List ℕ) → is_prefix p && is_nc_name l ≡ true → (c : ℕ) × (cs : List ℕ) × (prefixed p l ≡ c ∷ cs) × (is_name_start c ≡ true)
prefixed_begins [] l h = nc_begins l h
prefixed_begins (c ∷ p) l h =
    let b = both_true (is_nc_name (c ∷ p)) (is_nc_name l) h in
    (c, p ++ 58 ∷ l, refl, (both_true (is_name_start c) (list_all is_name_char p) b.0).0)

plain_no_end : (c : ℕ) (cs : List ℕ) → is_name_start c ≡ true → tag_end_at (c ∷ cs) ≡ None
unfolding tag_end_at
plain_no_end c cs h = let p = start_plain c h in let x = p.0 in let y = p.1 in rw (x, y) refl

name_no_end : (n : QName) (rest : List ℕ) → is_qname n ≡ true → tag_end_at (name_text n ++ rest) ≡ None
name_no_end n rest h =
    let b = prefixed_begins n.prefix n.local h in
    ap (λ t. tag_end_at (t ++ rest)) b.2 ∙ plain_no_end b.0 (b.1 ++ rest) b.3

name_no_space : (n : QName) (rest : List ℕ) → is_qname n ≡ true → begins is_white_space (name_text n ++ rest) ≡ false
name_no_space n rest h =
    let b = prefixed_begins n.prefix n.local h in
    ap (λ t. begins is_white_space (t ++ rest)) b.2 ∙ (start_plain b.0 b.3).2

gap_white : (s : List ℕ) → is_gap s ≡ true → is_white s ≡ true
gap_white [] h = absurd (cc h)
gap_white (c ∷ s) h = h

settings_finish : (n : ℕ) (ss : List Setting) (space : List ℕ) (b : Bool) (rest : List ℕ) → is_white space ≡ true
    → settings_at n ss (space ++ (end_text b ++ rest)) ≡ Some ((ss ++ [], b), rest)
unfolding settings_at
settings_finish zero ss space b rest w =
    let skip = skip-white space (end_text b ++ rest) w (end_no_space b rest) in
    let end = end_complete b rest in
    rw (skip, end) (ap (λ t. Some ((t, b), rest)) (sym (append-nil ss)))
settings_finish (suc n) ss space b rest w =
    let skip = skip-white space (end_text b ++ rest) w (end_no_space b rest) in
    let end = end_complete b rest in
    rw (skip, end) (ap (λ t. Some ((t, b), rest)) (sym (append-nil ss)))

settings_next : (n : ℕ) (ss : List Setting) (a : Attribute) (rest : List ℕ) → Lawful a
    → settings_at (suc n) ss (a.gap ++ attribute_tail a rest) ≡ settings_at n (ss ++ setting_of a ∷ []) rest
unfolding settings_at
settings_next n ss a rest l =
    let behind_name = a.before ++ (61 ∷ (a.after ++ (a.quote ∷ (pieces_text a.pieces ++ a.quote ∷ rest)))) in
    let plain_space = name_no_space a.name behind_name l.name in
    let skip = skip-white a.gap (attribute_tail a rest) (gap_white a.gap l.gap) plain_space in
    let none = name_no_end a.name behind_name l.name in
    let gap = gap_complete a.gap (attribute_tail a rest) l.gap plain_space in
    let one = setting_complete a rest l in
    rw (skip, none, gap) (rw one refl)

-- attributes that follow the rules are read to the tag's end, if no more than are allowed
pub settings_complete : (n : ℕ) (ss : List Setting) (xs : List Attribute) (space : List ℕ) (b : Bool) (rest : List ℕ) → are_attributes xs ≡ true
    → length xs ≤ n → is_white space ≡ true
    → settings_at n ss (attributes_text xs ++ (space ++ (end_text b ++ rest))) ≡ Some ((ss ++ settings_of xs, b), rest)
settings_complete n ss [] space b rest are few w = settings_finish n ss space b rest w
settings_complete zero ss (a ∷ xs) space b rest are few w = absurd (omega (arith, few))
settings_complete (suc n) ss (a ∷ xs) space b rest are few w =
    let h = both_true (is_spaced_attribute a) (are_attributes xs) are in
    let left = attributes_text xs ++ (space ++ (end_text b ++ rest)) in
    let more = settings_complete n (ss ++ setting_of a ∷ []) xs space b rest h.1 (omega (arith, few)) w in
    ap (settings_at (suc n) ss) (sym (regroup a (attributes_text xs) (space ++ (end_text b ++ rest))))
    ∙ settings_next n ss a left (lawful a h.0) ∙ more
    ∙ ap (λ t. Some ((t, b), rest)) (append_assoc ss (setting_of a ∷ []) (settings_of xs))

-- a tag that was read after its `<`
pub record ReadTag (cs : List ℕ) (o : Opening) (b : Bool) (rest : List ℕ) : Type 0 where
  pub tag : Tag
  pub is_tag : is_tag tag ≡ true
  pub few : length tag.attributes ≤ most_attributes
  pub says : o ≡ opening_of tag
  pub spelt : 60 ∷ cs ≡ tag_text tag ++ (end_text b ++ rest)

opening_parts : (p l p' l' : List ℕ) (s s' : List Setting) → p ≡ p' → l ≡ l' → s ≡ s'
    → ◌≡◌ {A = Opening} (record { prefix = p; local = l; settings = s }) (record { prefix = p'; local = l'; settings = s' })
opening_parts p l p' l' s s' a b c = λ i. record { prefix = a i; local = b i; settings = c i }

-- what is read as a tag is spelt as one
pub tag_sound : (cs : List ℕ) (o : Opening) (b : Bool) (rest : List ℕ) → tag_at cs ≡ Some ((o, b), rest) → ReadTag cs o b rest
unfolding tag_at
tag_sound cs o b rest e =
    let a = bind_some (qname_at cs) _ ((o, b), rest) e in
    let s = bind_some (settings_at most_attributes [] a.0.1) _ ((o, b), rest) a.2 in
    let is = same_some s.2 in
    let name = qname_sound cs a.0.0.0 a.0.0.1 a.0.1 a.1 in
    let ss = settings_sound most_attributes [] a.0.1 s.0.0.0 s.0.0.1 s.0.1 s.1 in
    record {
      tag = record { name = name.name; attributes = ss.attributes; space = ss.space };
      is_tag = true_both (is_qname name.name) (are_attributes ss.attributes && is_white ss.space) name.is_name
          (true_both (are_attributes ss.attributes) (is_white ss.space) ss.are ss.white);
      few = ss.few;
      says = sym (ap (λ p. p.0.0) is) ∙ opening_parts _ _ _ _ _ _ name.says_prefix name.says_local ss.says;
      spelt = ap (λ t. 60 ∷ t) (name.spelt ∙ ap (λ t. name_text name.name ++ t) (ss.spelt
          ∙ ap (λ p. attributes_text ss.attributes ++ (ss.space ++ (end_text p.0.1 ++ p.1))) is)
          ∙ regroup_tag (name_text name.name) (attributes_text ss.attributes) ss.space (end_text b ++ rest));
    }
  where
    regroup_tag : (n x s y : List ℕ) → n ++ (x ++ (s ++ y)) ≡ (n ++ (x ++ s)) ++ y
    regroup_tag n x s y = sym (simp append_assoc)

attributes_no_qname : (xs : List Attribute) (space : List ℕ) (b : Bool) (rest : List ℕ) → are_attributes xs ≡ true → is_white space ≡ true
    → begins is_qname_char (attributes_text xs ++ (space ++ (end_text b ++ rest))) ≡ false
attributes_no_qname [] space b rest are w = white_no_qname space (end_text b ++ rest) w (end_no_qname b rest)
attributes_no_qname (a ∷ xs) space b rest are w =
    let h = both_true (is_spaced_attribute a) (are_attributes xs) are in
    let l = lawful a h.0 in
    ap (begins is_qname_char) (sym (regroup a (attributes_text xs) (space ++ (end_text b ++ rest))))
    ∙ gap_no_qname a.gap (attribute_tail a (attributes_text xs ++ (space ++ (end_text b ++ rest)))) l.gap
  where
    gap_no_qname : (s rest : List ℕ) → is_gap s ≡ true → begins is_qname_char (s ++ rest) ≡ false
    gap_no_qname [] rest g = absurd (cc g)
    gap_no_qname (c ∷ s) rest g = space_no_qname c (both_true (is_white_space c) (is_white s) g).0

-- a tag after its `<`
pub tag_complete : (t : Tag) (b : Bool) (rest : List ℕ) → is_tag t ≡ true → length t.attributes ≤ most_attributes
    → tag_at (name_text t.name ++ (attributes_text t.attributes ++ (t.space ++ (end_text b ++ rest)))) ≡ Some ((opening_of t, b), rest)
unfolding tag_at
tag_complete t b rest h few =
    let x = both_true (is_qname t.name) (are_attributes t.attributes && is_white t.space) h in
    let y = both_true (are_attributes t.attributes) (is_white t.space) x.1 in
    let behind = attributes_text t.attributes ++ (t.space ++ (end_text b ++ rest)) in
    let name = qname_complete t.name behind x.0 (attributes_no_qname t.attributes t.space b rest y.0 y.1) in
    let settings = settings_complete most_attributes [] t.attributes t.space b rest y.0 few y.1 in
    rw name (rw settings refl)
