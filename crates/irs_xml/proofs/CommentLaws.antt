-- What is read as a comment, an instruction or a CDATA section is spelt as one, and what is spelt as one is read.
use Rattle.std.proofs.Common.{◌≡◌, inl, inr, ℕ, Bool, true, false, cond, not, ◌&&◌, List, [], ◌∷◌, ◌++◌, Option, Some, None, nat_eq, refl, sym, ap, ◌∙◌, arith, append_assoc}
use Rattle.std.proofs.lemmas.Bool.{cases_Bool}
use Rattle.std.proofs.lemmas.Bool.Decides.{nat_tests}
use Rattle.std.proofs.lemmas.List.{append-nil}
use Rattle.std.specs.Char.{encode_utf8}
use Rattle.std.specs.Prelude.{codes, is_none}
use Rattle.std.specs.Str.{encode_utf8_all}
use Rattle.irs_xml.specs.Characters.{is_white_space, is_white, is_gap, rest_after, lacks, is_comment_text, comment_text}
use Rattle.irs_xml.specs.Characters.{is_cdata, cdata_text, Instruction, is_apart, is_xml, is_instruction}
use Rattle.irs_xml.specs.Characters.{instruction_text, is_name_char, is_name_start, is_nc_name}
use Rattle.irs_xml.specs.Private.Reading.{◌>>=◌, choose, name_at, gap_at, skip_space, past, comment_at, instruction_at}
use Rattle.irs_xml.specs.Private.Reading.{data_at}
use Rattle.irs_xml.proofs.Steps.{same_some, bind_some, choose_some, chosen, both_true, true_both, after_sound, after_complete, past_found, begins, gap_sound}
use Rattle.irs_xml.proofs.NameLaws.{name_sound, name_complete}

-- no characters are left: nothing was read
abbrev nothing : Option (List ℕ)
nothing = None

-- the mark begins nowhere in the text, whatever follows it being this
abbrev pub NoneBefore : List ℕ → List ℕ → List ℕ → Type 0
NoneBefore mark [] tail = Unit {0}
NoneBefore mark (c ∷ cs) tail = (rest_after mark ((c ∷ cs) ++ tail) ≡ None) × NoneBefore mark cs tail

-- the first place of a mark
pub record First (mark cs rest : List ℕ) : Type 0 where
  pub text : List ℕ
  pub spelt : cs ≡ text ++ (mark ++ rest)
  pub first : NoneBefore mark text (mark ++ rest)

-- what reading up to a mark passes over ends with the first mark
pub past_sound : (mark cs rest : List ℕ) → past mark cs ≡ Some rest → First mark cs rest
past_sound mark [] rest e = record { text = []; spelt = after_sound mark [] rest e; first = tt }
past_sound mark (c ∷ cs) rest e =
    elim (choose_some (rest_after mark (c ∷ cs)) (λ rest. Some rest) (past mark cs) rest e) [
      | inl h ↦ record {
        text = [];
        spelt = after_sound mark (c ∷ cs) rest (h.1 ∙ ap (λ t. Some t) (same_some h.2));
        first = tt;
      }
      | inr h ↦
          let f = past_sound mark cs rest h.1 in record {
            text = c ∷ f.text;
            spelt = ap (λ t. c ∷ t) f.spelt;
            first = (ap (λ t. rest_after mark (c ∷ t)) (sym f.spelt) ∙ h.0, f.first);
          }
    ]

-- a mark that begins nowhere earlier is found
pub past_complete : (mark text rest : List ℕ) → NoneBefore mark text (mark ++ rest) → past mark (text ++ (mark ++ rest)) ≡ Some rest
past_complete mark [] rest n = past_found mark (mark ++ rest) rest (after_complete mark rest)
past_complete mark (c ∷ text) rest n = let e = n.0 in rw e (past_complete mark text rest n.1)

none_is : {A : Type 0} (o : Option A) → is_none o ≡ true → o ≡ None
none_is None e = refl
none_is (Some x) e = absurd (cc e)

is_none_of : {A : Type 0} (o : Option A) → o ≡ None → is_none o ≡ true
is_none_of o e = rw e refl

-- a mark of two characters looks at two
two : (a b c d : ℕ) (xs ys : List ℕ) → rest_after (a ∷ b ∷ []) (c ∷ d ∷ xs) ≡ None → rest_after (a ∷ b ∷ []) (c ∷ d ∷ ys) ≡ None
two a b c d xs ys e = by_tests (nat_eq c a) (nat_eq d b) e
  where
    by_tests : (s t : Bool) → cond s (cond t (Some xs) None) None ≡ None → cond s (cond t (Some ys) None) None ≡ None
    by_tests true true e = absurd (cc e)
    by_tests true false e = refl
    by_tests false t e = refl

three : (a b k c d e : ℕ) (xs ys : List ℕ) → rest_after (a ∷ b ∷ k ∷ []) (c ∷ d ∷ e ∷ xs) ≡ None → rest_after (a ∷ b ∷ k ∷ []) (c ∷ d ∷ e ∷ ys) ≡ None
three a b k c d e xs ys h = by_tests (nat_eq c a) (nat_eq d b) (nat_eq e k) h
  where
    by_tests : (s t u : Bool) → cond s (cond t (cond u (Some xs) None) None) None ≡ None → cond s (cond t (cond u (Some ys) None) None) None ≡ None
    by_tests true true true e = absurd (cc e)
    by_tests true true false e = refl
    by_tests true false u e = refl
    by_tests false t u e = refl

-- comments

comment_first : (text rest : List ℕ) → is_comment_text text ≡ true → NoneBefore (codes "--") text (codes "--" ++ rest)
comment_first [] rest h = tt
comment_first (c ∷ []) rest h =
    let b = both_true (is_none (rest_after (codes "--") (c ∷ codes "-"))) (lacks (codes "--") (codes "-")) h in
    (two 45 45 c 45 [] (45 ∷ rest) (none_is _ b.0), tt)
comment_first (c ∷ d ∷ ds) rest h =
    let b = both_true (is_none (rest_after (codes "--") (c ∷ d ∷ (ds ++ codes "-")))) (lacks (codes "--") (d ∷ (ds ++ codes "-"))) h in
    (two 45 45 c d (ds ++ codes "-") (ds ++ (codes "--" ++ rest)) (none_is _ b.0), comment_first (d ∷ ds) rest b.1)

first_comment : (text rest : List ℕ) → NoneBefore (codes "--") text (codes "--" ++ rest) → is_comment_text text ≡ true
first_comment [] rest n = refl
first_comment (c ∷ []) rest n =
    true_both (is_none (rest_after (codes "--") (c ∷ codes "-"))) (lacks (codes "--") (codes "-"))
    (is_none_of (rest_after (codes "--") (c ∷ codes "-")) (two 45 45 c 45 (45 ∷ rest) [] n.0)) refl
first_comment (c ∷ d ∷ ds) rest n =
    true_both (is_none (rest_after (codes "--") (c ∷ d ∷ (ds ++ codes "-")))) (lacks (codes "--") (d ∷ (ds ++ codes "-")))
    (is_none_of (rest_after (codes "--") (c ∷ d ∷ (ds ++ codes "-"))) (two 45 45 c d (ds ++ (codes "--" ++ rest)) (ds ++ codes "-") n.0))
    (first_comment (d ∷ ds) rest n.1)

-- a comment that was read after its `<!--`
pub record ReadComment (cs rest : List ℕ) : Type 0 where
  pub text : List ℕ
  pub is_comment : is_comment_text text ≡ true
  pub spelt : codes "<!--" ++ cs ≡ comment_text text ++ rest

-- what is read as a comment is spelt as one
pub comment_sound : (cs rest : List ℕ) → comment_at cs ≡ Some rest → ReadComment cs rest
unfolding comment_at
comment_sound cs rest e =
    let b = bind_some (past (codes "--") cs) (rest_after (codes ">")) rest e in
    let f = past_sound (codes "--") cs b.0 b.1 in record {
      text = f.text;
      is_comment = first_comment f.text b.0 f.first;
      spelt = ap (λ t. codes "<!--" ++ t) (f.spelt ∙ ap (λ t. f.text ++ (codes "--" ++ t)) (after_sound (codes ">") b.0 rest b.2)
          ∙ sym (append_assoc f.text (codes "-->") rest));
    }

-- every comment is read
pub comment_complete : (text rest : List ℕ) → is_comment_text text ≡ true → comment_at (text ++ (codes "-->" ++ rest)) ≡ Some rest
unfolding comment_at
comment_complete text rest h =
    let read = past_complete (codes "--") text (62 ∷ rest) (comment_first text (62 ∷ rest) h) in
    rw read refl

-- CDATA sections

data_first : (text rest : List ℕ) → is_cdata text ≡ true → NoneBefore (codes "]]>") text (codes "]]>" ++ rest)
data_first [] rest h = tt
data_first (c ∷ []) rest h = (one (nat_eq c 93), tt)
  where
    one : (s : Bool) → cond s nothing None ≡ None
    one true = refl
    one false = refl
data_first (c ∷ d ∷ []) rest h = (first_two (nat_eq c 93) (nat_eq d 93), (one (nat_eq d 93), tt))
  where
    first_two : (s t : Bool) → cond s (cond t nothing None) None ≡ None
    first_two true true = refl
    first_two true false = refl
    first_two false t = refl

    one : (s : Bool) → cond s nothing None ≡ None
    one true = refl
    one false = refl
data_first (c ∷ d ∷ e ∷ es) rest h =
    let b = both_true (is_none (rest_after (codes "]]>") (c ∷ d ∷ e ∷ es))) (lacks (codes "]]>") (d ∷ e ∷ es)) h in
    (three 93 93 62 c d e es (es ++ (codes "]]>" ++ rest)) (none_is _ b.0), data_first (d ∷ e ∷ es) rest b.1)

one_short : (c : ℕ) → lacks (codes "]]>") (c ∷ []) ≡ true
one_short c = by_test (nat_eq c 93)
  where
    by_test : (s : Bool) → is_none (cond s nothing None) && true ≡ true
    by_test true = refl
    by_test false = refl

two_short : (c d : ℕ) → lacks (codes "]]>") (c ∷ d ∷ []) ≡ true
two_short c d = true_both (is_none (rest_after (codes "]]>") (c ∷ d ∷ []))) (lacks (codes "]]>") (d ∷ [])) (by_tests (nat_eq c 93) (nat_eq d 93)) (one_short d)
  where
    by_tests : (s t : Bool) → is_none (cond s (cond t nothing None) None) ≡ true
    by_tests true true = refl
    by_tests true false = refl
    by_tests false t = refl

first_data : (text rest : List ℕ) → NoneBefore (codes "]]>") text (codes "]]>" ++ rest) → is_cdata text ≡ true
first_data [] rest n = refl
first_data (c ∷ []) rest n = one_short c
first_data (c ∷ d ∷ []) rest n = two_short c d
first_data (c ∷ d ∷ e ∷ es) rest n =
    true_both (is_none (rest_after (codes "]]>") (c ∷ d ∷ e ∷ es))) (lacks (codes "]]>") (d ∷ e ∷ es))
    (is_none_of (rest_after (codes "]]>") (c ∷ d ∷ e ∷ es)) (three 93 93 62 c d e (es ++ (codes "]]>" ++ rest)) es n.0))
    (first_data (d ∷ e ∷ es) rest n.1)

-- the data up to the first `]]>`, appended to a text
record ReadFirst (text cs out rest : List ℕ) : Type 0 where
  data_text : List ℕ
  spelt : cs ≡ data_text ++ (codes "]]>" ++ rest)
  first : NoneBefore (codes "]]>") data_text (codes "]]>" ++ rest)
  says : out ≡ text ++ encode_utf8_all data_text

data_to : (text cs out rest : List ℕ) → data_at text cs ≡ Some (out, rest) → ReadFirst text cs out rest
data_to text [] out rest e = absurd (cc e)
data_to text (c ∷ cs) out rest e =
    elim (choose_some (rest_after (codes "]]>") (c ∷ cs)) (λ rest. Some (text, rest)) (data_at (text ++ encode_utf8 c) cs) (out, rest) e) [
      | inl h ↦
          let is = same_some h.2 in record {
            data_text = [];
            spelt = after_sound (codes "]]>") (c ∷ cs) h.0 h.1 ∙ ap (λ p. codes "]]>" ++ p.1) is;
            first = tt;
            says = sym (ap (λ p. p.0) is) ∙ sym (append-nil text);
          }
      | inr h ↦
          let f = data_to (text ++ encode_utf8 c) cs out rest h.1 in record {
            data_text = c ∷ f.data_text;
            spelt = ap (λ t. c ∷ t) f.spelt;
            first = (ap (λ t. rest_after (codes "]]>") (c ∷ t)) (sym f.spelt) ∙ h.0, f.first);
            says = f.says ∙ append_assoc text (encode_utf8 c) (encode_utf8_all f.data_text);
          }
    ]

-- the data of a CDATA section that was read after its `<![CDATA[`
pub record ReadData (text cs out rest : List ℕ) : Type 0 where
  pub data_text : List ℕ
  pub is_cdata : is_cdata data_text ≡ true
  pub says : out ≡ text ++ encode_utf8_all data_text
  pub spelt : codes "<![CDATA[" ++ cs ≡ cdata_text data_text ++ rest

-- what is read as a CDATA section is spelt as one
pub data_sound : (text cs out rest : List ℕ) → data_at text cs ≡ Some (out, rest) → ReadData text cs out rest
data_sound text cs out rest e =
    let f = data_to text cs out rest e in record {
      data_text = f.data_text;
      is_cdata = first_data f.data_text rest f.first;
      says = f.says;
      spelt = ap (λ t. codes "<![CDATA[" ++ t) (f.spelt ∙ sym (append_assoc f.data_text (codes "]]>") rest));
    }

data_goes : (text ds rest : List ℕ) → NoneBefore (codes "]]>") ds (codes "]]>" ++ rest)
    → data_at text (ds ++ (codes "]]>" ++ rest)) ≡ Some (text ++ encode_utf8_all ds, rest)
data_goes text [] rest n = ap (λ t. Some (t, rest)) (sym (append-nil text))
data_goes text (d ∷ ds) rest n =
    let e = n.0 in rw e (data_goes (text ++ encode_utf8 d) ds rest n.1
    ∙ ap (λ t. Some (t, rest)) (append_assoc text (encode_utf8 d) (encode_utf8_all ds)))

-- every CDATA section is read, and its text is appended
pub data_complete : (text ds rest : List ℕ) → is_cdata ds ≡ true
    → data_at text (ds ++ (codes "]]>" ++ rest)) ≡ Some (text ++ encode_utf8_all ds, rest)
data_complete text ds rest h = data_goes text ds rest (data_first ds rest h)

-- instructions

instruction_first : (body rest : List ℕ) → lacks (codes "?>") body ≡ true → NoneBefore (codes "?>") body (codes "?>" ++ rest)
instruction_first [] rest h = tt
instruction_first (c ∷ []) rest h = (one (nat_eq c 63), tt)
  where
    one : (s : Bool) → cond s nothing None ≡ None
    one true = refl
    one false = refl
instruction_first (c ∷ d ∷ ds) rest h =
    let b = both_true (is_none (rest_after (codes "?>") (c ∷ d ∷ ds))) (lacks (codes "?>") (d ∷ ds)) h in
    (two 63 62 c d ds (ds ++ (codes "?>" ++ rest)) (none_is _ b.0), instruction_first (d ∷ ds) rest b.1)

first_instruction : (body rest : List ℕ) → NoneBefore (codes "?>") body (codes "?>" ++ rest) → lacks (codes "?>") body ≡ true
first_instruction [] rest n = refl
first_instruction (c ∷ []) rest n = by_test (nat_eq c 63)
  where
    by_test : (s : Bool) → is_none (cond s nothing None) && true ≡ true
    by_test true = refl
    by_test false = refl
first_instruction (c ∷ d ∷ ds) rest n =
    true_both (is_none (rest_after (codes "?>") (c ∷ d ∷ ds))) (lacks (codes "?>") (d ∷ ds))
    (is_none_of (rest_after (codes "?>") (c ∷ d ∷ ds)) (two 63 62 c d (ds ++ (codes "?>" ++ rest)) ds n.0))
    (first_instruction (d ∷ ds) rest n.1)

space_no_mark : (c : ℕ) → is_white_space c ≡ true → nat_eq c 63 ≡ false
unfolding is_white_space
space_no_mark c h = grind (arith, nat_tests)

-- white space in front holds no mark
white_first : (s text rest : List ℕ) → is_white s ≡ true → NoneBefore (codes "?>") text (codes "?>" ++ rest)
    → NoneBefore (codes "?>") (s ++ text) (codes "?>" ++ rest)
white_first [] text rest w n = n
white_first (c ∷ s) text rest w n =
    let b = both_true (is_white_space c) (is_white s) w in
    let e = space_no_mark c b.0 in
    (rw e refl, white_first s text rest b.1 n)

gap_white : (s : List ℕ) → is_gap s ≡ true → is_white s ≡ true
gap_white [] h = refl
gap_white (c ∷ s) h = h

gap_apart : (s text : List ℕ) → is_gap s ≡ true → is_apart (s ++ text) ≡ true
gap_apart [] text h = absurd (cc h)
gap_apart (c ∷ s) text h = (both_true (is_white_space c) (is_white s) h).0

-- a processing instruction that was read after its `<?`
pub record ReadInstruction (cs rest : List ℕ) : Type 0 where
  pub instruction : Instruction
  pub is_instruction : is_instruction instruction ≡ true
  pub spelt : codes "<?" ++ cs ≡ instruction_text instruction ++ rest

not_false : (b : Bool) → b ≡ false → not b ≡ true
not_false b e = rw e refl

not_true : (b : Bool) → not b ≡ true → b ≡ false
not_true true e = absurd (cc e)
not_true false e = refl

spelt_as : (target body cs mid rest : List ℕ) → cs ≡ target ++ mid → mid ≡ body ++ (codes "?>" ++ rest)
    → codes "<?" ++ cs ≡ instruction_text (record { target = target; body = body }) ++ rest
spelt_as target body cs mid rest a b =
    ap (λ t. codes "<?" ++ t) (a ∙ ap (λ t. target ++ t) (b ∙ sym (append_assoc body (codes "?>") rest))
    ∙ sym (append_assoc target (body ++ codes "?>") rest))

-- what is read as a processing instruction is spelt as one
pub instruction_sound : (cs rest : List ℕ) → instruction_at cs ≡ Some rest → ReadInstruction cs rest
unfolding instruction_at
instruction_sound cs rest e =
    let b = bind_some (name_at cs) (λ target. cond (is_xml target.0) None
    (choose (rest_after (codes "?>") target.1) (λ rest. Some rest) (gap_at target.1 >>= past (codes "?>")))) rest e in
    let n = name_sound cs b.0.0 b.0.1 b.1 in
    elim (chosen (is_xml b.0.0) None (choose (rest_after (codes "?>") b.0.1) (λ rest. Some rest) (gap_at b.0.1 >>= past (codes "?>"))) (Some rest) b.2) [
      | inl h ↦ absurd (let k = h.1 in cc k)
      | inr h ↦
          let other : not (is_xml (encode_utf8_all n.name)) ≡ true = not_false (is_xml (encode_utf8_all n.name)) (ap is_xml (sym n.says) ∙ h.0) in
          let named = true_both (is_nc_name n.name) (not (is_xml (encode_utf8_all n.name))) n.is_name other in
          elim (choose_some (rest_after (codes "?>") b.0.1) (λ rest. Some rest) (gap_at b.0.1 >>= past (codes "?>")) rest h.1) [
            | inl k ↦ record {
              instruction = record { target = n.name; body = [] };
              is_instruction = true_both (is_nc_name n.name && not (is_xml (encode_utf8_all n.name))) true named refl;
              spelt = spelt_as n.name [] cs b.0.1 rest n.spelt (after_sound (codes "?>") b.0.1 k.0 k.1 ∙ ap (λ t. codes "?>" ++ t) (same_some k.2));
            }
            | inr k ↦
                let g = bind_some (gap_at b.0.1) (past (codes "?>")) rest k.1 in
                let s = gap_sound b.0.1 g.0 g.1 in
                let f = past_sound (codes "?>") g.0 rest g.2 in
                let body = s.0 ++ f.text in
                let lack : lacks (codes "?>") body ≡ true = first_instruction body rest (white_first s.0 f.text rest (gap_white s.0 s.1) f.first) in
                record {
                  instruction = record { target = n.name; body = body };
                  is_instruction = true_both (is_nc_name n.name && not (is_xml (encode_utf8_all n.name))) (is_apart body && lacks (codes "?>") body) named
                      (true_both (is_apart body) (lacks (codes "?>") body) (gap_apart s.0 f.text s.1) lack);
                  spelt = spelt_as n.name body cs b.0.1 rest n.spelt
                      (s.2 ∙ ap (λ t. s.0 ++ t) f.spelt ∙ sym (append_assoc s.0 f.text (codes "?>" ++ rest)));
                }
          ]
    ]

mark_no_name : (rest : List ℕ) → begins is_name_char (63 ∷ rest) ≡ false
unfolding is_name_char is_name_start
mark_no_name rest = refl

-- white space isn't a character of a name
pub space_no_name : (c : ℕ) → is_white_space c ≡ true → is_name_char c ≡ false
unfolding is_white_space is_name_char is_name_start
space_no_name c h = grind (arith, nat_tests)

mark_no_space : is_white_space 63 ≡ false
unfolding is_white_space
mark_no_space = refl

past_white : (cs rest : List ℕ) → NoneBefore (codes "?>") cs (codes "?>" ++ rest)
    → past (codes "?>") (skip_space (cs ++ (codes "?>" ++ rest))) ≡ Some rest
past_white [] rest n = let e = mark_no_space in rw e (past_complete (codes "?>") [] rest tt)
past_white (c ∷ cs) rest n = elim (cases_Bool (is_white_space c)) [
  | inl h ↦ rw h (past_white cs rest n.1)
  | inr h ↦ rw h (past_complete (codes "?>") (c ∷ cs) rest n)
]

body_complete : (body rest : List ℕ) → is_apart body ≡ true → lacks (codes "?>") body ≡ true
    → choose (rest_after (codes "?>") (body ++ (codes "?>" ++ rest))) (λ rest. Some rest) (gap_at (body ++ (codes "?>" ++ rest)) >>= past (codes "?>")) ≡ Some rest
body_complete [] rest a l = refl
body_complete (c ∷ body) rest a l =
    let n = instruction_first (c ∷ body) rest l in
    let none = n.0 in
    rw (none, a) (past_white body rest n.1)

body_no_name : (body rest : List ℕ) → is_apart body ≡ true → begins is_name_char (body ++ (codes "?>" ++ rest)) ≡ false
body_no_name [] rest a = mark_no_name (62 ∷ rest)
body_no_name (c ∷ body) rest a = space_no_name c a

-- every processing instruction is read
pub instruction_complete : (i : Instruction) (rest : List ℕ) → is_instruction i ≡ true
    → instruction_at (i.target ++ (i.body ++ (codes "?>" ++ rest))) ≡ Some rest
unfolding instruction_at
instruction_complete i rest h =
    let a = both_true (is_nc_name i.target && not (is_xml (encode_utf8_all i.target))) (is_apart i.body && lacks (codes "?>") i.body) h in
    let n = both_true (is_nc_name i.target) (not (is_xml (encode_utf8_all i.target))) a.0 in
    let b = both_true (is_apart i.body) (lacks (codes "?>") i.body) a.1 in
    let read = name_complete i.target (i.body ++ (codes "?>" ++ rest)) n.0 (body_no_name i.body rest b.0) in
    let other = not_true (is_xml (encode_utf8_all i.target)) n.1 in
    rw (read) (rw (other) (body_complete i.body rest b.0 b.1))
