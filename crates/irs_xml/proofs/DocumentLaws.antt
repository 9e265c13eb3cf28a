-- What is read as a document is spelt as one and means what was read, and what is spelt as one is read.
use Rattle.std.proofs.Common.{◌≡◌, inl, inr, ℕ, Bool, true, false, ◌&&◌, List, [], ◌∷◌, ◌++◌, map, Option, Some, None, nat_eq, refl, sym, ap, ◌∙◌, append_assoc}
use Rattle.std.proofs.lemmas.Slice.Eq.{bytes_eq-Decides}
use Rattle.std.specs.Char.{to_ascii_lowercase}
use Rattle.std.specs.Prelude.{codes}
use Rattle.std.specs.Str.{bytes_eq}
use Rattle.irs_xml.specs.Characters.{is_white_space, is_white, is_gap, rest_after}
use Rattle.irs_xml.specs.Document.{Pair, pair_text, is_pair, is_version, is_encoding, is_standalone, Declaration}
use Rattle.irs_xml.specs.Document.{pair_text_if, is_pair_if, declaration_text, is_xml_declaration}
use Rattle.irs_xml.specs.Private.Reading.{◌>>=◌, choose, skip_space, gap_at, equals_at, quote_at, after_any_case}
use Rattle.irs_xml.specs.Private.Reading.{quoted_at, version_at, encoding_at, standalone_at, name_behind, pair_at}
use Rattle.irs_xml.specs.Private.Reading.{declared_at, opening_at, declaration_at}
use Rattle.irs_xml.specs.Tags.{is_quote}
use Rattle.irs_xml.proofs.Steps.{same_some, bind_some, choose_some, chosen, both_true, true_both, eq_true, true_eq, after_sound, after_complete, begins, white_run, run_white, skip_sound, skip-white, gap_sound, gap_complete, gap_none}
use Rattle.irs_xml.proofs.TagLaws.{equals_sound, equals_complete, quote_sound, quote_complete, quote_no_space}

-- words of the declaration

-- what reads a word reads the words of this kind
record ReadsWord (test : List ℕ → Bool) (reads : List ℕ → Option (List ℕ)) : Type 0 where
  sound : (cs rest : List ℕ) → reads cs ≡ Some rest → (word : List ℕ) × (test word ≡ true) × (cs ≡ word ++ rest)
  complete : (word rest : List ℕ) → test word ≡ true → reads (word ++ rest) ≡ Some rest

same_bytes : (a b : List ℕ) → bytes_eq a b ≡ true → a ≡ b
same_bytes a b e = (bytes_eq-Decides a b).0 e

version_words : ReadsWord is_version version_at
version_words = record {
  sound = λ cs rest e. (codes "1.0", refl, after_sound (codes "1.0") cs rest e);
  complete = λ word rest e. ap (λ w. version_at (w ++ rest)) (same_bytes word (codes "1.0") e) ∙ after_complete (codes "1.0") rest;
}

any_case_sound : (w cs rest : List ℕ) → after_any_case w cs ≡ Some rest → (word : List ℕ) × (map to_ascii_lowercase word ≡ w) × (cs ≡ word ++ rest)
any_case_sound [] cs rest e = ([], refl, same_some e)
any_case_sound (x ∷ w) [] rest e = absurd (cc e)
any_case_sound (x ∷ w) (c ∷ cs) rest e = elim (chosen (nat_eq (to_ascii_lowercase c) x) (after_any_case w cs) None (Some rest) e) [
  | inl h ↦
      let r = any_case_sound w cs rest h.1 in
      (c ∷ r.0, ap (λ y. y ∷ map to_ascii_lowercase r.0) (eq_true (to_ascii_lowercase c) x h.0) ∙ ap (λ t. x ∷ t) r.1, ap (λ t. c ∷ t) r.2)
  | inr h ↦ absurd (let k = h.1 in cc k)
]

any_case_complete : (word rest : List ℕ) → after_any_case (map to_ascii_lowercase word) (word ++ rest) ≡ Some rest
any_case_complete [] rest = refl
any_case_complete (c ∷ word) rest = let e = true_eq (to_ascii_lowercase c) in rw e (any_case_complete word rest)

encoding_words : ReadsWord is_encoding encoding_at
encoding_words = record {
  sound = λ cs rest e.
      let r = any_case_sound (codes "utf-8") cs rest e in
      (r.0, ap (λ w. bytes_eq w (codes "utf-8")) r.1, r.2);
  complete = λ word rest e.
      ap (λ w. after_any_case w (word ++ rest)) (sym (same_bytes (map to_ascii_lowercase word) (codes "utf-8") e)) ∙ any_case_complete word rest;
}

yes_complete : (rest : List ℕ) → standalone_at (codes "yes" ++ rest) ≡ Some rest
yes_complete rest = refl

no_complete : (rest : List ℕ) → standalone_at (codes "no" ++ rest) ≡ Some rest
no_complete rest = refl

standalone_words : ReadsWord is_standalone standalone_at
standalone_words = record {
  sound = λ cs rest e. elim (choose_some (rest_after (codes "yes") cs) (λ rest. Some rest) (rest_after (codes "no") cs) rest e) [
    | inl h ↦ (codes "yes", refl, after_sound (codes "yes") cs rest (h.1 ∙ ap (λ t. Some t) (same_some h.2)))
    | inr h ↦ (codes "no", refl, after_sound (codes "no") cs rest h.1)
  ];
  complete = λ word rest e. elim (chosen (bytes_eq word (codes "yes")) true (bytes_eq word (codes "no")) true e) [
    | inl h ↦ ap (λ w. standalone_at (w ++ rest)) (same_bytes word (codes "yes") h.0) ∙ yes_complete rest
    | inr h ↦ ap (λ w. standalone_at (w ++ rest)) (same_bytes word (codes "no") h.1) ∙ no_complete rest
  ];
}

-- pairs

-- `=` and a word in quotes that were read
record ReadQuoted (test : List ℕ → Bool) (cs rest : List ℕ) : Type 0 where
  before : List ℕ
  behind_equals : List ℕ
  quote : ℕ
  word : List ℕ
  white_before : is_white before ≡ true
  white_behind : is_white behind_equals ≡ true
  is_quote : is_quote quote ≡ true
  is_word : test word ≡ true
  spelt : cs ≡ before ++ (61 ∷ (behind_equals ++ (quote ∷ (word ++ quote ∷ rest))))

quoted_sound : (test : List ℕ → Bool) (reads : List ℕ → Option (List ℕ)) (cs rest : List ℕ) → ReadsWord test reads → quoted_at reads cs ≡ Some rest
    → ReadQuoted test cs rest
unfolding quoted_at
quoted_sound test reads cs rest r e =
    let a = bind_some (equals_at cs) _ rest e in
    let q = bind_some (quote_at a.0) _ rest a.2 in
    let w = bind_some (reads q.0.1) (rest_after (q.0.0 ∷ [])) rest q.2 in
    let eq = equals_sound cs a.0 a.1 in
    let quote = quote_sound a.0 q.0.0 q.0.1 q.1 in
    let word = r.sound q.0.1 w.0 w.1 in
    record {
      before = eq.before;
      behind_equals = eq.after;
      quote = q.0.0;
      word = word.0;
      white_before = eq.white_before;
      white_behind = eq.white_after;
      is_quote = quote.0;
      is_word = word.1;
      spelt = eq.spelt ∙ ap (λ t. eq.before ++ (61 ∷ (eq.after ++ t))) (quote.1 ∙ ap (λ t. q.0.0 ∷ t) (word.2
          ∙ ap (λ t. word.0 ++ t) (after_sound (q.0.0 ∷ []) w.0 rest w.2)));
    }

quoted_complete : (test : List ℕ → Bool) (reads : List ℕ → Option (List ℕ)) (before gap : List ℕ) (q : ℕ) (word rest : List ℕ) → ReadsWord test reads
    → is_white before ≡ true → is_white gap ≡ true → is_quote q ≡ true → test word ≡ true
    → quoted_at reads (before ++ (61 ∷ (gap ++ (q ∷ (word ++ q ∷ rest))))) ≡ Some rest
unfolding quoted_at
quoted_complete test reads before gap q word rest r w v is t =
    let eq = equals_complete before gap (q ∷ (word ++ q ∷ rest)) w v (quote_no_space q (word ++ q ∷ rest) is) in
    let quote = quote_complete q (word ++ q ∷ rest) is in
    let read = r.complete word (q ∷ rest) t in
    rw eq (rw quote (rw read (after_complete (q ∷ []) rest)))

regroup_pair : (g n b a w : List ℕ) (q : ℕ) (rest : List ℕ)
    → g ++ (n ++ (b ++ (61 ∷ (a ++ (q ∷ (w ++ q ∷ rest)))))) ≡ (g ++ (n ++ (b ++ (61 ∷ (a ++ (q ∷ (w ++ q ∷ []))))))) ++ rest
regroup_pair g n b a w q rest = sym (simp append_assoc)

-- a name and its word that were read, or neither where the name isn't there
record ReadPair (name : List ℕ) (test : List ℕ → Bool) (cs rest : List ℕ) : Type 0 where
  pair : Option Pair
  is_pair : is_pair_if test pair ≡ true
  spelt : cs ≡ pair_text_if name pair ++ rest

one_pair : (name : List ℕ) (test : List ℕ → Bool) (g : List ℕ) (cs mid rest : List ℕ) → is_gap g ≡ true → cs ≡ g ++ (name ++ mid) → ReadQuoted test mid rest
    → (p : Pair) × (is_pair test p ≡ true) × (cs ≡ pair_text name p ++ rest)
one_pair name test g cs mid rest gap e q = (
  record { gap = g; before = q.before; after = q.behind_equals; quote = q.quote; word = q.word },
  true_both (is_gap g) (is_white q.before && (is_white q.behind_equals && (is_quote q.quote && test q.word))) gap
      (true_both (is_white q.before) (is_white q.behind_equals && (is_quote q.quote && test q.word)) q.white_before
      (true_both (is_white q.behind_equals) (is_quote q.quote && test q.word) q.white_behind
      (true_both (is_quote q.quote) (test q.word) q.is_quote q.is_word))),
  e ∙ ap (λ t. g ++ (name ++ t)) q.spelt ∙ regroup_pair g name q.before q.behind_equals q.word q.quote rest,
)

pair_sound : (name : List ℕ) (test : List ℕ → Bool) (reads : List ℕ → Option (List ℕ)) (cs rest : List ℕ) → ReadsWord test reads
    → pair_at name reads cs ≡ Some rest → ReadPair name test cs rest
unfolding pair_at
pair_sound name test reads cs rest r e =
    elim (choose_some (name_behind name cs) (λ rest. quoted_at reads rest) (Some cs) rest e) [
      | inl h ↦
          let g = bind_some (gap_at cs) (rest_after name) h.0 h.1 in
          let gap = gap_sound cs g.0 g.1 in
          let p = one_pair name test gap.0 cs h.0 rest gap.1 (gap.2 ∙ ap (λ t. gap.0 ++ t) (after_sound name g.0 h.0 g.2)) (quoted_sound test reads h.0 rest r h.2) in
          record { pair = Some p.0; is_pair = p.1; spelt = p.2 }
      | inr h ↦ record { pair = None; is_pair = refl; spelt = same_some h.1 }
    ]

-- what a pair that follows the rules keeps, each rule by itself
record LawfulPair (test : List ℕ → Bool) (p : Pair) : Type 0 where
  gap : is_gap p.gap ≡ true
  before : is_white p.before ≡ true
  behind_equals : is_white p.after ≡ true
  quote : is_quote p.quote ≡ true
  word : test p.word ≡ true

lawful_pair : (test : List ℕ → Bool) (p : Pair) → is_pair test p ≡ true → LawfulPair test p
lawful_pair test p h =
    let a = both_true (is_gap p.gap) (is_white p.before && (is_white p.after && (is_quote p.quote && test p.word))) h in
    let b = both_true (is_white p.before) (is_white p.after && (is_quote p.quote && test p.word)) a.1 in
    let c = both_true (is_white p.after) (is_quote p.quote && test p.word) b.1 in
    let d = both_true (is_quote p.quote) (test p.word) c.1 in
    record { gap = a.0; before = b.0; behind_equals = c.0; quote = d.0; word = d.1 }

-- a name that white space may be followed by
pair_complete : (name : List ℕ) (test : List ℕ → Bool) (reads : List ℕ → Option (List ℕ)) (p : Pair) (rest : List ℕ) → ReadsWord test reads
    → is_pair test p ≡ true → ((mid : List ℕ) → begins is_white_space (name ++ mid) ≡ false)
    → pair_at name reads (pair_text name p ++ rest) ≡ Some rest
unfolding pair_at
pair_complete name test reads p rest r h plain =
    let l = lawful_pair test p h in
    let mid = p.before ++ (61 ∷ (p.after ++ (p.quote ∷ (p.word ++ p.quote ∷ rest)))) in
    let gap = gap_complete p.gap (name ++ mid) l.gap (plain mid) in
    let found = after_complete name mid in
    let read = quoted_complete test reads p.before p.after p.quote p.word rest r l.before l.behind_equals l.quote l.word in
    ap (λ t. choose (name_behind name t) (λ rest. quoted_at reads rest) (Some t)) (sym (regroup_pair p.gap name p.before p.after p.word p.quote rest))
    ∙ (rw gap (rw found read))

no_pair : (name : List ℕ) (reads : List ℕ → Option (List ℕ)) (cs : List ℕ) → name_behind name cs ≡ None → pair_at name reads cs ≡ Some cs
unfolding pair_at
no_pair name reads cs e = rw e refl

-- white space and what comes after it
gap_to : (s cs : List ℕ) (name : List ℕ) → is_white s ≡ true → begins is_white_space cs ≡ false → rest_after name cs ≡ None → name_behind name (s ++ cs) ≡ None
gap_to [] cs name w b e = let g = gap_none cs b in rw g refl
gap_to (c ∷ s) cs name w b e = let g = gap_complete (c ∷ s) cs w b in rw g e

mark_no_space : (rest : List ℕ) → begins is_white_space (codes "?>" ++ rest) ≡ false
unfolding is_white_space
mark_no_space rest = refl

word_no_space : (rest : List ℕ) → begins is_white_space (codes "standalone" ++ rest) ≡ false
unfolding is_white_space
word_no_space rest = refl

encoding_no_space : (rest : List ℕ) → begins is_white_space (codes "encoding" ++ rest) ≡ false
unfolding is_white_space
encoding_no_space rest = refl

version_no_space : (rest : List ℕ) → begins is_white_space (codes "version" ++ rest) ≡ false
unfolding is_white_space
version_no_space rest = refl

gap_white : (s : List ℕ) → is_gap s ≡ true → is_white s ≡ true
gap_white [] h = absurd (cc h)
gap_white (c ∷ s) h = h

-- what may follow the version holds no encoding where there is none
no_encoding : (o : Option Pair) (space rest : List ℕ) → is_pair_if is_standalone o ≡ true → is_white space ≡ true
    → name_behind (codes "encoding") (pair_text_if (codes "standalone") o ++ (space ++ (codes "?>" ++ rest))) ≡ None
no_encoding None space rest h w = gap_to space (codes "?>" ++ rest) (codes "encoding") w (mark_no_space rest) refl
no_encoding (Some p) space rest h w =
    let l = lawful_pair is_standalone p h in
    let mid = p.before ++ (61 ∷ (p.after ++ (p.quote ∷ (p.word ++ p.quote ∷ (space ++ (codes "?>" ++ rest)))))) in
    ap (name_behind (codes "encoding")) (sym (regroup_pair p.gap (codes "standalone") p.before p.after p.word p.quote (space ++ (codes "?>" ++ rest))))
    ∙ gap_to p.gap (codes "standalone" ++ mid) (codes "encoding") (gap_white p.gap l.gap) (word_no_space mid) refl

pair_if_complete : (name : List ℕ) (test : List ℕ → Bool) (reads : List ℕ → Option (List ℕ)) (o : Option Pair) (rest : List ℕ) → ReadsWord test reads
    → is_pair_if test o ≡ true → ((mid : List ℕ) → begins is_white_space (name ++ mid) ≡ false) → (o ≡ None → name_behind name rest ≡ None)
    → pair_at name reads (pair_text_if name o ++ rest) ≡ Some rest
pair_if_complete name test reads None rest r h plain none = no_pair name reads rest (none refl)
pair_if_complete name test reads (Some p) rest r h plain none = pair_complete name test reads p rest r h plain

-- declarations

-- an XML declaration that was read, or none
pub record ReadDeclaration (cs rest : List ℕ) : Type 0 where
  pub declaration : Option Declaration
  pub is_declaration : is_xml_declaration declaration ≡ true
  pub spelt : cs ≡ declaration_text declaration ++ rest

-- what is passed over in front is spelt as an XML declaration, or is nothing
pub declaration_sound : (cs rest : List ℕ) → declaration_at cs ≡ Some rest → ReadDeclaration cs rest
unfolding declaration_at declared_at
declaration_sound cs rest e =
    elim (choose_some (opening_at cs) (λ rest. declared_at rest) (Some cs) rest e) [
      | inl h ↦
          let o = bind_some (rest_after (codes "<?xml") cs) gap_at h.0 h.1 in
          let gap = gap_sound o.0 h.0 o.2 in
          let d = bind_some (rest_after (codes "version") h.0 >>= quoted_at version_at >>= pair_at (codes "encoding") encoding_at
          >>= pair_at (codes "standalone") standalone_at) (λ rest. rest_after (codes "?>") (skip_space rest)) rest h.2 in
          let c = bind_some (rest_after (codes "version") h.0 >>= quoted_at version_at >>= pair_at (codes "encoding") encoding_at)
          (pair_at (codes "standalone") standalone_at) d.0 d.1 in
          let b = bind_some (rest_after (codes "version") h.0 >>= quoted_at version_at) (pair_at (codes "encoding") encoding_at) c.0 c.1 in
          let a = bind_some (rest_after (codes "version") h.0) (quoted_at version_at) b.0 b.1 in
          let version = one_pair (codes "version") is_version gap.0 o.0 a.0 b.0 gap.1
          (gap.2 ∙ ap (λ t. gap.0 ++ t) (after_sound (codes "version") h.0 a.0 a.1)) (quoted_sound is_version version_at a.0 b.0 version_words a.2) in
          let encoding = pair_sound (codes "encoding") is_encoding encoding_at b.0 c.0 encoding_words b.2 in
          let standalone = pair_sound (codes "standalone") is_standalone standalone_at c.0 d.0 standalone_words c.2 in
          record {
            declaration = Some (record { version = version.0; encoding = encoding.pair; standalone = standalone.pair; space = white_run d.0 });
            is_declaration = true_both (is_pair is_version version.0) (is_pair_if is_encoding encoding.pair
                && (is_pair_if is_standalone standalone.pair && is_white (white_run d.0))) version.1
                (true_both (is_pair_if is_encoding encoding.pair) (is_pair_if is_standalone standalone.pair && is_white (white_run d.0)) encoding.is_pair
                (true_both (is_pair_if is_standalone standalone.pair) (is_white (white_run d.0)) standalone.is_pair (run_white d.0)));
            spelt = after_sound (codes "<?xml") cs o.0 o.1 ∙ ap (λ t. codes "<?xml" ++ t) (version.2
                ∙ ap (λ t. pair_text (codes "version") version.0 ++ t) (encoding.spelt
                ∙ ap (λ t. pair_text_if (codes "encoding") encoding.pair ++ t) (standalone.spelt
                ∙ ap (λ t. pair_text_if (codes "standalone") standalone.pair ++ t) (skip_sound d.0
                ∙ ap (λ t. white_run d.0 ++ t) (after_sound (codes "?>") (skip_space d.0) rest d.2)))))
                ∙ regroup (pair_text (codes "version") version.0) (pair_text_if (codes "encoding") encoding.pair)
                (pair_text_if (codes "standalone") standalone.pair) (white_run d.0) rest;
          }
      | inr h ↦ record { declaration = None; is_declaration = refl; spelt = same_some h.1 }
    ]
  where
    regroup : (a b c d e : List ℕ)
        → codes "<?xml" ++ (a ++ (b ++ (c ++ (d ++ (codes "?>" ++ e))))) ≡ (codes "<?xml" ++ (a ++ (b ++ (c ++ (d ++ codes "?>"))))) ++ e
    regroup a b c d e = ap (λ t. codes "<?xml" ++ t) (sym (simp append_assoc))

-- every XML declaration that follows the rules is read
pub declared_complete : (d : Declaration) (rest : List ℕ) → is_xml_declaration (Some d) ≡ true
    → declaration_at (declaration_text (Some d) ++ rest) ≡ Some rest
unfolding declaration_at declared_at
declared_complete d rest h =
    let x = both_true (is_pair is_version d.version) (is_pair_if is_encoding d.encoding && (is_pair_if is_standalone d.standalone && is_white d.space)) h in
    let y = both_true (is_pair_if is_encoding d.encoding) (is_pair_if is_standalone d.standalone && is_white d.space) x.1 in
    let z = both_true (is_pair_if is_standalone d.standalone) (is_white d.space) y.1 in
    let l = lawful_pair is_version d.version x.0 in
    let r4 = d.space ++ (codes "?>" ++ rest) in
    let r3 = pair_text_if (codes "standalone") d.standalone ++ r4 in
    let r2 = pair_text_if (codes "encoding") d.encoding ++ r3 in
    let mid = d.version.before ++ (61 ∷ (d.version.after ++ (d.version.quote ∷ (d.version.word ++ d.version.quote ∷ r2)))) in
    let gap = gap_complete d.version.gap (codes "version" ++ mid) l.gap (version_no_space mid) in
    let read = quoted_complete is_version version_at d.version.before d.version.after d.version.quote d.version.word r2 version_words
    l.before l.behind_equals l.quote l.word in
    let encoding = pair_if_complete (codes "encoding") is_encoding encoding_at d.encoding r3 encoding_words y.0 encoding_no_space
    (λ none. no_encoding d.standalone d.space rest z.0 z.1) in
    let standalone = pair_if_complete (codes "standalone") is_standalone standalone_at d.standalone r4 standalone_words z.0 word_no_space
    (λ none. gap_to d.space (codes "?>" ++ rest) (codes "standalone") z.1 (mark_no_space rest) refl) in
    let skip = skip-white d.space (codes "?>" ++ rest) z.1 (mark_no_space rest) in
    ap (λ t. choose (opening_at t) (λ rest. declared_at rest) (Some t)) (regroup (pair_text (codes "version") d.version)
    (pair_text_if (codes "encoding") d.encoding) (pair_text_if (codes "standalone") d.standalone) d.space rest
    ∙ ap (λ t. codes "<?xml" ++ t) (sym (regroup_pair d.version.gap (codes "version") d.version.before d.version.after d.version.word d.version.quote r2)))
    ∙ (rw gap (rw read (rw encoding (rw standalone (rw skip refl)))))
  where
    regroup : (a b c d e : List ℕ)
        → (codes "<?xml" ++ (a ++ (b ++ (c ++ (d ++ codes "?>"))))) ++ e ≡ codes "<?xml" ++ (a ++ (b ++ (c ++ (d ++ (codes "?>" ++ e)))))
    regroup a b c d e = ap (λ t. codes "<?xml" ++ t) (simp append_assoc)
