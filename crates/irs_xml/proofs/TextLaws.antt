-- The bytes of a document, and what they mean.
use Rattle.std.proofs.Common.{◌≡◌, inl, inr, ℕ, Bool, true, false, cond, List, [], ◌∷◌, ◌++◌, length, Option, Some, None, nat_eq, refl, sym, ap, subst, ◌∙◌, arith}
use Rattle.std.proofs.lemmas.Bool.{cases_Bool}
use Rattle.std.proofs.lemmas.Str.{chars-encodes, chars-nil, encodes-chars, chars_past_char}
use Rattle.std.specs.Char.{encode_utf8}
use Rattle.std.specs.List.{list_all}
use Rattle.std.specs.Str.{chars, IsUtf8, all_scalars}
use Rattle.serde_json.specs.Data.{Data}
use Rattle.irs_xml.specs.Characters.{is_char, ends_after, line_ends, without_mark, IsText, rest_after, seen}
use Rattle.irs_xml.specs.Document.{XmlReads, ReadsNone}
use Rattle.irs_xml.specs.Private.Reading.{IsNotXml, Fails, Takes, document_at}
use Rattle.irs_xml.specs.declared.failure.Failure.{Failure}
use Rattle.irs_xml.specs.declared.failure.Failure.TheVariants.{NotXml as NotRead}
use Rattle.irs_xml.specs.declared.reading.XmlErr.{XmlErr}
use Rattle.irs_xml.specs.declared.reading.XmlErr.TheVariants.{NotXml, Memory}
use Rattle.irs_xml.proofs.Allowed.{char_scalar}
use Rattle.irs_xml.proofs.RootLaws.{document_sound, document_complete}
use Rattle.irs_xml.proofs.Steps.{same_some, both_true, true_both, eq_true}

allowed_scalars : (cs : List ℕ) → list_all is_char cs ≡ true → all_scalars cs ≡ true
allowed_scalars [] h = refl
allowed_scalars (c ∷ cs) h =
    let b = both_true (is_char c) (list_all is_char cs) h in true_both _ (all_scalars cs) (char_scalar c b.0) (allowed_scalars cs b.1)

-- a text that XML allows has one list of characters
pub record Allowed (bytes : List ℕ) : Type 0 where
  pub utf8 : IsUtf8 bytes
  pub allowed : list_all is_char (chars bytes) ≡ true

-- bytes that are allowed are the text of their characters
pub text_of : (bytes : List ℕ) → Allowed bytes → IsText bytes (chars bytes)
text_of bytes a = record { spelt = sym (encodes-chars bytes a.utf8); allowed = a.allowed }

chars_of : (bytes cs : List ℕ) → IsText bytes cs → chars bytes ≡ cs
chars_of bytes cs t = ap chars t.spelt ∙ chars-encodes cs (allowed_scalars cs t.allowed)

-- the bytes of a text are allowed
pub allowed_of : (bytes cs : List ℕ) → IsText bytes cs → Allowed bytes
allowed_of bytes cs t = record {
  utf8 = (cs, (allowed_scalars cs t.allowed, sym t.spelt));
  allowed = ap (list_all is_char) (chars_of bytes cs t) ∙ t.allowed;
}

-- the mark goes before or after the ends of lines

mark_stays : (cs : List ℕ) → ends_after false (0xFEFF ∷ cs) ≡ 0xFEFF ∷ ends_after false cs
unfolding ends_after
mark_stays cs = refl

with_mark : (c : ℕ) (cs : List ℕ) → nat_eq c 0xFEFF ≡ true → without_mark (c ∷ cs) ≡ cs
with_mark c cs h = rw h refl

no_mark : (c : ℕ) (cs : List ℕ) → nat_eq c 0xFEFF ≡ false → without_mark (c ∷ cs) ≡ c ∷ cs
no_mark c cs h = rw h refl

other_end : (c : ℕ) (cs : List ℕ) → nat_eq c 0xFEFF ≡ false → without_mark (ends_after false (c ∷ cs)) ≡ ends_after false (c ∷ cs)
unfolding ends_after
other_end c cs h = elim (cases_Bool (nat_eq c 13)) [
  | inl e ↦ rw e refl
  | inr e ↦ rw (e, h) refl
]

-- a byte order mark is removed before or after line ends with the same result
pub mark-ends : (cs : List ℕ) → without_mark (line_ends cs) ≡ line_ends (without_mark cs)
unfolding ends_after
mark-ends [] = refl
mark-ends (c ∷ cs) = elim (cases_Bool (nat_eq c 0xFEFF)) [
  | inl h ↦
      let is = eq_true c 0xFEFF h in
      ap (λ x. without_mark (ends_after false (x ∷ cs))) is ∙ ap without_mark (mark_stays cs) ∙ with_mark 0xFEFF (ends_after false cs) refl
      ∙ ap (ends_after false) (sym (with_mark c cs h))
  | inr h ↦ other_end c cs h ∙ ap (ends_after false) (sym (no_mark c cs h))
]

seen_without : (bytes : List ℕ) → without_mark (seen bytes) ≡ line_ends (without_mark (chars bytes))
unfolding seen
seen_without bytes = mark-ends (chars bytes)

-- a mark that was passed over
pub mark_passed : (b : Bool) (old new : List ℕ) → Takes b old new (rest_after (0xFEFF ∷ []) old) → without_mark old ≡ new
mark_passed true [] new t = absurd (cc t)
mark_passed true (c ∷ cs) new t = by_test (nat_eq c 0xFEFF) t
  where
    by_test : (x : Bool) → cond x (Some cs) None ≡ Some new → cond x cs (c ∷ cs) ≡ new
    by_test true e = same_some e
    by_test false e = absurd (cc e)
mark_passed false [] new t = sym t.1
mark_passed false (c ∷ cs) new t = by_test (nat_eq c 0xFEFF) t.0 ∙ sym t.1
  where
    by_test : (x : Bool) → cond x (Some cs) None ≡ None → cond x cs (c ∷ cs) ≡ c ∷ cs
    by_test true e = absurd (cc e)
    by_test false e = refl

-- allowed bytes mean the value that is read of them
pub reads_sound : (bytes : List ℕ) (d : Data) → Allowed bytes → document_at (without_mark (seen bytes)) ≡ Some d → XmlReads bytes d
reads_sound bytes d a e =
    let r = document_sound (without_mark (seen bytes)) d e in record {
      characters = chars bytes;
      text = text_of bytes a;
      document = r.document;
      well_formed = r.is_document;
      spelt = sym (seen_without bytes) ∙ r.spelt;
      means = r.means;
    }

-- a value that bytes mean is read of them
pub reads_complete : (bytes : List ℕ) (d : Data) → XmlReads bytes d → document_at (without_mark (seen bytes)) ≡ Some d
reads_complete bytes d r =
    ap document_at (seen_without bytes ∙ ap (λ cs. line_ends (without_mark cs)) (chars_of bytes r.characters r.text) ∙ r.spelt)
    ∙ document_complete r.document d r.well_formed r.means

-- at most one value is read
pub reads_one : (bytes : List ℕ) (d e : Data) → XmlReads bytes d → XmlReads bytes e → d ≡ e
reads_one bytes d e r s = same_some (sym (reads_complete bytes d r) ∙ reads_complete bytes e s)

-- bytes of which nothing is read mean no value
pub none_read : (bytes : List ℕ) (d : Data) → document_at (without_mark (seen bytes)) ≡ None → XmlReads bytes d → ⊥
none_read bytes d e r = let k = sym e ∙ reads_complete bytes d r in absurd (cc k)

-- a failure other than memory is that nothing is read
pub failed : {A : Type 0} (e : Failure) (read : Option A) → e ≡ NotRead → Fails e read → read ≡ None
failed e read is f = subst (λ x. Fails x read) is f

-- where the text is the bytes and the reader is at its front, the bytes mean what is read
pub some_read : (bytes text reader : List ℕ) (d : Data) → text ≡ bytes → reader ≡ seen text → IsUtf8 bytes
    → list_all is_char (chars text) ≡ true → document_at (without_mark reader) ≡ Some d → XmlReads bytes d
some_read bytes text reader d is at u h e =
    reads_sound bytes d (record { utf8 = u; allowed = ap (λ t. list_all is_char (chars t)) (sym is) ∙ h })
    (ap (λ t. document_at (without_mark (seen t))) (sym is) ∙ ap (λ t. document_at (without_mark t)) (sym at) ∙ e)

-- where nothing is read of the text, the bytes mean no value
pub nothing_read : (bytes text reader : List ℕ) → text ≡ bytes → reader ≡ seen text → document_at (without_mark reader) ≡ None
    → (d : Data) → XmlReads bytes d → ⊥
nothing_read bytes text reader is at e d r =
    none_read bytes d (ap (λ t. document_at (without_mark (seen t))) (sym is) ∙ ap (λ t. document_at (without_mark t)) (sym at) ∙ e) r

-- bytes that aren't UTF-8 mean no value
pub none_encoded : (bytes : List ℕ) → ¬ (IsUtf8 bytes) → (d : Data) → XmlReads bytes d → ⊥
none_encoded bytes not_one d r = not_one (allowed_of bytes r.characters r.text).utf8

-- bytes with a character that XML doesn't allow mean no value
pub none_allowed : (text bytes : List ℕ) → text ≡ bytes → list_all is_char (chars text) ≡ false → (d : Data) → XmlReads bytes d → ⊥
none_allowed text bytes e h d r =
    let a = (allowed_of bytes r.characters r.text).allowed in
    let k = sym h ∙ ap (λ t. list_all is_char (chars t)) e ∙ a in absurd (cc k)

-- the error `NotXml` is right where the bytes mean no value
pub none_of : (bytes : List ℕ) (e : XmlErr) → IsNotXml e → ((d : Data) → XmlReads bytes d → ⊥) → ReadsNone bytes e
none_of bytes (NotXml line column) is none = none
none_of bytes Memory is none = absurd is

-- the first character, and those after it

-- an empty text has no character that isn't allowed
pub all_nothing : (text : List ℕ) → length text ≡ 0 → list_all is_char (chars text) ≡ true
all_nothing [] e = ap (list_all is_char) chars-nil
all_nothing (b ∷ bs) e = absurd (omega arith)

-- after an allowed character the rest decides whether all are allowed
pub all_step : (text rest : List ℕ) (c : ℕ) → IsUtf8 text → text ≡ encode_utf8 c ++ rest → is_char c ≡ true
    → list_all is_char (chars text) ≡ list_all is_char (chars rest)
all_step text rest c u e h = ap (list_all is_char) (chars_past_char text rest c u e) ∙ (rw h refl)

-- one character that isn't allowed decides that not all are
pub all_stop : (text rest : List ℕ) (c : ℕ) → IsUtf8 text → text ≡ encode_utf8 c ++ rest → is_char c ≡ false
    → list_all is_char (chars text) ≡ false
all_stop text rest c u e h = ap (list_all is_char) (chars_past_char text rest c u e) ∙ (rw h refl)
