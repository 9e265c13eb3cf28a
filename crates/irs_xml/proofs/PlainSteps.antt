-- Plain characters are read many at a time as they are read one at a time.
use Rattle.std.proofs.Common.{◌≡◌, ℕ, ◌-◌, ◌≤◌, false, List, [], ◌∷◌, ◌++◌, length, take, drop, Some, refl, sym, ap, subst, ◌∙◌, arith, append_assoc, length-append}
use Rattle.std.proofs.Math.Seq.{take-append_seam, drop-append_seam}
use Rattle.std.proofs.lemmas.List.{append-nil}
use Rattle.std.proofs.lemmas.Str.{encode_ascii, IsUtf8-past_char, IsCharBoundary-at_seam}
use Rattle.std.specs.Char.{encode_utf8}
use Rattle.std.specs.List.{slice_get}
use Rattle.std.specs.Str.{IsUtf8, IsCharBoundary}
use Rattle.irs_xml.specs.Private.Reading.{IsPlain, ArePlain, SplitsPlain, PlainTaken, PlainPieces, Got, Inside}
use Rattle.irs_xml.specs.Private.Reading.{with_text, standing, mark_at, piece_at}
use Rattle.irs_xml.specs.Characters.{seen}
use Rattle.irs_xml.specs.Content.{Child}
use Rattle.irs_xml.proofs.ContentSteps.{ContentGoes, content_more}
use Rattle.irs_xml.proofs.Seeing.{seen_other}
use Rattle.irs_xml.proofs.Steps.{false_eq}

-- before the first character the whole text is left
pub plain_nothing : (text : List ℕ) → SplitsPlain text text
plain_nothing text = record { run = []; whole = refl; plain = tt }

plain_last : (run : List ℕ) (b : ℕ) → ArePlain run → IsPlain b → ArePlain (run ++ b ∷ [])
plain_last [] b ps p = (p, tt)
plain_last (c ∷ run) b ps p = (ps.0, plain_last run b ps.1 p)

-- a further plain character is passed over
pub plain_more : (text left : List ℕ) (b : ℕ) → SplitsPlain text left → Some b ≡ slice_get left 0 → IsPlain b → SplitsPlain text (drop 1 left)
plain_more text [] b s e p = absurd (cc e)
plain_more text (x ∷ rest) b s e p =
    let same : x ≡ b = cc e in record {
      run = s.run ++ b ∷ [];
      whole = s.whole ∙ ap (λ y. s.run ++ y ∷ rest) same ∙ sym (append_assoc s.run (b ∷ []) rest);
      plain = plain_last s.run b s.plain p;
    }

length_of : (text xs left : List ℕ) → text ≡ xs ++ left → length text - length left ≡ length xs
length_of text xs left e = let l = ap length e ∙ length-append xs left in omega (arith, l)

-- plain characters end between two characters of the text
pub plain_cut : (text left : List ℕ) → SplitsPlain text left → IsUtf8 left → IsCharBoundary text (length text - length left)
plain_cut text left s u =
    subst (IsCharBoundary text) (sym (length_of text s.run left s.whole)) (IsCharBoundary-at_seam text s.run left s.whole u)

-- plain characters are seen as they are
seen_run : (run left : List ℕ) → ArePlain run → IsUtf8 (run ++ left) → seen (run ++ left) ≡ run ++ seen left
seen_run [] left ps u = refl
seen_run (c ∷ run) left ps u =
    let spelt : c ∷ (run ++ left) ≡ encode_utf8 c ++ (run ++ left) = ap (λ t. t ++ (run ++ left)) (sym (encode_ascii c ps.0.0)) in
    seen_other (c ∷ (run ++ left)) (run ++ left) c u spelt ps.0.1
    ∙ ap (λ t. c ∷ t) (seen_run run left ps.1 (IsUtf8-past_char (c ∷ (run ++ left)) (run ++ left) c u spelt))

-- plain characters that are cut off are taken
pub plain_taken : (text left front back : List ℕ) → SplitsPlain text left → IsUtf8 text → front ≡ take (length text - length left) text
    → back ≡ drop (length text - length left) text → PlainTaken front (seen text) (seen back)
plain_taken text left front back s u f b =
    let n = length_of text s.run left s.whole in
    let is_run : front ≡ s.run = f ∙ ap (λ k. take k text) n ∙ ap (take (length s.run)) s.whole ∙ take-append_seam s.run left in
    let is_left : back ≡ left = b ∙ ap (λ k. drop k text) n ∙ ap (drop (length s.run)) s.whole ∙ drop-append_seam s.run left in
    record {
      plain = subst ArePlain (sym is_run) s.plain;
      front = ap seen s.whole ∙ seen_run s.run left s.plain (subst IsUtf8 s.whole u)
          ∙ ap (λ r. r ++ seen left) (sym is_run) ∙ ap (λ r. front ++ seen r) (sym is_left);
    }

mark_plain : (c : ℕ) (cs : List ℕ) → IsPlain c → mark_at (c ∷ cs) ≡ Some (standing c, cs)
unfolding mark_at
mark_plain c cs p =
    let a = false_eq c 60 p.3 in
    let b = false_eq c 38 p.2 in
    let d = false_eq c 93 p.4 in
    rw (a, b, d) refl

piece_plain : (child : List ℕ → Got Child) (i : Inside) (c : ℕ) (cs : List ℕ)
    → piece_at child i (standing c) cs ≡ Some ((false, with_text i (i.text ++ encode_utf8 c)), cs)
unfolding piece_at
piece_plain child i c cs = refl

goes_run : (child : List ℕ → Got Child) (run : List ℕ) (i : Inside) (cs : List ℕ) (first : Inside) (all : List ℕ) → ArePlain run
    → ContentGoes child i (run ++ cs) first all → ContentGoes child (with_text i (i.text ++ run)) cs first all
goes_run child [] i cs first all ps g = subst (λ t. ContentGoes child (with_text i t) cs first all) (sym (append-nil i.text)) g
goes_run child (c ∷ run) i cs first all ps g =
    let next = content_more (standing c) (run ++ cs) (with_text i (i.text ++ encode_utf8 c)) (run ++ cs) g
    (mark_plain c (run ++ cs) ps.0) (piece_plain child i c (run ++ cs)) (omega arith) in
    let joined : (i.text ++ encode_utf8 c) ++ run ≡ i.text ++ c ∷ run = ap (λ e. (i.text ++ e) ++ run) (encode_ascii c ps.0.0)
    ∙ append_assoc i.text (c ∷ []) run in
    subst (λ t. ContentGoes child (with_text i t) cs first all) joined
    (goes_run child run (with_text i (i.text ++ encode_utf8 c)) cs first all ps.1 next)

-- after plain characters the rest of the content gives what the whole gives
pub content_plain : {child : List ℕ → Got Child} {i : Inside} {cs : List ℕ} {first : Inside} {all : List ℕ} (j : Inside) (rest : List ℕ)
    → ContentGoes child i cs first all → PlainPieces i cs j rest → ContentGoes child j rest first all
content_plain {child} {i} {cs} {first} {all} j rest g p =
    subst (λ x. ContentGoes child x rest first all) (sym p.text)
    (goes_run child p.run i rest first all p.taken.plain (subst (λ x. ContentGoes child i x first all) p.taken.front g))

-- taking plain characters makes nothing longer
pub plain_short : {i : Inside} {cs : List ℕ} {j : Inside} {rest : List ℕ} → PlainPieces i cs j rest → length rest ≤ length cs
plain_short {i} {cs} {j} {rest} p = let l = ap length p.taken.front ∙ length-append p.run rest in omega (arith, l)
