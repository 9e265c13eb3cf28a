-- Parts that are empty say nothing, and a text at the end is said last.
use Rattle.std.proofs.Common.{◌≡◌, ℕ, zero, suc, List, [], ◌∷◌, ◌++◌, drop, refl, sym, ap, ◌∙◌}
use Rattle.std.proofs.Common.{append_assoc}
use Rattle.std.proofs.lemmas.List.{append-nil}
use Rattle.irs_base.specs.Lists.{Every}
use Rattle.irs_main.specs.Shown.{joined_texts}
use Rattle.irs_main.specs.Private.Parts.{part_text, said_by}
use Rattle.irs_main.specs.declared.parts.Part.{Part}

-- a part is empty
abbrev pub IsEmpty : Part → Type 0
IsEmpty p = part_text p ≡ []

empty_said : (ps : List Part) → Every IsEmpty ps → said_by ps ≡ []
empty_said [] h = refl
empty_said (p ∷ ps) h = rw h.0 (empty_said ps h.1)

-- the others are empty too where some are left out
pub dropped_empty : (n : ℕ) (ps : List Part) → Every IsEmpty ps → Every IsEmpty (drop n ps)
dropped_empty zero ps h = h
dropped_empty (suc n) [] h = tt
dropped_empty (suc n) (p ∷ ps) h = dropped_empty n ps h.1

-- with empty parts after them, parts say the same
pub said_front : (first rest : List Part) → Every IsEmpty rest → said_by (first ++ rest) ≡ said_by first
said_front [] rest h = empty_said rest h
said_front (p ∷ ps) rest h = ap (λ (t : List ℕ). part_text p ++ t) (said_front ps rest h)

-- texts and then one more
pub joined_last : (texts : List (List ℕ)) (last : List ℕ) → joined_texts (texts ++ last ∷ []) ≡ joined_texts texts ++ last
joined_last [] last = append-nil last
joined_last (text ∷ texts) last =
    ap (λ (t : List ℕ). text ++ t) (joined_last texts last) ∙ sym (append_assoc text (joined_texts texts) last)
