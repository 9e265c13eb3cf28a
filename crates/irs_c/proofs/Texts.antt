-- Words whose bytes are those of texts are UTF-8.
use Rattle.std.proofs.Common.{◌≡◌, ℕ, ◌≤◌, List, [], ◌∷◌, length, take, subst, String, string_bytes, arith}
use Rattle.std.proofs.lemmas.List.{take_all}
use Rattle.std.proofs.lemmas.List.Elements.{All-cons}
use Rattle.std.proofs.lemmas.Str.{IsUtf8-string_bytes}
use Rattle.std.specs.Str.{IsUtf8}
use Rattle.std.specs.declared.alloc.Global.{Global}
use Rattle.irs_c.specs.declared.given.Bytes.{Bytes}
use Rattle.irs_cli.specs.Commands.{word_texts}
use Rattle.irs_c.specs.Each.{AreText, words_in}

-- words that were made into text are text
pub are_text : (made : List (String Global)) (ws : List Bytes) → word_texts made ≡ words_in ws → AreText ws
are_text made [] e = λ k d less. absurd (omega (arith, less))
are_text [] (w ∷ ws) e = absurd (cc)
are_text (s ∷ ss) (w ∷ ws) e =
    let first : string_bytes s ≡ w.at.now = cc in
    let rest : word_texts ss ≡ words_in ws = cc in
    All-cons (λ (v : Bytes). IsUtf8 v.at.now) w ws (subst IsUtf8 first (IsUtf8-string_bytes s)) (are_text ss ws rest)

-- all words were made texts
pub all_made : (made : List (String Global)) (ws : List Bytes) (i : ℕ) → length ws ≤ i
    → word_texts made ≡ words_in (take i ws) → AreText ws
all_made made ws i all e =
    are_text made ws (subst (λ (vs : List Bytes). word_texts made ≡ words_in vs) (take_all i ws all) e)
