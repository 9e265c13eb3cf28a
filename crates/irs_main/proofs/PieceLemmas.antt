-- Texts that are written one after the other: what is left once some of them are written.
use Rattle.std.proofs.Common.{◌≡◌, ℕ, ◌+◌, ◌<◌, List, [], ◌∷◌, ◌++◌, get_or, drop, length, Option, Some, None}
use Rattle.std.proofs.Common.{sym, ◌∙◌, ap, subst}
use Rattle.std.proofs.lemmas.List.{append-nil, drop_more}
use Rattle.irs_outside.specs.Outside.{Grew, GrewByFront}
use Rattle.irs_cli.proofs.PutLemmas.{Through, through_more, through_part}

-- a text grows by no bytes where nothing is written
pub grew_nothing : (a : Option (List ℕ)) → Grew a a []
grew_nothing None = tt
grew_nothing (Some t) = ap Some (sym (append-nil t))

-- where nothing is left, all was written
pub through_all : (a b : Option (List ℕ)) (left text : List ℕ) → left ≡ [] → Through a b left text → Grew a b text
through_all a b left text none h =
    let G : List ℕ → Type 0 = λ t. Grew a b t in
    subst G (sym (h.is ∙ ap (λ (l : List ℕ). h.front ++ l) none ∙ append-nil h.front)) h.grew

-- what things come to together, a piece for each
module _ {X : Type 0} (whole : List X → List ℕ) (piece : X → List ℕ)
    (more : (x : X) (xs : List X) → whole (x ∷ xs) ≡ piece x ++ whole xs)
    (ps : List X) (i : ℕ) (d : X) (less : i < length ps) where
  -- the next piece is the first of what is left
  next_piece : whole (drop i ps) ≡ piece (get_or ps i d) ++ whole (drop (i + 1) ps)
  next_piece = ap whole (drop_more ps i d less) ∙ more (get_or ps i d) (drop (i + 1) ps)

  -- after the next piece is written, the others are left
  pub piece_put : (a b c : Option (List ℕ)) (text : List ℕ) → Through a b (whole (drop i ps)) text
      → Grew b c (piece (get_or ps i d)) → Through a c (whole (drop (i + 1) ps)) text
  piece_put a b c text h k =
      let T : List ℕ → Type 0 = λ l. Through a b l text in
      through_more a b c (piece (get_or ps i d)) (whole (drop (i + 1) ps)) text (subst T next_piece h) k

  -- where the write of the next piece fails, a front of the whole is written
  pub piece_failed : (a b c : Option (List ℕ)) (text : List ℕ) → Through a b (whole (drop i ps)) text
      → GrewByFront b c (piece (get_or ps i d)) → GrewByFront a c text
  piece_failed a b c text h k =
      let T : List ℕ → Type 0 = λ l. Through a b l text in
      through_part a b c (piece (get_or ps i d)) (whole (drop (i + 1) ps)) text (subst T next_piece h) k
