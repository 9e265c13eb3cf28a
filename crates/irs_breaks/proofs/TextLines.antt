-- A text that is written line by line.
use Rattle.std.proofs.Common.{◌≡◌, ℕ, zero, suc, ◌+◌, ◌<◌, ◌≤◌, List, [], ◌∷◌, ◌++◌, length, take, get_or, decimal, sym, ◌∙◌, ap}
use Rattle.std.proofs.Common.{arith, append_assoc, subst}
use Rattle.std.specs.List.{flat_map}
use Rattle.std.proofs.lemmas.List.{append-nil, take_all}
use Rattle.irs_base.specs.Lists.{Every}

-- the lines of one more member
flat_suc : {X : Type 0} (f : X → List ℕ) (xs : List X) (i : ℕ) (d : X) → i < length xs
    → flat_map f (take (suc i) xs) ≡ flat_map f (take i xs) ++ f (get_or xs i d)
flat_suc f [] i d less = absurd (omega (arith, less))
flat_suc f (y ∷ ys) zero d less = append-nil (f y)
flat_suc f (y ∷ ys) (suc i) d less =
    ap (λ (l : List ℕ). f y ++ l) (flat_suc f ys i d (omega (arith, less)))
    ∙ sym (append_assoc (f y) (flat_map f (take i ys)) (f (get_or ys i d)))

-- the next line is appended to the others
pub lines_more : {X : Type 0} (f : X → List ℕ) (head old new line : List ℕ) (xs : List X) (i : ℕ) (d : X) → i < length xs
    → old ≡ head ++ flat_map f (take i xs) → new ≡ old ++ line → line ≡ f (get_or xs i d)
    → new ≡ head ++ flat_map f (take (i + 1) xs)
lines_more f head old new line xs i d less before grown is =
    let n : suc i ≡ i + 1 = omega arith in
    let rows = flat_map f (take i xs) in
    grown ∙ ap (λ (l : List ℕ). l ++ line) before ∙ append_assoc head rows line
    ∙ ap (λ (l : List ℕ). head ++ (rows ++ l)) is ∙ ap (λ (l : List ℕ). head ++ l) (sym (flat_suc f xs i d less))
    ∙ ap (λ (k : ℕ). head ++ flat_map f (take k xs)) n

-- all lines have been written
pub lines_whole : {X : Type 0} (f : X → List ℕ) (head text : List ℕ) (xs : List X) (i : ℕ) → length xs ≤ i
    → text ≡ head ++ flat_map f (take i xs) → text ≡ head ++ flat_map f xs
lines_whole f head text xs i more e = e ∙ ap (λ (l : List _). head ++ flat_map f l) (take_all i xs more)

-- what holds of every member holds of the one at a place
pub every_at : {X : Type 0} (P : X → Type 0) (xs : List X) (i : ℕ) (x : X) → Every P xs → i < length xs
    → x ≡ get_or xs i x → P x
every_at P [] i x h low e = absurd (omega (arith, low))
every_at P (y ∷ ys) zero x h low e = subst P (sym e) h.0
every_at P (y ∷ ys) (suc i) x h low e = every_at P ys i x h.1 (omega (arith, low)) e

-- a space and a number are appended to a line
pub number_put : {old new before : List ℕ} {k m : ℕ} → new ≡ old ++ 32 ∷ decimal k → old ≡ before → k ≡ m
    → new ≡ before ++ 32 ∷ decimal m
number_put {old} {new} {before} {k} {m} put line number =
    put ∙ ap (λ (l : List ℕ). l ++ 32 ∷ decimal k) line ∙ ap (λ (j : ℕ). before ++ 32 ∷ decimal j) number
