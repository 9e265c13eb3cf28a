-- Searches for the end of markup, a byte further.
use Rattle.std.proofs.Common.{◌≡◌, ℕ, suc, ◌+◌, ◌<◌, false, List, ◌∷◌, length, drop, option_map, Option, Some, None}
use Rattle.std.proofs.Common.{get_or, refl, sym, ap, arith, ◌∙◌, drop-cons, nat_eq}
use Rattle.std.specs.List.{starts_with}
use Rattle.irs_locate.specs.Lines.{past}
use Rattle.irs_locate.specs.Ways.{step_below}
use Rattle.std.proofs.lemmas.Option.{slice_get-map}
use Rattle.std.specs.Prelude.{map, slice_get}

-- one more and then i more
one_and_more : (i : ℕ) (o : Option ℕ)
    → option_map (λ n. n + i) (option_map (λ n. n + 1) o) ≡ option_map (λ n. n + (i + 1)) o
one_and_more i None = refl
one_and_more i (Some n) = let same : n + 1 + i ≡ n + (i + 1) = omega arith in rw same refl

-- a text that doesn't begin with the word has it further on
past_next : (word : List ℕ) (b : ℕ) (bs : List ℕ) → starts_with nat_eq (b ∷ bs) word ≡ false
    → past word (b ∷ bs) ≡ option_map (λ n. n + 1) (past word bs)
past_next word b bs e = rw e refl

-- so it is found further on
pub past_more : (word text : List ℕ) (i : ℕ) → i < length text → starts_with nat_eq (drop i text) word ≡ false
    → past word text ≡ option_map (λ n. n + i) (past word (drop i text))
    → past word text ≡ option_map (λ n. n + (i + 1)) (past word (drop (i + 1) text))
past_more word text i within fails so_far =
    let b : ℕ = get_or text i 0 in
    let bs : List ℕ = drop (suc i) text in
    let next : suc i ≡ i + 1 = omega arith in
    let cut : drop i text ≡ b ∷ bs = drop-cons text i 0 within in
    let here : past word (drop i text) ≡ option_map (λ n. n + 1) (past word bs) =
    ap (past word) cut ∙ past_next word b bs (sym (ap (λ (t : List ℕ). starts_with nat_eq t word) cut) ∙ fails) in
    so_far ∙ ap (option_map (λ n. n + i)) here ∙ one_and_more i (past word bs)
    ∙ ap (λ (m : ℕ). option_map (λ n. n + (i + 1)) (past word (drop m text))) next

-- a name of a path as a step
pub named : (index : ℕ) (names : List (List ℕ)) (k : ℕ) (n : List ℕ) → slice_get names k ≡ Some n
    → slice_get (map (step_below index) names) k ≡ Some (step_below index n)
named index names k n e = slice_get-map (step_below index) names k ∙ ap (option_map (step_below index)) e
