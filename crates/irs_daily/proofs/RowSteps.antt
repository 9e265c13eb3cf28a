-- Lists that are made member by member: rows, the rows of observations, and lines.
use Rattle.std.proofs.Common.{◌≡◌, ℕ, zero, suc, ◌+◌, ◌<◌, ◌≤◌, List, [], ◌∷◌, ◌++◌, length, take, get_or, refl, sym, ◌∙◌, ap, Option, ℤ}
use Rattle.std.proofs.Common.{arith, append_assoc}
use Rattle.std.specs.List.{flat_map}
use Rattle.std.proofs.lemmas.List.{append-nil, take_all}
use Rattle.irs_observed.specs.ObservedRates.{DailyRates}
use Rattle.irs_observed.specs.declared.observation.Observation.{Observation}
use Rattle.irs_daily.specs.ObservedRows.{day_row, day_rows, joined_rows}
use Rattle.irs_daily.specs.declared.rows.ObservedRow.{ObservedRow}
use Rattle.irs_daily.specs.declared.rows.ObservedRow.TheVariants.{Observed}

-- ---- lines

-- one line more
flat_suc : {X : Type 0} (f : X → List ℕ) (xs : List X) (i : ℕ) (d : X) → i < length xs
    → flat_map f (take (suc i) xs) ≡ flat_map f (take i xs) ++ f (get_or xs i d)
flat_suc f [] i d less = absurd (omega (arith, less))
flat_suc f (y ∷ ys) zero d less = append-nil (f y)
flat_suc f (y ∷ ys) (suc i) d less =
    ap (λ (l : List ℕ). f y ++ l) (flat_suc f ys i d (omega (arith, less)))
    ∙ sym (append_assoc (f y) (flat_map f (take i ys)) (f (get_or ys i d)))

-- the next line is after the others
pub lines_more : {X : Type 0} (f : X → List ℕ) (head old new line : List ℕ) (xs : List X) (i : ℕ) (d : X) → i < length xs
    → old ≡ head ++ flat_map f (take i xs) → new ≡ old ++ line → line ≡ f (get_or xs i d)
    → new ≡ head ++ flat_map f (take (i + 1) xs)
lines_more f head old new line xs i d less before grown is =
    let n : suc i ≡ i + 1 = omega arith in
    let rows = flat_map f (take i xs) in
    grown ∙ ap (λ (l : List ℕ). l ++ line) before ∙ append_assoc head rows line
    ∙ ap (λ (l : List ℕ). head ++ (rows ++ l)) is ∙ ap (λ (l : List ℕ). head ++ l) (sym (flat_suc f xs i d less))
    ∙ ap (λ (k : ℕ). head ++ flat_map f (take k xs)) n

-- all lines are there
pub lines_whole : {X : Type 0} (f : X → List ℕ) (head text : List ℕ) (xs : List X) (i : ℕ) → length xs ≤ i
    → text ≡ head ++ flat_map f (take i xs) → text ≡ head ++ flat_map f xs
lines_whole f head text xs i more e = e ∙ ap (λ (l : List _). head ++ flat_map f l) (take_all i xs more)

-- ---- rows

-- the row of the next observation
rows_suc : (daily : DailyRates) (n : ℕ) (os : List Observation) (k : ℕ) (d : Observation) → k < length os
    → day_rows daily n (take (suc k) os) ≡ day_rows daily n (take k os) ++ day_row daily n (get_or os k d) ∷ []
rows_suc daily n [] k d less = absurd (omega (arith, less))
rows_suc daily n (o ∷ os) zero d less = refl
rows_suc daily n (o ∷ os) (suc k) d less =
    ap (λ (l : List ObservedRow). day_row daily n o ∷ l) (rows_suc daily n os k d (omega (arith, less)))

-- the rows of one observation more are those before it and its own row
pub rows_more : (daily : DailyRates) (n : ℕ) (os : List Observation) (k : ℕ) (o : Observation) → k < length os
    → get_or os k o ≡ o
    → day_rows daily n (take (k + 1) os) ≡ day_rows daily n (take k os) ++ day_row daily n o ∷ []
rows_more daily n os k o less is =
    let next : suc k ≡ k + 1 = omega arith in
    ap (λ (j : ℕ). day_rows daily n (take j os)) (sym next) ∙ rows_suc daily n os k o less
    ∙ ap (λ (x : Observation). day_rows daily n (take k os) ++ day_row daily n x ∷ []) is

-- so the next row comes after the others
pub days_more : (daily : DailyRates) (n : ℕ) (os : List Observation) (k : ℕ) (o : Observation) (rate : Option ℤ)
    (rows : List ObservedRow) → k < length os → get_or os k o ≡ o → rate ≡ daily o.observed
    → rows ≡ day_rows daily n (take k os)
    → rows ++ Observed (record { number = n; observation = o; rate = rate }) ∷ [] ≡ day_rows daily n (take (k + 1) os)
days_more daily n os k o rate rows less is known before =
    let row : Option ℤ → ObservedRow = λ r. Observed (record { number = n; observation = o; rate = r }) in
    ap (λ (l : List ObservedRow). l ++ row rate ∷ []) before
    ∙ ap (λ (r : Option ℤ). day_rows daily n (take k os) ++ row r ∷ []) known ∙ sym (rows_more daily n os k o less is)

-- from the last observation on, the rows are those of all observations
pub rows_all : (daily : DailyRates) (n : ℕ) (os : List Observation) (k : ℕ) → length os ≤ k
    → day_rows daily n (take k os) ≡ day_rows daily n os
rows_all daily n os k all = ap (λ (l : List Observation). day_rows daily n l) (take_all k os all)

-- the rows of one period more
pub joined_more : (parts : List (List ObservedRow)) (rows : List ObservedRow)
    → joined_rows (parts ++ rows ∷ []) ≡ joined_rows parts ++ rows
joined_more [] rows = append-nil rows
joined_more (p ∷ parts) rows =
    ap (λ (l : List ObservedRow). p ++ l) (joined_more parts rows) ∙ sym (append_assoc p (joined_rows parts) rows)
