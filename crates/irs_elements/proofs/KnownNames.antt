-- The rows of an object's members come after its own row, so those before it need not be looked at.
use Rattle.std.proofs.Common.{◌≡◌, ℕ, zero, suc, ◌+◌, ◌<◌, ◌≤◌, nat_lt, Bool, true, false, ◌&&◌, ◌==◌, List, []}
use Rattle.std.proofs.Common.{◌∷◌, ◌∙◌, get_or, length, take, refl, sym, ap, arith}
use Rattle.std.proofs.Common.{Some}
use Rattle.std.specs.Prelude.{slice_get}
use Rattle.std.proofs.lemmas.Option.{same_Some, slice_get-get_or, slice_get_within}
use Rattle.std.proofs.lemmas.Bool.Decides.{nat_tests}
use Rattle.std.proofs.lemmas.List.{take_all}
use Rattle.std.proofs.lemmas.List.Folds.{list_any_at, list_any_more}
use Rattle.std.proofs.lemmas.List.FromFn.{get_or-enumerate_from, length-enumerate_from}
use Rattle.std.specs.List.{enumerate_from, list_any}
use Rattle.std.specs.Str.{bytes_eq}
use Rattle.irs_elements.specs.declared.table.Choice.TheVariants.{Free}
use Rattle.irs_elements.specs.declared.table.Count.TheVariants.{One}
use Rattle.irs_elements.specs.declared.table.Kind.TheVariants.{Object}
use Rattle.irs_elements.specs.declared.table.Row.{Row}
use Rattle.irs_elements.specs.Elements.{name_at}

-- a test of a row with its number
abbrev pub Test : Type 0
Test = ℕ × Row → Bool

-- no row from the number k on and below r passes a test that each of them fails
none_before : (p : Test) (r : ℕ) → ((c : ℕ) (row : Row) → c < r → p (c, row) ≡ false) → (n k : ℕ) (rows : List Row)
    → k + n ≤ r → list_any p (take n (enumerate_from k rows)) ≡ false
none_before p r fails zero k rows few = refl
none_before p r fails (suc n) k [] few = refl
none_before p r fails (suc n) k (row ∷ rows) few =
    rw (fails k row (omega (arith, few))) (none_before p r fails n (k + 1) rows (omega (arith, few)))

module _ (p : Test) (n : ℕ) (rows : List Row) (row : Row) (at : slice_get rows n ≡ Some row) where
  less : n < length rows
  less = slice_get_within rows n row at

  -- the row with the number n is the n-th
  numbered : p (get_or (enumerate_from 0 rows) n (0, row)) ≡ p (n, row)
  numbered =
      let same : 0 + n ≡ n = omega arith in
      let is : get_or rows n row ≡ row = same_Some _ _ (sym (slice_get-get_or rows n row less) ∙ at) in
      ap p (get_or-enumerate_from 0 rows n (0, row) less) ∙ ap (λ m. p (m, get_or rows n row)) same ∙ ap (λ x. p (n, x)) is

  within : n < length (enumerate_from 0 rows)
  within = rw (length-enumerate_from 0 rows) less

  -- a row that fails the test changes nothing
  pub one_more : list_any p (take n (enumerate_from 0 rows)) ≡ false → p (n, row) ≡ false
      → list_any p (take (n + 1) (enumerate_from 0 rows)) ≡ false
  one_more before fails = list_any_more p (enumerate_from 0 rows) n (0, row) within ∙ rw (before, numbered) fails

  -- a row that passes the test is found
  pub found_at : p (n, row) ≡ true → list_any p (enumerate_from 0 rows) ≡ true
  found_at passes = list_any_at p (enumerate_from 0 rows) n (0, row) within (numbered ∙ passes)

-- where all rows were looked at none is left
pub none_left : (p : Test) (n k : ℕ) (rows : List Row) → length rows ≤ n
    → list_any p (take n (enumerate_from k rows)) ≡ false → list_any p (enumerate_from k rows) ≡ false
none_left p n k rows few none =
    let all = take_all n (enumerate_from k rows) (rw (length-enumerate_from k rows) few) in
    ap (list_any p) (sym all) ∙ none

-- a row where there is none
abbrev pub some_row : Row
some_row = record { parent = 0; place = 0; kind = Object Free; count = One }

-- the row of a member of the object at row r with that name
abbrev pub IsNamed : List (List ℕ) → ℕ → List ℕ → Test
IsNamed names r name = λ (c, row). nat_lt r c && row.parent == r && bytes_eq (name_at names c) name

-- no row up to the object's own is one
pub none_up_to : (names : List (List ℕ)) (r : ℕ) (name : List ℕ) (rows : List Row)
    → list_any (IsNamed names r name) (take r (enumerate_from 0 rows)) ≡ false
none_up_to names r name rows =
    none_before (IsNamed names r name) r (λ c row less. let e : nat_lt r c ≡ false = grind (arith, nat_tests) in
    rw e refl) r 0 rows (omega arith)
