-- An element has at most one row in the tables.
use Rattle.std.proofs.Common.{◌≡◌, ℕ, zero, suc, ◌<◌, ◌≤◌, Bool, true, false, ◌&&◌, ◌==◌, List, [], ◌∷◌, Some}
use Rattle.std.proofs.Common.{refl, ap, subst, sym, arith}
use Rattle.std.specs.Prelude.{if◌then◌else◌, nat_lt}
use Rattle.std.proofs.lemmas.Bool.Decides.{nat_tests}
use Rattle.std.proofs.lemmas.Option.{same_Some}
use Rattle.irs_base.proofs.Orders.{both_true}
use Rattle.irs_terms.specs.Elements.{swap}
use Rattle.irs_terms.specs.Paths.{paths, printed_paths}
use Rattle.irs_elements.specs.Elements.{is_element}
use Rattle.irs_elements.specs.declared.table.Row.{Row}
use Rattle.irs_locate.specs.Ways.{IsRowOf, Known, is_row_of, table_of}
use Rattle.irs_read.specs.Documents.{stream_names, stream_rows, stream_table, swap_names, swap_rows, swap_table}

-- whether the places of the rows of elements rise, from above a place
abbrev rises : ℕ → List Row → Bool
rises p [] = true
rises p (row ∷ rows) = if is_element row.kind then nat_lt p row.place && rises row.place rows else rises p rows

-- they do in both tables
streams_rise : rises 0 stream_rows ≡ true
unfolding stream_rows stream_table printed_paths paths
streams_rise = refl

swaps_rise : rises 0 swap_rows ≡ true
unfolding swap_rows swap_table printed_paths paths
swaps_rise = refl

-- the place of the first row, if it is that of an element
first_place : (row found : Row) (e : ℕ) → Some row ≡ Some found → is_row_of e found ≡ true
    → (row.place ≡ e) × (is_element row.kind ≡ true)
first_place row found e at is =
    let same = same_Some row found at in
    let row_is : is_row_of e row ≡ true = subst (λ (z : Row). is_row_of e z ≡ true) (sym same) is in
    let both = both_true (row.place == e) (is_element row.kind) row_is in
    let place : row.place ≡ e = grind (arith, nat_tests, both.0) in
    (place, both.1)

-- the rows after one of an element have greater places
after_element : (b : Bool) (p q : ℕ) (rows : List Row) → b ≡ true
    → (if b then nat_lt p q && rises q rows else rises p rows) ≡ true → (p < q) × (rises q rows ≡ true)
after_element true p q rows is rising =
    let both = both_true (nat_lt p q) (rises q rows) rising in
    let less : p < q = grind (arith, nat_tests, both.0) in
    (less, both.1)
after_element false p q rows is rising = absurd cc

-- whatever the first row is, the rows after it rise from above some place that isn't less
after_first : (b : Bool) (p q : ℕ) (rows : List Row) → (if b then nat_lt p q && rises q rows else rises p rows) ≡ true
    → (m : ℕ) × ((p ≤ m) × (rises m rows ≡ true))
after_first true p q rows rising =
    let both = both_true (nat_lt p q) (rises q rows) rising in
    let less : p ≤ q = grind (arith, nat_tests, both.0) in
    (q, (less, both.1))
after_first false p q rows rising = (p, (omega arith, rising))

-- the place of each row of an element is above
above : (rows : List Row) (p e r : ℕ) → rises p rows ≡ true → IsRowOf rows e r → p < e
above [] p e r rising (found, (at, is)) = absurd cc
above (row ∷ rows) p e zero rising (found, (at, is)) =
    let first = first_place row found e at is in
    let less = (after_element (is_element row.kind) p row.place rows first.1 rising).0 in
    omega (arith, less, first.0)
above (row ∷ rows) p e (suc r) rising (found, (at, is)) =
    let next = after_first (is_element row.kind) p row.place rows rising in
    let less = above rows next.0 e r next.1.1 (found, (at, is)) in
    let least = next.1.0 in
    omega (arith, less, least)

-- so no later row has the same place
none_later : (row found : Row) (rows : List Row) (p e s : ℕ) → rises p (row ∷ rows) ≡ true → Some row ≡ Some found
    → is_row_of e found ≡ true → IsRowOf rows e s → ⊥
none_later row found rows p e s rising at is later =
    let first = first_place row found e at is in
    let less = above rows row.place e s (after_element (is_element row.kind) p row.place rows first.1 rising).1 later in
    omega (arith, less, first.0)

-- two rows of an element are one
one_rising : (rows : List Row) (p e r s : ℕ) → rises p rows ≡ true → IsRowOf rows e r → IsRowOf rows e s → r ≡ s
one_rising [] p e r s rising (found, (at, is)) other = absurd cc
one_rising (row ∷ rows) p e zero zero rising one other = refl
one_rising (row ∷ rows) p e zero (suc s) rising (found, (at, is)) other =
    absurd (none_later row found rows p e s rising at is other)
one_rising (row ∷ rows) p e (suc r) zero rising one (found, (at, is)) =
    absurd (none_later row found rows p e r rising at is one)
one_rising (row ∷ rows) p e (suc r) (suc s) rising one other =
    let next = after_first (is_element row.kind) p row.place rows rising in
    ap suc (one_rising rows next.0 e r s next.1.1 one other)

-- the table of an element is one of the two
abbrev Rises : Known → Type 0
Rises t = rises 0 t.rows ≡ true

rising_by : (b : Bool) → Rises (if b then record { rows = swap_rows; names = swap_names } else
    record { rows = stream_rows; names = stream_names })
rising_by true = swaps_rise
rising_by false = streams_rise

table_rises : (elem : ℕ) → rises 0 (table_of elem).rows ≡ true
unfolding table_of
table_rises elem = rising_by (elem == swap)

-- an element has at most one row in its table
pub one_row : (elem r s : ℕ) → IsRowOf (table_of elem).rows elem r → IsRowOf (table_of elem).rows elem s → r ≡ s
one_row elem r s one other = one_rising (table_of elem).rows 0 elem r s (table_rises elem) one other
