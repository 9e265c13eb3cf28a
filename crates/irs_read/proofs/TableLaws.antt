-- The code's tables are those of the specification.
use Rattle.irs_elements.specs.declared.table.Row.{Row}
use Rattle.irs_read.specs.Documents.{stream_names, stream_rows, stream_table, swap_names, swap_rows, swap_table}
use Rattle.irs_read.specs.declared.table.TheConstants.{NAMES, ROWS, SWAP_NAMES, SWAP_ROWS}
use Rattle.irs_terms.specs.Paths.{paths, printed_paths}
use Rattle.std.proofs.Common.{◌≡◌, List, map, ℕ, refl, subst}

-- the names as the code has them
abbrev pub code_names : List (List ℕ)
code_names = map (λ n. n.now) NAMES

-- the code's rows are those of the specification
pub rows_are : ROWS ≡ stream_rows
unfolding stream_rows stream_table printed_paths paths
rows_are = refl

-- the code's names are those of the specification
pub names_are : code_names ≡ stream_names
unfolding stream_names stream_table
names_are = refl

-- the rows of a swap are those of the specification
pub swap_rows_are : SWAP_ROWS ≡ swap_rows
unfolding swap_rows swap_table printed_paths paths
swap_rows_are = refl

-- the names of a swap are those of the specification
pub swap_names_are : map (λ n. n.now) SWAP_NAMES ≡ swap_names
unfolding swap_names swap_table
swap_names_are = refl

-- what holds of a table holds of one that is equal to it, as of the specification's
pub by_tables : (P : List Row → List (List ℕ) → Type 0) (rows rows' : List Row) (names names' : List (List ℕ))
    → rows ≡ rows' → names ≡ names' → P rows names → P rows' names'
by_tables P rows rows' names names' r n p =
    subst (λ (ns : List (List ℕ)). P rows' ns) n (subst (λ (rs : List Row). P rs names) r p)
