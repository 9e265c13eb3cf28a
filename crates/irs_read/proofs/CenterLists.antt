-- Lists of centres: those of clean streams say names, and no others.
use Prim.Native.String.{String}
use Rattle.irs_base.{proofs.EveryLemmas.every_both, specs.Limits.most_centers, specs.Lists.Every}
use Rattle.irs_elements.specs.{Elements.member, declared.table.Count.TheVariants.OneTo}
use Rattle.irs_read.proofs.Clean.{required_at}
use Rattle.irs_read.proofs.ReadParts.{RowFacts, Whole, center_names, each, leaf, named}
use Rattle.irs_read.proofs.Rows.{At, AtMost, Path, facts, most_of, row_of}
use Rattle.irs_read.proofs.Tells.{Told, perhaps, told}
use Rattle.irs_read.specs.Readings.{has_id, lists_in, lists_of, the_one}
use Rattle.irs_read.specs.{StreamElements.center_list, declared.table.TheConstants.ROWS}
use Rattle.irs_terms.specs.Lawful.{IsLawfulNames}
use Rattle.serde_json.specs.Data.{Data}
use Rattle.std.proofs.Common.{count_by, find, Option, Some, None, slice_get, codes, refl, if◌then◌else◌, ◌≡◌, ℕ}
use Rattle.std.proofs.Common.{suc, Bool, true, false, ◌==◌, List, [], ◌∷◌, ◌++◌, ap, cond, drop, get_or, map}
use Rattle.std.specs.Option.{option_flatten}

-- a list of centres
abbrev pub list_reads : Whole center_list.says IsLawfulNames
list_reads = each "businessCenter" (OneTo most_centers) (leaf center_names)

-- a list of centres, if there is one, says lawful names
abbrev pub GoodList : Option Data → Type 0
GoodList o = Told center_list.says IsLawfulNames o

-- so does each of several
abbrev pub GoodLists : List (Option Data) → Type 0
GoodLists = Every GoodList

-- ---- the lists of a stream

-- the value at the end of a path
abbrev end_of : Path → Data → Option Data
end_of [] d = Some d
end_of (name ∷ p) d = member (codes name) (end_of p d)

-- the facts of the rows on the way to the end of a path
abbrev on_way : (Path → String → RowFacts) → Path → List RowFacts
on_way of [] = []
on_way of (name ∷ p) = of p name ∷ on_way of p

-- what is found of the rows on the way to a list of centres and of those in it, and what is stated of them
abbrev rows_found : Path → List RowFacts × list_reads.Facts
rows_found p = (on_way (λ p name. facts p (row_of (name ∷ p))) p, list_reads.found p)

abbrev rows_stated : Path → List RowFacts × list_reads.Facts
rows_stated p =
    (on_way (λ p name. named p name (required_at (slice_get ROWS (row_of (name ∷ p))))) p, list_reads.stated p)

-- what is at the end of a way by members is clean
clean_end : (p : Path) → (rows_found p).0 ≡ (rows_stated p).0 → (d : Data) → At [] d → AtMost p (end_of p d)
clean_end [] way d clean = clean
clean_end (name ∷ p) way d clean =
    perhaps p name (ap (λ l. get_or l 0 (named p name false)) way) (end_of p d) (clean_end p (ap (drop 1) way) d clean)

-- the lists at the ends of several paths
good_ends : (ps : List Path) → map rows_found ps ≡ map rows_stated ps → (d : Data) → At [] d
    → GoodLists (map (λ p. end_of p d) ps)
good_ends [] e d clean = tt
good_ends (p ∷ ps) e d clean =
    let here = ap (λ l. get_or l 0 (rows_stated p)) e in
    let way = clean_end p (ap (λ t. t.0) here) d clean in
    (told (list_reads.tells p (ap (λ t. t.1) here)) (end_of p d) way, good_ends ps (ap (drop 1) e) d clean)

lists_good : (d : Data) → At [] d → GoodLists (lists_in d)
unfolding facts row_of most_of
lists_good d clean =
    let in_dates : Path → Path = λ p. "businessCenters" ∷ p ++ "calculationPeriodDates" ∷ [] in
    let in_resets : Path → Path = λ p. "businessCenters" ∷ p ++ "resetDates" ∷ [] in
    good_ends (in_dates ("dateAdjustments" ∷ "effectiveDate" ∷ [])
    ∷ in_dates ("dateAdjustments" ∷ "terminationDate" ∷ [])
    ∷ in_dates ("calculationPeriodDatesAdjustments" ∷ [])
    ∷ in_dates ("dateAdjustments" ∷ "firstPeriodStartDate" ∷ [])
    ∷ ("businessCenters" ∷ "paymentDatesAdjustments" ∷ "paymentDates" ∷ [])
    ∷ in_resets ("fixingDates" ∷ [])
    ∷ in_resets ("resetDatesAdjustments" ∷ []) ∷ []) refl d clean

-- the lists of centres of clean streams
pub all_good : (ds : List Data) → ((j : ℕ) (x : Data) → slice_get ds j ≡ Some x → At [] x) → GoodLists (lists_of ds)
all_good [] clean = tt
all_good (d ∷ ds) clean =
    every_both GoodList (lists_in d) (lists_of ds) (lists_good d (clean 0 d refl))
    (all_good ds (λ j x e. clean (suc j) x e))

-- ---- the list that a reference names

good_found : (p : Option Data → Bool) (lists : List (Option Data)) → GoodLists lists
    → GoodList (option_flatten (find p lists))
good_found p [] g = tt
good_found p (o ∷ os) g =
    elim (p o) as (λ b. GoodList (option_flatten (cond b (Some o) (find p os))))
    [ true ↦ g.0 | false ↦ good_found p os g.1 ]

-- the list that a text names
pub one_good : (id : List ℕ) (lists : List (Option Data)) → GoodLists lists → GoodList (the_one id lists)
one_good id lists g =
    elim (count_by (has_id id) lists == 1) as (λ b. GoodList (if b then option_flatten (find (has_id id) lists) else None))
    [ true ↦ good_found (has_id id) lists g | false ↦ tt ]
