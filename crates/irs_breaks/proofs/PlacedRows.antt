-- The places of paired rows are places of the lists; the rows of a list that is paired with itself.
use Rattle.std.proofs.Common.{◌≡◌, inl, inr, ℕ, zero, suc, ◌+◌, ◌<◌, ◌≤◌, true, List, [], ◌∷◌, length, map}
use Rattle.std.proofs.Common.{Option, Some, None, ℤ, arith, refl, sym, subst, ap, ◌∙◌}
use Rattle.std.specs.List.{Contains}
use Rattle.std.proofs.lemmas.Bool.{cases_Bool}
use Rattle.std.proofs.lemmas.Option.{none-some, slice_get_within, same_Some}
use Rattle.irs_base.specs.Lists.{Every}
use Rattle.irs_base.proofs.MemberLemmas.{every_get}
use Rattle.irs_breaks.specs.Pairing.{At, dated_row, in_front, is_due, rows_from, IsListedRow, IsPairing, IsPlacedRow}
use Rattle.irs_breaks.specs.Pairing.{row_of_ours, extra, missing, paired, undated, undated_extra, ArePaired}
use Rattle.irs_breaks.specs.Pairing.{are_together, has_date}
use Rattle.irs_breaks.specs.declared.dated.DatedRow.{DatedRow}
use Rattle.irs_breaks.specs.declared.dated.PairedRow.{PairedRow}
use Rattle.irs_breaks.proofs.BlockLemmas.{at_contains}
use Rattle.irs_breaks.proofs.Merging.{contains_at}
use Rattle.irs_breaks.proofs.PairLaws.{one_partner}
use Rattle.irs_breaks.proofs.RowLemmas.{any_at, true_eq}

-- what holds of the member at each place holds of every member
pub every_at : {X : Type 0} (P : X → Type 0) (xs : List X) → ((k : ℕ) (x : X) → At xs k x → P x) → Every P xs
every_at P [] h = tt
every_at P (x ∷ xs) h = (h zero x refl, every_at P xs (λ k y at. h (suc k) y at))

-- the place of a row is below a bound
abbrev IsBelow : ℕ → DatedRow → Type 0
IsBelow bound r = r.place < bound

front_below : (from : ℤ) (n bound : ℕ) (date : Option ℤ) (rows : List DatedRow) → n < bound → Every (IsBelow bound) rows
    → Every (IsBelow bound) (in_front (dated_row from date n) rows)
front_below from n bound None rows low h = h
front_below from n bound (Some d) rows low h = elim (cases_Bool (is_due from d)) [
  | inl holds ↦ rw holds (low, h)
  | inr fails ↦ rw fails h
]

rows_below : (from : ℤ) (n bound : ℕ) (dates : List (Option ℤ)) → n + length dates ≤ bound
    → Every (IsBelow bound) (rows_from from n dates)
unfolding rows_from
rows_below from n bound [] h = tt
rows_below from n bound (date ∷ dates) h =
    front_below from n bound date (rows_from from (n + 1) dates) (omega (arith, h))
    (rows_below from (n + 1) bound dates (omega (arith, h)))

below : (from : ℤ) (dates : List (Option ℤ)) (r : DatedRow) → Contains (rows_from from 0 dates) r → r.place < length dates
below from dates r c =
    let at = at_contains (rows_from from 0 dates) r c in
    every_get (IsBelow (length dates)) (rows_from from 0 dates) at.0 r (rows_below from 0 (length dates) dates (omega arith)) at.1

listed_placed : (from : ℤ) (ours theirs : List (Option ℤ)) (m : PairedRow) → IsListedRow from ours theirs m
    → IsPlacedRow (length ours) (length theirs) m
listed_placed from ours theirs m (paired x y pair is) =
    subst (IsPlacedRow (length ours) (length theirs)) (sym is)
    (record { of_ours = below from ours x pair.one_of_ours; of_theirs = below from theirs y pair.one_of_theirs })
listed_placed from ours theirs m (missing x inside alone is) =
    subst (IsPlacedRow (length ours) (length theirs)) (sym is) (record { of_ours = below from ours x inside; of_theirs = tt })
listed_placed from ours theirs m (extra y inside alone is) =
    subst (IsPlacedRow (length ours) (length theirs)) (sym is) (record { of_ours = tt; of_theirs = below from theirs y inside })
listed_placed from ours theirs m (undated n at is) =
    subst (IsPlacedRow (length ours) (length theirs)) (sym is)
    (record { of_ours = slice_get_within ours n None at; of_theirs = tt })
listed_placed from ours theirs m (undated_extra n at is) =
    subst (IsPlacedRow (length ours) (length theirs)) (sym is)
    (record { of_ours = tt; of_theirs = slice_get_within theirs n None at })

-- the places of the rows of a pairing are places of the two lists
pub rows_placed : (from : ℤ) (ours theirs : List (Option ℤ)) (rows : List PairedRow) → IsPairing from ours theirs rows
    → Every (IsPlacedRow (length ours) (length theirs)) rows
rows_placed from ours theirs rows h =
    every_at (IsPlacedRow (length ours) (length theirs)) rows
    (λ k m at. listed_placed from ours theirs m (h.sound m (contains_at rows k m at)))

-- ---- a list that is paired with itself

own_date : (rows : List DatedRow) (x : DatedRow) → Contains rows x → has_date rows x.day ≡ true
own_date rows x c =
    let at = at_contains rows x c in any_at _ rows at.0 x at.1 (true_eq x.day x.day refl)

own_together : (rows : List DatedRow) (x : DatedRow) → Contains rows x → are_together rows rows x.day x.day ≡ true
own_together rows x c =
    let there = own_date rows x c in
    rw there (true_eq x.day x.day refl)

paired_with_itself : (rows : List DatedRow) (x : DatedRow) → Contains rows x → ArePaired rows rows x x
paired_with_itself rows x c = record {
  one_of_ours = c;
  one_of_theirs = c;
  together = own_together rows x c;
  even = λ _. refl;
  same_rank = refl;
}

-- a row of ours and one of theirs at one place, with a date
abbrev pub same_row : ℕ → ℤ → PairedRow
same_row n d = record { day = Some d; ours = Some n; theirs = Some n }

-- a pair of rows at the same place, with a date, below this count
pub record IsSameRow (count : ℕ) (m : PairedRow) : Type 0 where
  pub place : ℕ
  pub day : ℤ
  pub within : place < count
  pub is : m ≡ same_row place day

all_dated : (days : List ℤ) (n : ℕ) → At (map (λ (d : ℤ). Some d) days) n None → ⊥
all_dated [] n at = none-some None at
all_dated (d ∷ days) zero at = none-some d (sym (same_Some (Some d) None at))
all_dated (d ∷ days) (suc n) at = all_dated days n at

listed_same : (from : ℤ) (days : List ℤ) (m : PairedRow)
    → IsListedRow from (map (λ (d : ℤ). Some d) days) (map (λ (d : ℤ). Some d) days) m
    → IsSameRow (length (map (λ (d : ℤ). Some d) days)) m
listed_same from days m (paired x y pair is) =
    let dates = map (λ (d : ℤ). Some d) days in
    let rows = rows_from from 0 dates in
    let same : y ≡ x = one_partner rows rows x y x pair (paired_with_itself rows x pair.one_of_ours) in
    record {
      place = x.place;
      day = x.day;
      within = below from dates x pair.one_of_ours;
      is = is ∙ ap (λ (z : DatedRow). row_of_ours x (Some z.place)) same;
    }
listed_same from days m (missing x inside alone is) =
    absurd (alone x (paired_with_itself (rows_from from 0 (map (λ (d : ℤ). Some d) days)) x inside))
listed_same from days m (extra y inside alone is) =
    absurd (alone y (paired_with_itself (rows_from from 0 (map (λ (d : ℤ). Some d) days)) y inside))
listed_same from days m (undated n at is) = absurd (all_dated days n at)
listed_same from days m (undated_extra n at is) = absurd (all_dated days n at)

-- where theirs has the dates of ours, each row of ours is paired with that of theirs at its place
pub same_rows : (from : ℤ) (days : List ℤ) (ours theirs : List (Option ℤ)) (rows : List PairedRow)
    → ours ≡ map (λ (d : ℤ). Some d) days → theirs ≡ map (λ (d : ℤ). Some d) days → IsPairing from ours theirs rows
    → (k : ℕ) (m : PairedRow) → At rows k m → IsSameRow (length ours) m
same_rows from days ours theirs rows e f h k m at =
    let dates = map (λ (d : ℤ). Some d) days in
    let listed : IsListedRow from dates dates m =
    subst (λ (z : List (Option ℤ)). IsListedRow from z dates m) e
    (subst (λ (z : List (Option ℤ)). IsListedRow from ours z m) f (h.sound m (contains_at rows k m at))) in
    subst (λ (z : List (Option ℤ)). IsSameRow (length z) m) (sym e) (listed_same from days m listed)
