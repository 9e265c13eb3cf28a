-- Rows in order rise strictly, since no two have the same place.
use Rattle.std.proofs.Common.{◌≡◌, ◌⊎◌, inl, inr, ℕ, zero, suc, ◌+◌, ◌<◌, ◌≤◌, Bool, true, cond, eqb, List, [], ◌∷◌}
use Rattle.std.proofs.Common.{Option, Some, None, ℤ, ◌<ℤ◌, arith, refl, sym, subst, ap, ap₂, ◌∙◌, get_or, Ordering}
use Rattle.std.specs.List.{count_by}
use Rattle.std.specs.List.Sorted.{IsPermutation, IsSorted}
use Rattle.std.proofs.lemmas.Bool.{both_ways, cases_Bool, cases_order, eq-eqb, eqb-true, ne_eqb}
use Rattle.std.proofs.lemmas.List.Sorted.{ranks_by, sorted_far, sum_by-IsPermutation}
use Rattle.std.proofs.lemmas.Option.{get_or_from_slice_get, none-some, same_Some, slice_get_within}
use Rattle.std.proofs.lemmas.Cmp.{by_ranked, int_cmp_total, int_ranked, nat_cmp_total, on_total, ranked, then_total}
use Rattle.std.specs.Cmp.{IsTotalOrder}
use Rattle.std.specs.Ordering.{int_cmp, is_lt, nat_cmp, on, ordering_then, then_cmp}
use Rattle.jiff_core.proofs.SignedLemmas.{signed_arith}
use Rattle.irs_breaks.specs.Pairing.{At, dated_row, in_front, is_due, rows_from}
use Rattle.irs_breaks.specs.Private.Blocks.{AreRising, IsEarlier}
use Rattle.irs_breaks.specs.declared.dated.DatedRow.{DatedRow}
use Rattle.irs_breaks.proofs.RowLemmas.{counted, counted_none, counted_one}

-- where a member passes a test, at least one is counted
pub one_passes : {X : Type 0} (p : X → Bool) (xs : List X) (k : ℕ) (x : X) → At xs k x → p x ≡ true → 1 ≤ count_by p xs
one_passes p [] k x at h = absurd (none-some x at)
one_passes p (y ∷ ys) zero x at h =
    let e = counted_one p y ys (subst (λ z. p z ≡ true) (sym (same_Some y x at)) h) in omega (arith, e)
one_passes p (y ∷ ys) (suc k) x at h =
    let rest = one_passes p ys k x at h in
    let e = counted p y ys in omega (arith, rest, e)

-- where two members pass a test, at least two are counted
pub two_pass : {X : Type 0} (p : X → Bool) (xs : List X) (k l : ℕ) (x y : X) → k < l → At xs k x → At xs l y → p x ≡ true
    → p y ≡ true → 2 ≤ count_by p xs
two_pass p [] k l x y less a b h g = absurd (none-some x a)
two_pass p (z ∷ zs) zero zero x y less a b h g = absurd (omega (arith, less))
two_pass p (z ∷ zs) zero (suc l) x y less a b h g =
    let e = counted_one p z zs (subst (λ w. p w ≡ true) (sym (same_Some z x a)) h) in
    let rest = one_passes p zs l y b g in omega (arith, rest, e)
two_pass p (z ∷ zs) (suc k) zero x y less a b h g = absurd (omega (arith, less))
two_pass p (z ∷ zs) (suc k) (suc l) x y less a b h g =
    let rest = two_pass p zs k l x y (omega (arith, less)) a b h g in
    let e = counted p z zs in omega (arith, rest, e)

-- whether a row has this place in its list
abbrev has_place : ℕ → DatedRow → Bool
has_place k r = eqb r.place k

-- a row with a later place adds nothing to the count of the rows at place k
front_none : (k n : ℕ) (from : ℤ) (date : Option ℤ) (rows : List DatedRow) → k < n
    → count_by (has_place k) (in_front (dated_row from date n) rows) ≡ count_by (has_place k) rows
front_none k n from None rows h = refl
front_none k n from (Some d) rows h = elim (cases_Bool (is_due from d)) [
  | inl holds ↦ rw holds (counted_none (has_place k) (record { day = d; place = n }) rows (ne_eqb n k (λ e. omega (arith, h, e))))
  | inr fails ↦ rw fails refl
]

none_below : (from : ℤ) (k n : ℕ) (dates : List (Option ℤ)) → k < n
    → count_by (has_place k) (rows_from from n dates) ≡ 0
unfolding rows_from
none_below from k n [] h = refl
none_below from k n (date ∷ dates) h =
    front_none k n from date (rows_from from (n + 1) dates) h ∙ none_below from k (n + 1) dates (omega (arith, h))

front_few : (k n : ℕ) (from : ℤ) (date : Option ℤ) (rows : List DatedRow) → count_by (has_place k) rows ≤ 1
    → (k ≡ n → count_by (has_place k) rows ≡ 0) → count_by (has_place k) (in_front (dated_row from date n) rows) ≤ 1
front_few k n from None rows few none = few
front_few k n from (Some d) rows few none = elim (cases_Bool (is_due from d)) [
  | inl holds ↦ elim (cases_Bool (eqb n k)) [
    | inl same ↦
        let z = none (sym (eqb-true n k same)) in
        let one = counted_one (has_place k) (record { day = d; place = n }) rows same in
        rw holds (omega (arith, z, one))
    | inr apart ↦
        let one = counted_none (has_place k) (record { day = d; place = n }) rows apart in rw holds (omega (arith, few, one))
  ]
  | inr fails ↦ rw fails few
]

few_places : (from : ℤ) (k n : ℕ) (dates : List (Option ℤ)) → count_by (has_place k) (rows_from from n dates) ≤ 1
unfolding rows_from
few_places from k n [] = omega arith
few_places from k n (date ∷ dates) =
    front_few k n from date (rows_from from (n + 1) dates) (few_places from k (n + 1) dates)
    (λ e. none_below from k (n + 1) dates (omega (arith, e)))

cases_days : (c d : ℤ) → (c <ℤ d) ⊎ ((d <ℤ c) ⊎ (c ≡ d))
cases_days c d = grind (arith, signed_arith)

-- rows of the dates rise strictly where no row comes before an earlier one of the list
pub rising_rows : (from : ℤ) (dates : List (Option ℤ)) (rows : List DatedRow)
    → IsPermutation (rows_from from 0 dates) rows
    → ((p q : ℕ) (x y : DatedRow) → p < q → At rows p x → At rows q y → ¬ (IsEarlier y x)) → AreRising rows
rising_rows from dates rows moved sorted p q x y less a b =
    let after = sorted p q x y less a b in
    elim (cases_days x.day y.day) [
      | inl day ↦ inl day
      | inr rest ↦ elim rest [
        | inl day ↦ absurd (after (inl day))
        | inr same ↦ elim (cases_order x.place y.place) [
          | inl one ↦
              let two = two_pass (has_place y.place) rows p q x y less a b (eq-eqb x.place y.place one)
              (eq-eqb y.place y.place refl) in
              let few = few_places from y.place 0 dates in
              let e : count_by (has_place y.place) rows ≡ count_by (has_place y.place) (rows_from from 0 dates) =
              sum_by-IsPermutation (λ (r : DatedRow). cond (has_place y.place r) 1 0) (rows_from from 0 dates) rows moved in
              absurd (omega (arith, two, few, e))
          | inr two ↦ elim two [
            | inl place ↦ inr (same, place)
            | inr place ↦ absurd (after (inr (sym same, place)))
          ]
        ]
      ]
    ]

-- ---- the order of the rows' own comparison

-- rows are compared by date, then by place
abbrev row_cmp : DatedRow → DatedRow → Ordering
row_cmp = then_cmp (on (λ (r : DatedRow). r.day) int_cmp) (on (λ (r : DatedRow). r.place) nat_cmp)

row_order : IsTotalOrder row_cmp
row_order =
    then_total (on_total (λ (r : DatedRow). r.day) int_cmp_total) (on_total (λ (r : DatedRow). r.place) nat_cmp_total)

day_less : (a b : ℤ) (o : Ordering) → a <ℤ b → is_lt (ordering_then (int_cmp a b) o) ≡ true
day_less a b o h = by_ranked (a <ℤ b) (a ≡ b) (b <ℤ a) (int_cmp a b) (int_ranked a b (int_cmp a b) refl)
    (λ e less. ap (λ (c : Ordering). is_lt (ordering_then c o)) e)
    (λ e same. absurd (omega (arith, signed_arith, h, same)))
    (λ e more. absurd (omega (arith, signed_arith, h, more)))

place_less : (a b : ℤ) (m n : ℕ) → a ≡ b → m < n → is_lt (ordering_then (int_cmp a b) (nat_cmp m n)) ≡ true
place_less a b m n h k = by_ranked (a <ℤ b) (a ≡ b) (b <ℤ a) (int_cmp a b) (int_ranked a b (int_cmp a b) refl)
    (λ e less. absurd (omega (arith, signed_arith, h, less)))
    (λ e same. ap (λ (c : Ordering). is_lt (ordering_then c (nat_cmp m n))) e
    ∙ by_ranked (m < n) (m ≡ n) (n < m) (nat_cmp m n) (ranked m n (nat_cmp m n) refl)
    (λ f less. ap is_lt f) (λ f other. absurd (omega (arith, k, other))) (λ f more. absurd (omega (arith, k, more))))
    (λ e more. absurd (omega (arith, signed_arith, h, more)))

earlier_less : (x y : DatedRow) → IsEarlier x y → is_lt (row_cmp x y) ≡ true
earlier_less x y (inl h) = day_less x.day y.day (nat_cmp x.place y.place) h
earlier_less x y (inr h) = place_less x.day y.day x.place y.place h.0 h.1

-- the sorted rows of the dates rise strictly
pub sorted_rows : (from : ℤ) (dates : List (Option ℤ)) (old rows : List DatedRow) → old ≡ rows_from from 0 dates
    → IsPermutation old rows → IsSorted row_cmp rows → AreRising rows
sorted_rows from dates old rows is moved sorted =
    rising_rows from dates rows (subst (λ (z : List DatedRow). IsPermutation z rows) is moved)
    (λ p q x y less atx aty earlier.
    let high = slice_get_within rows q y aty in
    let far = sorted_far (λ (a b : DatedRow). is_lt (row_cmp a b)) (ranks_by row_order (λ (r : DatedRow). r)) rows sorted
    p q x (omega (arith, less)) high in
    let e : get_or rows q x ≡ y = get_or_from_slice_get rows q y x aty in
    let f : get_or rows p x ≡ x = get_or_from_slice_get rows p x x atx in
    both_ways _ (ap₂ (λ (a b : DatedRow). is_lt (row_cmp a b)) (sym e) (sym f) ∙ far) (earlier_less y x earlier))
