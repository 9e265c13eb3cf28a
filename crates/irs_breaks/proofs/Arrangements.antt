-- The pairing depends neither on the order of the rows of a list nor on which list is called ours.
use Rattle.std.proofs.Common.{◌≡◌, inl, inr, ℕ, ◌+◌, Bool, ◌&&◌, cond, List, [], ◌∷◌, ℤ, refl, sym, ap, ◌∙◌}
use Rattle.std.specs.List.{count_by}
use Rattle.std.specs.List.Sorted.{IsPermutation}
use Rattle.std.specs.Ordering.{int_eq}
use Rattle.std.proofs.lemmas.Bool.{both_ways, cases_Bool}
use Rattle.std.proofs.lemmas.List.Sorted.{Contains-permutation, IsPermutation-sym, list_any-IsPermutation, sum_by-IsPermutation}
use Rattle.irs_breaks.specs.Private.Blocks.{AreTogether, IsCommon}
use Rattle.irs_breaks.specs.Pairing.{row_before, ArePaired, are_together, has_date, is_common, rank_at, size_at}
use Rattle.irs_breaks.specs.declared.dated.DatedRow.{DatedRow}
use Rattle.irs_breaks.proofs.DateLemmas.{common_false, common_true, false_common, together_alike, together_back, together_false}
use Rattle.irs_breaks.proofs.DateLemmas.{together_more, together_true, true_common, true_together}
use Rattle.irs_breaks.proofs.RowLemmas.{counted}

-- two tests with the same results count the same number of members
pub count_same : {X : Type 0} (p q : X → Bool) (xs : List X) → ((x : X) → p x ≡ q x) → count_by p xs ≡ count_by q xs
count_same p q [] h = refl
count_same p q (x ∷ xs) h =
    counted p x xs ∙ ap (λ (b : Bool). cond b 1 0 + count_by p xs) (h x)
    ∙ ap (λ (n : ℕ). cond (q x) 1 0 + n) (count_same p q xs h) ∙ sym (counted q x xs)

-- two pairs of lists have the same common dates
pub record HaveSameDates (s t u v : List DatedRow) : Type 0 where
  pub to : (d : ℤ) → IsCommon s t d → IsCommon u v d
  pub back : (d : ℤ) → IsCommon u v d → IsCommon s t d

same_together : (s t u v : List DatedRow) (a b : ℤ) → HaveSameDates s t u v → AreTogether s t a b → AreTogether u v a b
same_together s t u v a b same (inl h) = inl (same.to a h.0, h.1)
same_together s t u v a b same (inr h) = inr (record {
  left = λ c. h.left (same.back a c);
  right = λ c. h.right (same.back b c);
  uncut = λ d c between. h.uncut d (same.back d c) between;
})

same_back : (s t u v : List DatedRow) → HaveSameDates s t u v → HaveSameDates u v s t
same_back s t u v same = record { to = same.back; back = same.to }

-- where two dates belong together, a third one belongs with either of them, in either of two pairs of lists
tests_same : (s t u v : List DatedRow) (a b d : ℤ) → HaveSameDates s t u v → AreTogether s t a b
    → are_together s t a d ≡ are_together u v b d
tests_same s t u v a b d same tog = elim (cases_Bool (are_together s t a d)) [
  | inl holds ↦
      let here = together_more s t b a d (together_back s t a b tog) (together_true s t a d holds) in
      holds ∙ sym (true_together u v b d (same_together s t u v b d same here))
  | inr fails ↦ fails ∙ sym (together_false u v b d (λ h. both_ways _ fails
      (true_together s t a d (together_more s t a b d tog (same_together u v s t b d (same_back s t u v same) h)))))
]

sizes_same : (s t u v rows : List DatedRow) (a b : ℤ) → HaveSameDates s t u v → AreTogether s t a b
    → size_at (are_together s t) rows a ≡ size_at (are_together u v) rows b
sizes_same s t u v rows a b same tog =
    count_same (λ (r : DatedRow). are_together s t a r.day) (λ (r : DatedRow). are_together u v b r.day) rows
    (λ r. tests_same s t u v a b r.day same tog)

-- a row has the same rank for dates that belong together, in pairs of lists with the same common dates
pub ranks_same : (s t u v rows : List DatedRow) (a b : ℤ) (x : DatedRow) → HaveSameDates s t u v → AreTogether s t a b
    → rank_at (are_together s t) rows a x ≡ rank_at (are_together u v) rows b x
ranks_same s t u v rows a b x same tog =
    count_same (λ (r : DatedRow). are_together s t a r.day && row_before r x)
    (λ (r : DatedRow). are_together u v b r.day && row_before r x) rows
    (λ r. ap (λ (c : Bool). c && row_before r x) (tests_same s t u v a b r.day same tog))

-- a pair of lists has the same common dates as itself
pub same_dates : (s t : List DatedRow) → HaveSameDates s t s t
same_dates s t = record { to = λ d c. c; back = λ d c. c }

-- ---- which list is called ours

swapped : (s t : List DatedRow) → HaveSameDates s t t s
swapped s t = record { to = λ d c. (c.1, c.0); back = λ d c. (c.1, c.0) }

-- a pair is also a pair with ours and theirs exchanged
pub swap_paired : (s t : List DatedRow) (x y : DatedRow) → ArePaired s t x y → ArePaired t s y x
swap_paired s t x y h =
    let tog = together_true s t x.day y.day h.together in
    let same = swapped s t in
    record {
      one_of_ours = h.one_of_theirs;
      one_of_theirs = h.one_of_ours;
      together = true_together t s y.day x.day (same_together s t t s y.day x.day same (together_back s t x.day y.day tog));
      even = λ uncommon.
          sym (sizes_same s t t s t x.day y.day same tog)
          ∙ sym (h.even (false_common s t x.day
          (λ c. common_false t s y.day uncommon (same.to y.day (together_alike s t x.day y.day tog c)))))
          ∙ sizes_same s t t s s x.day y.day same tog;
      same_rank = sym (ranks_same s t t s t x.day y.day y same tog) ∙ sym h.same_rank
          ∙ ranks_same s t t s s x.day y.day x same tog;
    }

-- ---- the order of the rows

arranged : (r s p t : List DatedRow) → IsPermutation r s → IsPermutation p t → HaveSameDates r p s t
arranged r s p t a b =
    let ours : (d : ℤ) → has_date r d ≡ has_date s d =
    λ d. list_any-IsPermutation (λ (z : DatedRow). int_eq z.day d) r s a in
    let theirs : (d : ℤ) → has_date p d ≡ has_date t d =
    λ d. list_any-IsPermutation (λ (z : DatedRow). int_eq z.day d) p t b in
    let same : (d : ℤ) → is_common r p d ≡ is_common s t d =
    λ d. ap (λ (c : Bool). c && has_date p d) (ours d) ∙ ap (λ (c : Bool). has_date s d && c) (theirs d) in
    record {
      to = λ d c. common_true s t d (sym (same d) ∙ true_common r p d c);
      back = λ d c. common_true r p d (same d ∙ true_common s t d c);
    }

-- a pair stays a pair where the rows of either list are rearranged
pub arranged_paired : (r s p t : List DatedRow) (x y : DatedRow) → IsPermutation r s → IsPermutation p t
    → ArePaired r p x y → ArePaired s t x y
arranged_paired r s p t x y a b h =
    let tog = together_true r p x.day y.day h.together in
    let same = arranged r s p t a b in
    let itself : AreTogether r p x.day x.day = together_more r p x.day y.day x.day tog (together_back r p x.day y.day tog) in
    record {
      one_of_ours = Contains-permutation r s x a h.one_of_ours;
      one_of_theirs = Contains-permutation p t y b h.one_of_theirs;
      together = true_together s t x.day y.day (same_together r p s t x.day y.day same tog);
      even = λ uncommon.
          sym (sizes_same r p s t s x.day x.day same itself)
          ∙ sum_by-IsPermutation (λ (z : DatedRow). cond (are_together r p x.day z.day) 1 0) r s a
          ∙ h.even (false_common r p x.day (λ c. common_false s t x.day uncommon (same.to x.day c)))
          ∙ sym (sum_by-IsPermutation (λ (z : DatedRow). cond (are_together r p x.day z.day) 1 0) p t b)
          ∙ sizes_same r p s t t x.day x.day same itself;
      same_rank =
          sym (ranks_same r p s t s x.day x.day x same itself)
          ∙ sum_by-IsPermutation (λ (z : DatedRow). cond (are_together r p x.day z.day && row_before z x) 1 0) r s a
          ∙ h.same_rank
          ∙ sym (sum_by-IsPermutation (λ (z : DatedRow). cond (are_together r p x.day z.day && row_before z y) 1 0) p t b)
          ∙ ranks_same r p s t t x.day x.day y same itself;
    }

-- a pair of the rearranged lists is a pair of the lists themselves
pub paired_back : (r s p t : List DatedRow) (x y : DatedRow) → IsPermutation r s → IsPermutation p t
    → ArePaired s t x y → ArePaired r p x y
paired_back r s p t x y a b h =
    arranged_paired s r t p x y (IsPermutation-sym r s a) (IsPermutation-sym p t b) h
