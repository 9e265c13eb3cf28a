-- Common dates and gaps: the tests of `specs/Pairing.antt` as facts, and that belonging together is an
-- equivalence.
use Rattle.std.proofs.Common.{◌≡◌, ◌⊎◌, inl, inr, ⊎_elim, Bool, true, false, not, ◌&&◌, ◌||◌, List, ℤ, ◌<ℤ◌, ◌≤ℤ◌}
use Rattle.std.proofs.Common.{arith, refl, sym, subst, ◌∙◌}
use Rattle.std.specs.Ordering.{int_cmp, int_eq, is_lt}
use Rattle.std.proofs.lemmas.Bool.{and_parts, cases_Bool, cond-false, cond-true, or_cases, not-true, not_from_false, both_ways, false_from_ne_true}
use Rattle.jiff_core.proofs.SignedLemmas.{signed_arith}
use Rattle.irs_base.proofs.Orders.{lt_true, true_lt}
use Rattle.irs_breaks.specs.Private.Blocks.{AreInGap, AreTogether, HasRowOfDate, IsBetween, IsCommon}
use Rattle.irs_breaks.specs.Pairing.{are_cut, are_in_gap, are_together, has_date, is_common, lies_between}
use Rattle.irs_breaks.specs.declared.dated.DatedRow.{DatedRow}
use Rattle.irs_breaks.proofs.RowLemmas.{any_at, any_true, eq_true, true_eq}

-- two true tests are true together
pub and_both : (a b : Bool) → a ≡ true → b ≡ true → (a && b) ≡ true
and_both a b h k = rw h k

or_either : (a b : Bool) → (a ≡ true) ⊎ (b ≡ true) → (a || b) ≡ true
or_either true b h = refl
or_either false b (inl h) = absurd (cc)
or_either false b (inr h) = h

dated_true : (rows : List DatedRow) (d : ℤ) → has_date rows d ≡ true → HasRowOfDate rows d
dated_true rows d h =
    let found = any_true (λ (r : DatedRow). int_eq r.day d) rows h in
    (found.0, found.1, found.2, eq_true found.1.day d found.3)

true_dated : (rows : List DatedRow) (d : ℤ) → HasRowOfDate rows d → has_date rows d ≡ true
true_dated rows d h = any_at (λ (r : DatedRow). int_eq r.day d) rows h.0 h.1 h.2 (true_eq h.1.day d h.3)

-- a date that passes the test is common
pub common_true : (s t : List DatedRow) (d : ℤ) → is_common s t d ≡ true → IsCommon s t d
common_true s t d h =
    let both = and_parts (has_date s d) (has_date t d) h in (dated_true s d both.0, dated_true t d both.1)

-- a common date passes the test
pub true_common : (s t : List DatedRow) (d : ℤ) → IsCommon s t d → is_common s t d ≡ true
true_common s t d h = and_both _ _ (true_dated s d h.0) (true_dated t d h.1)

-- a date that fails the test isn't common
pub common_false : (s t : List DatedRow) (d : ℤ) → is_common s t d ≡ false → ¬ (IsCommon s t d)
common_false s t d h c = both_ways (is_common s t d) h (true_common s t d c)

-- a date that isn't common fails the test
pub false_common : (s t : List DatedRow) (d : ℤ) → ¬ (IsCommon s t d) → is_common s t d ≡ false
false_common s t d h = false_from_ne_true (is_common s t d) (λ e. h (common_true s t d e))

between_true : (a b d : ℤ) → lies_between a b d ≡ true → IsBetween a b d
between_true a b d h =
    elim (or_cases (is_lt (int_cmp a d) && is_lt (int_cmp d b)) (is_lt (int_cmp b d) && is_lt (int_cmp d a)) h) [
      | inl up ↦ let both = and_parts (is_lt (int_cmp a d)) (is_lt (int_cmp d b)) up in
          inl (lt_true a d both.0, lt_true d b both.1)
      | inr down ↦ let both = and_parts (is_lt (int_cmp b d)) (is_lt (int_cmp d a)) down in
          inr (lt_true b d both.0, lt_true d a both.1)
    ]

true_between : (a b d : ℤ) → IsBetween a b d → lies_between a b d ≡ true
true_between a b d (inl h) = or_either _ _ (inl (and_both _ _ (true_lt a d h.0) (true_lt d b h.1)))
true_between a b d (inr h) = or_either _ _ (inr (and_both _ _ (true_lt b d h.0) (true_lt d a h.1)))

-- a common date between two dates cuts them apart
true_cut : (s t : List DatedRow) (a b d : ℤ) → IsCommon s t d → IsBetween a b d → are_cut s t a b ≡ true
true_cut s t a b d c h =
    let row = c.0.1 in
    let is : row.day ≡ d = c.0.3 in
    any_at (λ (r : DatedRow). is_common s t r.day && lies_between a b r.day) s c.0.0 row c.0.2
    (and_both _ _ (true_common s t row.day (subst (IsCommon s t) (sym is) c))
    (true_between a b row.day (subst (IsBetween a b) (sym is) h)))

cut_true : (s t : List DatedRow) (a b : ℤ) → are_cut s t a b ≡ true → (d : ℤ) × IsCommon s t d × IsBetween a b d
cut_true s t a b h =
    let found = any_true (λ (r : DatedRow). is_common s t r.day && lies_between a b r.day) s h in
    let both = and_parts (is_common s t found.1.day) (lies_between a b found.1.day) found.3 in
    (found.1.day, common_true s t found.1.day both.0, between_true a b found.1.day both.1)

gap_true : (s t : List DatedRow) (a b : ℤ) → are_in_gap s t a b ≡ true → AreInGap s t a b
gap_true s t a b h =
    let parts = and_parts (not (is_common s t a) && not (is_common s t b)) (not (are_cut s t a b)) h in
    let both = and_parts (not (is_common s t a)) (not (is_common s t b)) parts.0 in
    record {
      left = common_false s t a (not-true _ both.0);
      right = common_false s t b (not-true _ both.1);
      uncut = λ d c between. both_ways (are_cut s t a b) (not-true _ parts.1) (true_cut s t a b d c between);
    }

true_gap : (s t : List DatedRow) (a b : ℤ) → AreInGap s t a b → are_in_gap s t a b ≡ true
true_gap s t a b h =
    let uncut : are_cut s t a b ≡ false =
    false_from_ne_true _ (λ e. let cut = cut_true s t a b e in h.uncut cut.0 cut.1 cut.2) in
    and_both _ _ (and_both _ _ (not_from_false _ (false_common s t a h.left)) (not_from_false _ (false_common s t b h.right)))
    (not_from_false _ uncut)

-- two dates that pass the test belong together
pub together_true : (s t : List DatedRow) (a b : ℤ) → are_together s t a b ≡ true → AreTogether s t a b
together_true s t a b h = elim (cases_Bool (is_common s t a)) [
  | inl holds ↦ inl (
    common_true s t a holds,
    eq_true a b (sym (cond-true (is_common s t a) (int_eq a b) (are_in_gap s t a b) holds) ∙ h),
  )
  | inr fails ↦ inr (gap_true s t a b (sym (cond-false (is_common s t a) (int_eq a b) (are_in_gap s t a b) fails) ∙ h))
]

-- two dates that belong together pass the test
pub true_together : (s t : List DatedRow) (a b : ℤ) → AreTogether s t a b → are_together s t a b ≡ true
true_together s t a b (inl h) =
    cond-true (is_common s t a) (int_eq a b) (are_in_gap s t a b) (true_common s t a h.0) ∙ true_eq a b h.1
true_together s t a b (inr h) =
    cond-false (is_common s t a) (int_eq a b) (are_in_gap s t a b) (false_common s t a h.left) ∙ true_gap s t a b h

-- two dates that don't belong together fail the test
pub together_false : (s t : List DatedRow) (a b : ℤ) → ¬ (AreTogether s t a b) → are_together s t a b ≡ false
together_false s t a b h = false_from_ne_true _ (λ e. h (together_true s t a b e))

-- ---- an equivalence

between_back : (a b d : ℤ) → IsBetween a b d → IsBetween b a d
between_back a b d (inl h) = inr h
between_back a b d (inr h) = inl h

-- two dates belong together in either order
pub together_back : (s t : List DatedRow) (a b : ℤ) → AreTogether s t a b → AreTogether s t b a
together_back s t a b (inl h) = inl (subst (IsCommon s t) h.1 h.0, sym h.1)
together_back s t a b (inr h) = inr (record {
  left = h.right;
  right = h.left;
  uncut = λ d c between. h.uncut d c (between_back b a d between);
})

cases_ltz : (a b : ℤ) → (a <ℤ b) ⊎ (b ≤ℤ a)
cases_ltz a b = grind (arith, signed_arith)

same_dates : (a b : ℤ) → a ≤ℤ b → b ≤ℤ a → a ≡ b
same_dates a b h k = omega (arith, signed_arith, h, k)

-- a day other than b that lies between a and c lies between a and b or between b and c
between_cases : (a b c d : ℤ) → ¬ (b ≡ d) → IsBetween a c d → IsBetween a b d ⊎ IsBetween b c d
between_cases a b c d other (inl h) = elim (cases_ltz d b) [
  | inl low ↦ inl (inl (h.0, low))
  | inr high ↦ elim (cases_ltz b d) [
    | inl less ↦ inr (inl (less, h.1))
    | inr more ↦ absurd (other (same_dates b d high more))
  ]
]
between_cases a b c d other (inr h) = elim (cases_ltz d b) [
  | inl low ↦ inr (inr (h.0, low))
  | inr high ↦ elim (cases_ltz b d) [
    | inl less ↦ inl (inr (less, h.1))
    | inr more ↦ absurd (other (same_dates b d high more))
  ]
]

-- two dates that belong together with a third belong together
pub together_more : (s t : List DatedRow) (a b c : ℤ) → AreTogether s t a b → AreTogether s t b c → AreTogether s t a c
together_more s t a b c (inl h) k = subst (λ z. AreTogether s t z c) (sym h.1) k
together_more s t a b c (inr h) (inl k) = absurd (h.right k.0)
together_more s t a b c (inr h) (inr k) = inr (record {
  left = h.left;
  right = k.right;
  uncut = λ d common between.
      ⊎_elim (λ (low : IsBetween a b d). h.uncut d common low) (λ (high : IsBetween b c d). k.uncut d common high)
      (between_cases a b c d (λ e. h.right (subst (IsCommon s t) (sym e) common)) between);
})

-- where two dates belong together and one is common, so is the other
pub together_alike : (s t : List DatedRow) (a b : ℤ) → AreTogether s t a b → IsCommon s t a → IsCommon s t b
together_alike s t a b (inl h) c = subst (IsCommon s t) h.1 c
together_alike s t a b (inr h) c = absurd (h.left c)
