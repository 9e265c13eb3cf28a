-- The rows of the periods, one period after another.
use Rattle.std.proofs.Common.{◌≡◌, inl, inr, ℕ, ◌+◌, ◌<◌, ◌≤◌, List, [], ◌∷◌, ◌++◌, length, length-append, refl, sym, subst}
use Rattle.std.proofs.Common.{◌∙◌, ap, arith, ℤ}
use Rattle.irs_base.specs.Lists.{EachNumbered}
use Rattle.irs_base.proofs.MemberLemmas.{numbered_push}
use Rattle.irs_resets.specs.Rates.{RateTable}
use Rattle.irs_resets.proofs.FileLemmas.{below}
use Rattle.irs_resets.proofs.RowLemmas.{many_rows}
use Rattle.irs_observed.specs.OvernightRates.{OvernightSource}
use Rattle.irs_daily.specs.ObservedRows.{AreObservedRows, AreRowsOf, joined_rows, HasNoRows, NoneBefore}
use Rattle.irs_daily.specs.declared.rows.NoRowsWhy.{NoRowsWhy}
use Rattle.irs_daily.specs.declared.rows.ObservedRow.{ObservedRow}
use Rattle.irs_daily.proofs.RowSteps.{joined_more}

-- the rows of the periods before this number
pub record ListsTo (source : OvernightSource) (rates : RateTable) (adjusted : List ℤ) (number : ℕ)
    (rows : List ObservedRow) : Type 0 where
  pub parts : List (List ObservedRow)
  pub many : length parts + 1 ≡ number
  pub within : 1 < number → number ≤ length adjusted
  pub each : EachNumbered (AreRowsOf source rates) 1 parts
  pub is : rows ≡ joined_rows parts

module _ (source : OvernightSource) (rates : RateTable) where
  pub lists_none : (adjusted : List ℤ) (rows : List ObservedRow) → rows ≡ [] → ListsTo source rates adjusted 1 rows
  lists_none adjusted rows is =
      record { parts = []; many = refl; within = λ h. absurd (omega (arith, h)); each = tt; is = is }

  -- with the rows of one period more
  pub lists_more : (adjusted : List ℤ) (number : ℕ) (old new front : List ObservedRow) → number < length adjusted
      → ListsTo source rates adjusted number old → AreRowsOf source rates number front → new ≡ old ++ front
      → ListsTo source rates adjusted (number + 1) new
  lists_more adjusted number old new front low h rows is =
      let many = h.many in
      let next : 1 + length h.parts ≡ number = omega (arith, many) in
      record {
        parts = h.parts ++ front ∷ [];
        many = let longer = length-append h.parts (front ∷ []) in omega (arith, longer, many);
        within = λ _. omega (arith, low);
        each = numbered_push (AreRowsOf source rates) 1 number h.parts front h.each next rows;
        is = is ∙ ap (λ (l : List ObservedRow). l ++ front) h.is ∙ sym (joined_more h.parts front);
      }

  -- the rows of all periods
  pub lists_all : (number : ℕ) (rows : List ObservedRow) → length source.adjusted ≤ number
      → ListsTo source rates source.adjusted number rows → AreObservedRows source rates rows
  lists_all number rows all h = record {
    parts = h.parts;
    many = many_rows (length h.parts) number (length source.adjusted) h.many h.within all;
    each = h.each;
    is = h.is;
  }

  pub none_more : (number : ℕ) → NoneBefore source rates number → ((why : NoRowsWhy) → HasNoRows source rates number why → ⊥)
      → NoneBefore source rates (number + 1)
  none_more number before here i why low h = elim (below i number low) [
    | inl old ↦ before i why old h
    | inr now ↦ here why (subst (λ (k : ℕ). HasNoRows source rates k why) now h)
  ]

  pub none_at_all : (number : ℕ) → length source.adjusted ≤ number → NoneBefore source rates number
      → (i : ℕ) (why : NoRowsWhy) → HasNoRows source rates i why → ⊥
  none_at_all number all before i why h =
      let high = h.period.1 in
      before i why (omega (arith, high, all)) h
