-- A table of the rates of a derived fixing file has the rate of each row.
use Rattle.std.proofs.Common.{◌≡◌, inl, inr, ℕ, zero, suc, ◌+◌, ◌-◌, ◌<◌, ◌≤◌, List, [], ◌∷◌, length, Option, Some, None, ℤ}
use Rattle.std.proofs.Common.{◌<ℤ◌, ◌≤ℤ◌, refl, sym, ap, subst, ◌∙◌, arith}
use Rattle.std.specs.Prelude.{slice_get}
use Rattle.std.proofs.lemmas.Bool.{cases_lt}
use Rattle.std.proofs.lemmas.Option.{same_Some, slice_get_within}
use Rattle.jiff_core.proofs.SignedLemmas.{signed_arith}
use Rattle.irs_base.proofs.Decided.{order_of}
use Rattle.irs_terms.specs.declared.frequency.Frequency.{Frequency}
use Rattle.irs_terms.specs.declared.results.Reset.{Reset}
use Rattle.irs_resets.specs.FixingFiles.{IsFixingFile}
use Rattle.irs_resets.specs.Rates.{RateTable, rate_at}
use Rattle.irs_resets.specs.declared.store.Slot.{Slot}
use Rattle.irs_overnight.specs.Overnight.{fixing_at, FixingNotAfter}
use Rattle.irs_overnight.specs.Texts.{AreFixings, HasRate, file_text}
use Rattle.irs_overnight.specs.declared.derived.DerivedRow.{DerivedRow}
use Rattle.irs_overnight.specs.declared.derived.Found.{Found}
use Rattle.irs_overnight.specs.declared.derived.Found.TheVariants.{Rate, Missing}
use Rattle.irs_overnight.proofs.KeptRows.{IsDated}
use Rattle.irs_answers.specs.Derived.{found_rate}

-- ---- one row for each fixing date

-- rows with one fixing date are one row
abbrev pub EachDateOnce : List DerivedRow → Type 0
EachDateOnce rows =
    (j k : ℕ) (row other : DerivedRow) → slice_get rows j ≡ Some row → slice_get rows k ≡ Some other
    → row.fixing ≡ other.fixing → j ≡ k

-- where each fixing date is after the one before it, they rise
module _ (resets : List Reset) (none : (n : ℕ) → FixingNotAfter resets n → ⊥) where
  next_after : (i : ℕ) → 1 ≤ i → i + 1 ≤ length resets → fixing_at resets i <ℤ fixing_at resets (i + 1)
  next_after i low high =
      let before : i + 1 - 1 ≡ i = omega arith in
      let fails : fixing_at resets (i + 1) ≤ℤ fixing_at resets i → ⊥ = λ le. none (i + 1) (record {
        second = omega (arith, low);
        within = high;
        not_after = subst (λ (m : ℕ). fixing_at resets (i + 1) ≤ℤ fixing_at resets m) (sym before) le;
      }) in
      elim (order_of (fixing_at resets i) (fixing_at resets (i + 1))) [
        | inl less ↦ less
        | inr (inl more) ↦ absurd (fails (omega (arith, signed_arith, more)))
        | inr (inr same) ↦ absurd (fails (omega (arith, signed_arith, same)))
      ]

  later_after : (i m : ℕ) → 1 ≤ i → i + (m + 1) ≤ length resets → fixing_at resets i <ℤ fixing_at resets (i + (m + 1))
  later_after i zero low high = next_after i low high
  later_after i (suc m) low high =
      let first = later_after i m low (omega (arith, high)) in
      let second = next_after (i + (m + 1)) (omega (arith, low)) (omega (arith, high)) in
      let place : i + (m + 1) + 1 ≡ i + (suc m + 1) = omega arith in
      let last : fixing_at resets (i + (m + 1)) <ℤ fixing_at resets (i + (suc m + 1)) =
      subst (λ (n : ℕ). fixing_at resets (i + (m + 1)) <ℤ fixing_at resets n) place second in
      omega (arith, signed_arith, first, last)

  rising_at : (i j : ℕ) → 1 ≤ i → i < j → j ≤ length resets → fixing_at resets i <ℤ fixing_at resets j
  rising_at i j low less high =
      let e : i + (j - i - 1 + 1) ≡ j = omega (arith, less) in
      subst (λ (n : ℕ). fixing_at resets i <ℤ fixing_at resets n) e
      (later_after i (j - i - 1) low (omega (arith, less, high)))

  module _ (adjusted : List ℤ) (many : length adjusted ≡ length resets + 1) (rows : List DerivedRow)
      (dated : (k : ℕ) (row : DerivedRow) → slice_get rows k ≡ Some row → IsDated adjusted resets (1 + k) row) where
    not_before : (j k : ℕ) (row other : DerivedRow) → slice_get rows j ≡ Some row → slice_get rows k ≡ Some other
        → row.fixing ≡ other.fixing → j < k → ⊥
    not_before j k row other at there same less =
        let a = dated j row at in
        let b = dated k other there in
        let high = b.0.1 in
        let order = rising_at (1 + j) (1 + k) (omega arith) (omega (arith, less)) (omega (arith, high, many)) in
        let x = a.2 in
        let y = b.2 in
        omega (arith, signed_arith, order, x, y, same)

    -- rows of periods on their fixing dates have each date once
    pub each_date_once : EachDateOnce rows
    each_date_once j k row other at there same = elim (cases_lt j k) [
      | inl less ↦ absurd (not_before j k row other at there same less)
      | inr more ↦ elim (cases_lt k j) [
        | inl less ↦ absurd (not_before k j other row there at (sym same) less)
        | inr upto ↦ omega (arith, more, upto)
      ]
    ]

-- one row has its date once
pub one_date : (row : DerivedRow) → EachDateOnce (row ∷ [])
one_date row j k first second at there same =
    let a = slice_get_within (row ∷ []) j first at in
    let b = slice_get_within (row ∷ []) k second there in
    omega (arith, a, b)

-- ---- the rate of a row in a table of the file

different : (found other : Found) (x d : ℤ) → found ≡ Rate x → other ≡ Missing d → found ≡ other → ⊥
different found other x d a b e = cc

module _ (rows : List DerivedRow) (tenor : Option Frequency) (index : List ℕ) (once : EachDateOnce rows)
    (file : AreFixings rows tenor index) (table : RateTable)
    (is : IsFixingFile (file_text rows tenor index) table) where
  abbrev slot_of : DerivedRow → Slot
  slot_of row = record { date = row.fixing; tenor = tenor }

  no_rate : (k : ℕ) (row : DerivedRow) (d : ℤ) → slice_get rows k ≡ Some row → row.found ≡ Missing d → (o : Option ℤ)
      → rate_at table index (slot_of row) ≡ o → o ≡ None
  no_rate k row d at missing None e = refl
  no_rate k row d at missing (Some x) e =
      let has : HasRate rows tenor index index (slot_of row) x =
      (file.holds index (slot_of row) x).0 ((is.holds index (slot_of row) x).0 e) in
      let dates : row.fixing ≡ has.row.fixing = ap (λ (q : Slot). q.date) has.same_slot in
      let place : k ≡ has.place = once k has.place row has.row at has.at dates in
      let same : row ≡ has.row = same_Some row has.row (sym at ∙ ap (slice_get rows) place ∙ has.at) in
      absurd (different has.row.found row.found x d has.found missing (ap (λ (r : DerivedRow). r.found) (sym same)))

  rate_by_found : (k : ℕ) (row : DerivedRow) (found : Found) → slice_get rows k ≡ Some row → row.found ≡ found
      → rate_at table index (slot_of row) ≡ found_rate found
  rate_by_found k row (Rate x) at e =
      (is.holds index (slot_of row) x).1 ((file.holds index (slot_of row) x).1 (record {
        place = k;
        row = row;
        at = at;
        found = e;
        same_name = refl;
        same_slot = refl;
      }))
  rate_by_found k row (Missing d) at e = no_rate k row d at e (rate_at table index (slot_of row)) refl

  -- the rate of a row on its fixing date
  pub rate_of_row : (k : ℕ) (row : DerivedRow) → slice_get rows k ≡ Some row
      → rate_at table index (record { date = row.fixing; tenor = tenor }) ≡ found_rate row.found
  rate_of_row k row at = rate_by_found k row row.found at refl
