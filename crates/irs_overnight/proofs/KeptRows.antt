-- The rows of a stream without a broken rule keep what a fixing file asks of them.
use Rattle.std.proofs.Common.{◌≡◌, inl, inr, ℕ, zero, suc, ◌+◌, ◌-◌, ◌^◌, ◌<◌, ◌≤◌, List, length, All, Some}
use Rattle.std.proofs.Common.{Result, Ok, Err, IfOk, ℤ, ◌<ℤ◌, ◌≤ℤ◌, refl, sym, subst, arith}
use Rattle.std.specs.Prelude.{slice_get}
use Rattle.std.proofs.lemmas.Option.{get_or_from_slice_get, slice_get_within}
use Rattle.jiff_core.proofs.SignedLemmas.{signed_arith}
use Rattle.irs_base.proofs.Decided.{order_of}
use Rattle.irs_base.proofs.MemberLemmas.{numbered_get}
use Rattle.irs_base.specs.Lists.{Every}
use Rattle.irs_terms.specs.Lawful.{IsLawfulFloat, IsLawfulLeg, IsLawfulStream}
use Rattle.irs_terms.specs.declared.amounts.FloatTerms.{FloatTerms}
use Rattle.irs_terms.specs.declared.results.Reset.{Reset}
use Rattle.irs_resets.specs.Resets.{IsPeriod}
use Rattle.irs_schedule.specs.Parts.{KeepsBounds}
use Rattle.irs_overnight.specs.Overnight.{fixing_at, IsDerivedRow, FixingNotAfter, fixing_not_after_at, OvernightAsked}
use Rattle.irs_overnight.specs.Overnight.{IsAsked, IsOvernight, OvernightKept, RowsReadBack}
use Rattle.irs_overnight.specs.Texts.{AreKept}
use Rattle.irs_overnight.specs.Private.Bounds.{IsInRange}
use Rattle.irs_overnight.specs.Observations.{PaysFloating}
use Rattle.irs_overnight.specs.declared.derived.DerivedRow.{DerivedRow}
use Rattle.irs_overnight.proofs.FileRead.{are_fixings}
use Rattle.irs_overnight.proofs.SourceLemmas.{every_at, part_floats}

-- fixing dates rise where each is after the one before it
module _ (resets : List Reset) (none : (n : ℕ) → FixingNotAfter resets n → ⊥) where
  next_after : (i : ℕ) → 1 ≤ i → i + 1 ≤ length resets → fixing_at resets i <ℤ fixing_at resets (i + 1)
  next_after i low high =
      let a = fixing_at resets i in
      let b = fixing_at resets (i + 1) in
      let before : i + 1 - 1 ≡ i = omega arith in
      let fails : b ≤ℤ a → ⊥ =
      λ le. none (i + 1) (record {
        second = omega (arith, low);
        within = high;
        not_after =
            subst (λ (m : ℕ). fixing_at resets (i + 1) ≤ℤ fixing_at resets m) (sym before) le;
      }) in
      elim (order_of a b) [
        | inl less ↦ less
        | inr (inl more) ↦ absurd (fails (omega (arith, signed_arith, more)))
        | inr (inr same) ↦ absurd (fails (omega (arith, signed_arith, same)))
      ]

  later_after : (i m : ℕ) → 1 ≤ i → i + (m + 1) ≤ length resets → fixing_at resets i <ℤ fixing_at resets (i + (m + 1))
  later_after i zero low high = next_after i low high
  later_after i (suc m) low high =
      let first = later_after i m low (omega (arith, high)) in
      let second = next_after (i + (m + 1)) (omega (arith, low)) (omega (arith, high)) in
      let place : i + (m + 1) + 1 ≡ i + (suc m + 1) = omega arith in
      let last : fixing_at resets (i + (m + 1)) <ℤ fixing_at resets (i + (suc m + 1)) =
      subst (λ (n : ℕ). fixing_at resets (i + (m + 1)) <ℤ fixing_at resets n) place second in
      omega (arith, signed_arith, first, last)

  rising_at : (i j : ℕ) → 1 ≤ i → i < j → j ≤ length resets → fixing_at resets i <ℤ fixing_at resets j
  rising_at i j low less high =
      let e : i + (j - i - 1 + 1) ≡ j = omega (arith, less) in
      subst (λ (n : ℕ). fixing_at resets i <ℤ fixing_at resets n) e
      (later_after i (j - i - 1) low (omega (arith, less, high)))

-- the row of period i has its number and its fixing date
abbrev pub IsDated : List ℤ → List Reset → ℕ → DerivedRow → Type 0
IsDated adjusted resets i row = IsPeriod adjusted i × (row.period ≡ i) × (row.fixing ≡ fixing_at resets i)

module _ (adjusted : List ℤ) (resets : List Reset) (rows : List DerivedRow) (dated : (k : ℕ) (row : DerivedRow)
    → slice_get rows k ≡ Some row → IsDated adjusted resets (1 + k) row) (good : All IsInRange rows) (none : (n : ℕ)
    → FixingNotAfter resets n → ⊥) (many : length adjusted ≡ length resets + 1) (few : length adjusted < 2 ^ 32) where
  range_at : (k : ℕ) (row : DerivedRow) → slice_get rows k ≡ Some row → IsInRange row
  range_at k row at =
      subst IsInRange (get_or_from_slice_get rows k row row at) (good k row (slice_get_within rows k row at))

  -- the rows have days and rates in range, and their fixing dates rise
  pub kept_rows : AreKept rows
  kept_rows = record {
    days = λ k row at. (range_at k row at).day;
    rates = λ k row at. (range_at k row at).rate;
    periods = λ k row at.
        let is = dated k row at in
        let high = is.0.1 in
        let e = is.1 in
        omega (arith, high, e, few);
    rise = λ j k row later less at there.
        let a = dated j row at in
        let b = dated k later there in
        let high = b.0.1 in
        let order = rising_at resets none (1 + j) (1 + k) (omega arith) (omega (arith, less))
        (omega (arith, high, many)) in
        let x = a.2 in
        let y = b.2 in
        omega (arith, signed_arith, order, x, y);
  }

-- the floating terms of a requested stream are lawful
pub lawful_float : (a : OvernightAsked) → IsAsked a → (float : FloatTerms) → PaysFloating a.swap a.number float
    → IsLawfulFloat float
lawful_float a h float pays =
    let streams = h.lawful.2 in
    let low = slice_get_within a.swap.streams (a.number - 1) pays.stream pays.at in
    let stream : IsLawfulStream pays.stream =
    subst IsLawfulStream (get_or_from_slice_get a.swap.streams (a.number - 1) pays.stream pays.stream pays.at)
    (streams (a.number - 1) pays.stream low) in
    subst IsLawfulLeg pays.pays stream.leg

-- the rows print a fixing file
pub reads_back : (a : OvernightAsked) → IsAsked a → Every KeepsBounds a.parts → (rows : List DerivedRow) → IsOvernight a rows
    → OvernightKept a → All IsInRange rows → RowsReadBack a rows
reads_back a h bounds rows over kept good = λ float pays.
    let part = over.has.part in
    let keeps = every_at KeepsBounds a.parts (a.number - 1) part bounds over.has.at in
    let floats = part_floats a h part over.has.at in
    let adjusted = keeps.adjusted in
    let few = keeps.few in
    let by_kind = keeps.resets in
    let resets : length part.resets ≡ length part.periods = rw floats at by_kind in
    let is = over.has.is in
    let many : length over.source.adjusted ≡ length over.source.resets + 1 = rw is (omega (arith, adjusted, resets)) in
    let short : length over.source.adjusted < 2 ^ 32 = rw is (omega (arith, adjusted, few)) in
    let none : (n : ℕ) → FixingNotAfter over.source.resets n → ⊥ =
    λ n not_after. kept (fixing_not_after_at n) (record {
      source = over.source;
      has = over.has;
      breaks =
          inr (inl (record { number = n; not_after = not_after; is = refl }));
    }) in
    let dated : (k : ℕ) (row : DerivedRow) → slice_get rows k ≡ Some row
    → IsDated over.source.adjusted over.source.resets (1 + k) row = λ k row at.
    let is = numbered_get (IsDerivedRow over.source) 1 k rows row over.derived.each at in
    (is.stands, is.period, is.fixing) in
    let lawful = lawful_float a h float pays in
    are_fixings float.tenor float.index rows (record { named = lawful.index; lasting = lawful.tenor })
    (kept_rows over.source.adjusted over.source.resets rows dated good none many short)

-- three facts of an answer that is there, as one
pub ok_three : {X E : Type 0} (r : Result X E) (P Q R S : X → Type 0) → ((x : X) → P x → Q x → R x → S x) → IfOk r P
    → IfOk r Q → IfOk r R → IfOk r S
ok_three (Ok x) P Q R S f p q r = f x p q r
ok_three (Err e) P Q R S f p q r = tt
