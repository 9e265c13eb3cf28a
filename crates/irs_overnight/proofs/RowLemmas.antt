-- There is one list of derived rates.
use Rattle.std.proofs.Common.{◌≡◌, inl, inr, ℕ, ◌+◌, ◌-◌, ◌<◌, ◌≤◌, List, length, Some, ℤ, pos, ◌<ℤ◌, ◌≤ℤ◌, sym, subst}
use Rattle.std.proofs.Common.{◌∙◌, ap, arith}
use Rattle.std.specs.Prelude.{get_or}
use Rattle.std.proofs.lemmas.Bool.{cases_lt}
use Rattle.std.proofs.lemmas.Option.{slice_get-get_or}
use Rattle.jiff_core.proofs.SignedLemmas.{signed_arith}
use Rattle.irs_base.specs.Lists.{day_at}
use Rattle.irs_base.proofs.MemberLemmas.{one_numbered}
use Rattle.irs_terms.specs.declared.results.Reset.{Reset}
use Rattle.irs_resets.specs.Resets.{IsPeriod}
use Rattle.irs_schedule.specs.RowsOf.{no_reset}
use Rattle.irs_overnight.specs.Overnight.{FixingNotAfter, derived_period_at, AreDerived, IsDerivedRow, DerivedSource}
use Rattle.irs_schedule.specs.Parts.{Rises}
use Rattle.irs_schedule.proofs.PeriodLemmas.{next_day}
use Rattle.irs_overnight.specs.Observations.{FindsRate}
use Rattle.irs_overnight.specs.declared.derived.DerivedRow.{DerivedRow}
use Rattle.irs_overnight.specs.declared.derived.Found.{Found}
use Rattle.irs_overnight.proofs.PeriodLemmas.{basis_range, one_found, some_basis}

-- a period ends after it starts
pub in_order : (adjusted : List ℤ) (i : ℕ) → Rises adjusted → IsPeriod adjusted i
    → day_at adjusted (i - 1) <ℤ day_at adjusted i
in_order adjusted i rises period = next_day adjusted i rises period.0 period.1

-- a row made of its parts
abbrev pub made : ℕ → ℤ → Found → DerivedRow
made i d f = record { period = i; fixing = d; found = f }

-- rows with the same parts are the same
pub same_row : (i j : ℕ) (c d : ℤ) (f g : Found) → i ≡ j → c ≡ d → f ≡ g → made i c f ≡ made j d g
same_row i j c d f g a b e = λ t. made (a t) (b t) (e t)

module _ (source : DerivedSource) (rises : Rises source.adjusted) where
  one_row : (i : ℕ) (x y : DerivedRow) → IsDerivedRow source i x → IsDerivedRow source i y → x ≡ y
  one_row i x y p q =
      let bases : p.basis ≡ q.basis = some_basis p.basis q.basis (sym p.is_basis ∙ q.is_basis) in
      let moved : FindsRate (derived_period_at source q.basis i) x.found =
      subst (λ (n : ℕ). FindsRate (derived_period_at source n i) x.found) bases p.finds in
      let order = in_order source.adjusted i rises q.stands in
      let found = one_found (derived_period_at source q.basis i) (basis_range source.day_count q.basis q.is_basis).0
      (omega (arith, signed_arith, order)) x.found y.found moved q.finds in
      same_row x.period y.period x.fixing y.fixing x.found y.found (p.period ∙ sym q.period) (p.fixing
      ∙ sym q.fixing) found

  -- a source has one list of rows
  pub one_derived : (xs ys : List DerivedRow) → AreDerived source xs → AreDerived source ys → xs ≡ ys
  one_derived xs ys p q =
      let a = p.many in
      let b = q.many in
      one_numbered (IsDerivedRow source) one_row 1 xs ys (omega (arith, a, b)) p.each q.each

some_number : (x y : ℤ) → Some x ≡ Some y → x ≡ y
some_number x y e = cc

some_reset : (x y : Reset) → Some x ≡ Some y → x ≡ y
some_reset x y e = cc

-- the element at a place doesn't depend on the default for places past the end
pub read_at : (resets : List Reset) (place : ℕ) (x d : Reset) → place < length resets → x ≡ get_or resets place x
    → get_or resets place d ≡ x
read_at resets place x d low is =
    some_reset (get_or resets place d) x (sym (slice_get-get_or resets place d low)
    ∙ slice_get-get_or resets place x low ∙ ap (λ (y : Reset). Some y) (sym is))

-- one more fixing date that is after the one before it
pub rises_more : (resets : List Reset) (place : ℕ) (x y : Reset) → 1 ≤ place → place < length resets
    → x ≡ get_or resets place x → y ≡ get_or resets (place - 1) y → (x.fixing ≤ℤ y.fixing → ⊥)
    → ((n : ℕ) → n ≤ place → FixingNotAfter resets n → ⊥) → (n : ℕ) → n ≤ place + 1 → FixingNotAfter resets n → ⊥
rises_more resets place x y some low is_x is_y after before n high h = elim (cases_lt n (place + 1)) [
  | inl less ↦ before n (omega (arith, less)) h
  | inr more ↦
      let e : n ≡ place + 1 = omega (arith, high, more) in
      let here : FixingNotAfter resets (place + 1) = subst (λ (k : ℕ). FixingNotAfter resets k) e h in
      let a : get_or resets place no_reset ≡ x = read_at resets place x no_reset low is_x in
      let b : get_or resets (place - 1) no_reset ≡ y =
      read_at resets (place - 1) y no_reset (omega (arith, low)) is_y in
      let same : place + 1 - 1 ≡ place = omega arith in
      let opened : (get_or resets (place + 1 - 1) no_reset).fixing
      ≤ℤ (get_or resets (place + 1 - 1 - 1) no_reset).fixing = here.not_after in
      let stands : (get_or resets place no_reset).fixing ≤ℤ (get_or resets (place - 1) no_reset).fixing =
      subst (λ (k : ℕ). (get_or resets k no_reset).fixing ≤ℤ (get_or resets (k - 1) no_reset).fixing) same opened in
      after (rw (sym b) (rw (sym a) stands))
]

-- a day at a place of the list is the day there
pub day_read : (days : List ℤ) (place : ℕ) (d : ℤ) → place < length days → d ≡ get_or days place d
    → day_at days place ≡ d
day_read days place d low is =
    some_number (get_or days place (pos 0)) d (sym (slice_get-get_or days place (pos 0) low)
    ∙ slice_get-get_or days place d low ∙ ap (λ (y : ℤ). Some y) (sym is))
