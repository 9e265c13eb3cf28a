-- A period has one reset date and one fixing date, and its dates fail in one way at most.
use Rattle.std.proofs.Common.{◌≡◌, ◌⊎◌, ℕ, Option, Some, None, ℤ, sym, subst, ◌∙◌, refl}
use Rattle.irs_terms.specs.declared.dates.FixTerms.{FixTerms}
use Rattle.irs_terms.specs.declared.dates.ResetTerms.{ResetTerms}
use Rattle.irs_calendar.specs.GoodDays.{DaySet}
use Rattle.irs_adjust.specs.MovedDays.{LacksResult, LeavesRange}
use Rattle.irs_adjust.specs.declared.moved.NoDate.{NoDate}
use Rattle.irs_adjust.specs.declared.moved.NoDate.TheVariants as moves
use Rattle.irs_adjust.proofs.CodeLaws.{one_adjusts}
use Rattle.irs_adjust.proofs.MoveLaws.{date_in_range, date_not_lacking, one_date, one_failure}
use Rattle.irs_resets.specs.declared.dates.DateFault.{DateFault}
use Rattle.irs_resets.specs.declared.dates.DateFault.TheVariants.{NoReset, NoFixing, OutOfRange}
use Rattle.irs_resets.specs.Resets.{ResetDays, IsPeriod, base_day, ResetsOn, FixesBy, FixesOn, IsDates, FixFails}
use Rattle.irs_resets.specs.Resets.{FixingFails, HasFixingFault, DatesFail}
use Rattle.irs_resets.specs.Private.Resets.{HasDates, fault_of}

-- period i has its dates, or they fail in one of the ways
abbrev pub DatesOrFailure : ResetTerms → ResetDays → ℕ → Type 0
DatesOrFailure t days i = HasDates t days i ⊎ ((why : DateFault) × DatesFail why t days i)

-- a period has one reset date
pub one_reset : (t : ResetTerms) (days : ResetDays) (i : ℕ) (r s : ℤ) → ResetsOn t days i r
    → ResetsOn t days i s → r ≡ s
one_reset t days i r s p q = one_adjusts t.adj.code days.reset_set (base_day t.relative days.adjusted i) r s p q

one_fix : (fix : FixTerms) (set : DaySet) (r f g : ℤ) → FixesBy fix set r f → FixesBy fix set r g → f ≡ g
one_fix fix set r f g p q = one_date fix.offset fix.adj.code set r f g p q

-- a reset date has one fixing date
pub one_fixing : (fixing : Option FixTerms) (set : DaySet) (r f g : ℤ) → FixesOn fixing set r f
    → FixesOn fixing set r g → f ≡ g
one_fixing None set r f g p q = p ∙ sym q
one_fixing (Some fix) set r f g p q = one_fix fix set r f g p q

-- a period has one pair of dates
pub one_dates : (t : ResetTerms) (days : ResetDays) (i : ℕ) (r f x y : ℤ) → IsDates t days i r f → IsDates t days i x y
    → (r ≡ x) × (f ≡ y)
one_dates t days i r f x y p q =
    let same = one_reset t days i r x p.resets q.resets in (
      same,
      one_fixing t.fixing days.fixing_set x f y
          (subst (λ (z : ℤ). FixesOn t.fixing days.fixing_set z f) same p.fixes) q.fixes,
    )

-- a fixing date that there is doesn't fail
fix_stands : (e : DateFault) (fix : FixTerms) (set : DaySet) (r f : ℤ) → FixesBy fix set r f → FixFails e fix set r → ⊥
fix_stands NoReset fix set r f p h = h
fix_stands NoFixing fix set r f p h = date_not_lacking fix.offset fix.adj.code set r f p h
fix_stands OutOfRange fix set r f p h = date_in_range fix.offset fix.adj.code set r f p h

fixing_stands : (e : DateFault) (fixing : Option FixTerms) (set : DaySet) (r f : ℤ) → FixesOn fixing set r f
    → FixingFails e fixing set r → ⊥
fixing_stands e None set r f p h = h
fixing_stands e (Some fix) set r f p h = fix_stands e fix set r f p h

fault_stands : (e : DateFault) (t : ResetTerms) (days : ResetDays) (i : ℕ) (r f : ℤ) → IsDates t days i r f
    → HasFixingFault e t days i → ⊥
fault_stands e t days i r f p h =
    let same = one_reset t days i r h.reset p.resets h.resets in
    fixing_stands e t.fixing days.fixing_set h.reset f
    (subst (λ (z : ℤ). FixesOn t.fixing days.fixing_set z f) same p.fixes) h.fails

-- dates that there are don't fail
pub dates_stand : (e : DateFault) (t : ResetTerms) (days : ResetDays) (i : ℕ) (r f : ℤ) → IsDates t days i r f
    → DatesFail e t days i → ⊥
dates_stand NoReset t days i r f p h = h.none r p.resets
dates_stand NoFixing t days i r f p h = fault_stands NoFixing t days i r f p h
dates_stand OutOfRange t days i r f p h = fault_stands OutOfRange t days i r f p h

-- a fixing date fails in one way at most
one_fix_fault : (fix : FixTerms) (set : DaySet) (r : ℤ) → FixFails NoFixing fix set r
    → FixFails OutOfRange fix set r → ⊥
one_fix_fault fix set r lacks leaves = one_failure fix.offset fix.adj.code set r leaves lacks

one_fixing_fault : (fixing : Option FixTerms) (set : DaySet) (r : ℤ) → FixingFails NoFixing fixing set r
    → FixingFails OutOfRange fixing set r → ⊥
one_fixing_fault None set r p h = h
one_fixing_fault (Some fix) set r p h = one_fix_fault fix set r p h

apart : (t : ResetTerms) (days : ResetDays) (i : ℕ) → HasFixingFault NoFixing t days i
    → HasFixingFault OutOfRange t days i → ⊥
apart t days i p q =
    let same = one_reset t days i p.reset q.reset p.resets q.resets in
    one_fixing_fault t.fixing days.fixing_set q.reset
    (subst (λ (z : ℤ). FixingFails NoFixing t.fixing days.fixing_set z) same p.fails) q.fails

-- a period fails only where there is that period
pub period_of : (t : ResetTerms) (days : ResetDays) (why : DateFault) (i : ℕ) → DatesFail why t days i
    → IsPeriod days.adjusted i
period_of t days NoReset i h = h.period
period_of t days NoFixing i h = h.period
period_of t days OutOfRange i h = h.period

-- the dates of a period fail in one way
pub one_way : (d e : DateFault) (t : ResetTerms) (days : ResetDays) (i : ℕ) → DatesFail d t days i
    → DatesFail e t days i → d ≡ e
one_way NoReset NoReset t days i p q = refl
one_way NoReset NoFixing t days i p q = absurd (p.none q.reset q.resets)
one_way NoReset OutOfRange t days i p q = absurd (p.none q.reset q.resets)
one_way NoFixing NoReset t days i p q = absurd (q.none p.reset p.resets)
one_way NoFixing NoFixing t days i p q = refl
one_way NoFixing OutOfRange t days i p q = absurd (apart t days i p q)
one_way OutOfRange NoReset t days i p q = absurd (q.none p.reset p.resets)
one_way OutOfRange NoFixing t days i p q = absurd (apart t days i q p)
one_way OutOfRange OutOfRange t days i p q = refl

-- a fixing date fails as the two steps that lead to it do
pub fails_by : (fix : FixTerms) (set : DaySet) (r : ℤ) (reason : NoDate)
    → (reason ≡ moves.NoResult → LacksResult fix.offset fix.adj.code set r)
    → (reason ≡ moves.OutOfRange → LeavesRange fix.offset set r) → FixFails (fault_of reason) fix set r
fails_by fix set r moves.NoResult lacks leaves = lacks refl
fails_by fix set r moves.OutOfRange lacks leaves = leaves refl
