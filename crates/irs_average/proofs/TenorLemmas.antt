-- A tenor ends on one day, and two tenors lie around an end in one way.
use Rattle.std.proofs.Common.{◌≡◌, ℕ, ◌*◌, Bool, false, IsTrue, Option, Some, None, IfSome, IfNone, SomeIff, ℤ, pos}
use Rattle.std.proofs.Common.{◌+ℤ◌, ◌≤ℤ◌, ◌<ℤ◌, refl, sym, subst, ◌∙◌, arith}
use Rattle.jiff_core.proofs.SignedLemmas.{signed_arith}
use Rattle.irs_base.specs.Days.{IsCivilOf, IsDay, month_index_of, InMonth, day_in_month, month_start}
use Rattle.irs_base.specs.declared.day.Civil.{Civil}
use Rattle.irs_base.proofs.MonthLemmas.{date_in_month, same_month}
use Rattle.irs_terms.specs.declared.frequency.Frequency.{Frequency}
use Rattle.irs_terms.specs.declared.frequency.Unit.{Unit as FrequencyUnit}
use Rattle.irs_terms.specs.declared.frequency.Unit.TheVariants.{D, W, M, Y, T}
use Rattle.irs_average.specs.Interpolations.{LiesBetween, EndsMonths, EndsTenor, EndsUnits}

same_number : (d s : ℤ) (m n : ℕ) → d ≡ s +ℤ pos m → d ≡ s +ℤ pos n → m ≡ n
same_number d s m n a b = omega (arith, signed_arith, a, b)

-- a number of months from a start ends on one day
pub one_months : (start : ℤ) (months : ℕ) (a b : ℤ) → EndsMonths start months a → EndsMonths start months b → a ≡ b
one_months start months a b p q =
    let month : p.month ≡ q.month = same_month start p.month q.month p.in_month q.in_month in
    let moved : start +ℤ pos 1 ≡ month_start q.month +ℤ pos p.number =
    subst (λ (m : ℤ). start +ℤ pos 1 ≡ month_start m +ℤ pos p.number) month p.numbered in
    let number : p.number ≡ q.number =
    same_number (start +ℤ pos 1) (month_start q.month) p.number q.number moved q.numbered in
    p.ends ∙ (λ i. day_in_month (number i) (month i +ℤ pos months)) ∙ sym q.ends

one_units : (unit : FrequencyUnit) (start : ℤ) (count : ℕ) (a b : ℤ) → EndsUnits unit start count a
    → EndsUnits unit start count b → a ≡ b
one_units D start count a b p q = p ∙ sym q
one_units W start count a b p q = p ∙ sym q
one_units M start count a b p q = one_months start count a b p q
one_units Y start count a b p q = one_months start (12 * count) a b p q
one_units T start count a b p q = absurd p

-- a tenor from a start ends on one day
pub one_tenor : (start : ℤ) (tenor : Frequency) (a b : ℤ) → EndsTenor start tenor a → EndsTenor start tenor b → a ≡ b
one_tenor start tenor a b p q = one_units tenor.unit start tenor.count a b p q

-- ---- by the calendar

-- a day's own number occurs in its month
numbered_in : (start month : ℤ) (c : Civil) → IsDay start → InMonth start month → IsCivilOf start c
    → start +ℤ pos 1 ≡ month_start month +ℤ pos c.day
numbered_in start month c day is has =
    let at = date_in_month start c.year c.month c.day day has in
    let same = same_month start (month_index_of c.year c.month) month at.in_month is in
    subst (λ (m : ℤ). start +ℤ pos 1 ≡ month_start m +ℤ pos c.day) same at.place

-- so the day of that number ends the months
pub months_end : (start month : ℤ) (c : Civil) (months : ℕ) → IsDay start → InMonth start month → IsCivilOf start c
    → EndsMonths start months (day_in_month c.day (month +ℤ pos months))
months_end start month c months day is has =
    record {
      month = month;
      in_month = is;
      number = c.day;
      numbered =
          numbered_in start month c day is has;
      ends = refl;
    }

-- a day in range that is found is where the months end
pub months_some : (start : ℤ) (months : ℕ) (o : Option ℤ) (x : ℤ) → SomeIff o (IsDay x) x → EndsMonths start months x
    → IfSome o (λ d. IsDay d × EndsMonths start months d)
months_some start months None x h is = tt
months_some start months (Some d) x h is = (subst IsDay (sym h.1) h.0, subst (EndsMonths start months) (sym h.1) is)

-- where no day is found, the months end out of range
pub months_none : (start : ℤ) (months : ℕ) (o : Option ℤ) (x : ℤ) → SomeIff o (IsDay x) x → EndsMonths start months x
    → IfNone o ((d : ℤ) → IsDay d → EndsMonths start months d → ⊥)
months_none start months None x h is = λ d day ends. h (subst IsDay (one_months start months d x ends is) day)
months_none start months (Some d) x h is = tt

-- ---- around an end

-- where two tenors don't end around the stub's end, nothing lies between them
pub not_around : (start end : ℤ) (low high : Frequency) (near far : ℤ) → EndsTenor start low near
    → EndsTenor start high far → ((near <ℤ far) × (near ≤ℤ end) × (end ≤ℤ far) → ⊥) → (x y : ℤ)
    → LiesBetween start end low high x y → ⊥
not_around start end low high near far a b none x y h =
    let first : x ≡ near = one_tenor start low x near h.near_ends a in
    let last : y ≡ far = one_tenor start high y far h.far_ends b in
    let by_first : LiesBetween start end low high near y =
    subst (λ (d : ℤ). LiesBetween start end low high d y) first h in
    let by_last : LiesBetween start end low high near far = subst (LiesBetween start end low high near) last by_first in
    none (by_last.order, by_last.from, by_last.to)

-- what is false isn't true
pub is_not : (b : Bool) → b ≡ false → IsTrue b → ⊥
is_not b p q = cc (p, q)
