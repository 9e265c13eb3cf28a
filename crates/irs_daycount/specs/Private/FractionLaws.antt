-- Private: no public contract rests on this file.
-- Proofs of the laws of fractions; and a day's place, of private functions.
use Rattle.std.specs.Prelude.{ℕ, ◌+◌, ◌*◌, if◌then◌else◌, ℤ, pos}
use Rattle.jiff_core.specs.Calendar.{is_leap_year}
use Rattle.std.proofs.Common.{◌≡◌, Bool, negsuc, ◌-ℤ◌, ◌<ℤ◌, unsigned_abs, arith, refl, sym, ◌∙◌, ap}
use Rattle.jiff_core.proofs.SignedLemmas.{signed_arith}
use Rattle.irs_base.specs.Days.{last_year, year_part}
use Rattle.irs_terms.specs.declared.results.Frac.{Frac}
use Rattle.irs_terms.specs.declared.codes.DayCountCode.{DayCountCode}
use Rattle.irs_terms.specs.declared.codes.DayCountCode.TheVariants.{OneOne, ActActIsda, Act365Fixed, Act360, Thirty360}
use Rattle.irs_terms.specs.declared.codes.DayCountCode.TheVariants.{ThirtyE360, ThirtyE360Isda}
use Rattle.irs_daycount.specs.Fractions.{act_act_denominator, Days, Fraction, days_of, fraction_of, denominator_of}
use Rattle.irs_daycount.specs.Fractions.{ActAct, act_act_parts}

-- fractions with one numerator and one denominator are equal
same_frac : (f g : Frac) → f.num ≡ g.num → f.den ≡ g.den → f ≡ g
same_frac f g h k =
    let mk : ℤ → ℤ → Frac = λ m n. record { num = m; den = n } in
    ap (λ m. mk m f.den) h ∙ ap (λ n. mk g.num n) k

-- a period has one fraction by ACT/ACT.ISDA
act_act_once : (s e : ℤ) (f g : Frac) → ActAct s e f → ActAct s e g → f ≡ g
act_act_once s e f g a b =
    let n : a.days ≡ b.days = omega (arith, signed_arith, a.ends, b.ends) in
    let m : f.num ≡ g.num = a.num ∙ ap (λ (k : ℕ). pos (act_act_parts s k)) n ∙ sym b.num in
    same_frac f g m (a.den ∙ sym b.den)

-- any two fractions of one period by one code are equal
pub one_fraction : (code : DayCountCode) (s e : ℤ) (last : Bool) (f g : Frac) → Fraction code s e last f
    → Fraction code s e last g → f ≡ g
one_fraction OneOne s e last f g a b = same_frac f g (a.0 ∙ sym b.0) (a.1 ∙ sym b.1)
one_fraction ActActIsda s e last f g a b = act_act_once s e f g a b
one_fraction Act365Fixed s e last f g a b = same_frac f g (a.0 ∙ sym b.0) (a.1 ∙ sym b.1)
one_fraction Act360 s e last f g a b = same_frac f g (a.0 ∙ sym b.0) (a.1 ∙ sym b.1)
one_fraction Thirty360 s e last f g a b = same_frac f g (a.0 ∙ sym b.0) (a.1 ∙ sym b.1)
one_fraction ThirtyE360 s e last f g a b = same_frac f g (a.0 ∙ sym b.0) (a.1 ∙ sym b.1)
one_fraction ThirtyE360Isda s e last f g a b = same_frac f g (a.0 ∙ sym b.0) (a.1 ∙ sym b.1)

-- ---- a day's place: years of 365 * 366 parts, each day of a year as many parts as the other kind of year has days

-- the parts of one day of the year
abbrev pub weight_of : ℕ → ℕ
weight_of year = if is_leap_year (pos year) then 365 else 366

-- the place where the day begins that is `days` days after 1 January of the year
abbrev pub place_at : ℕ → ℕ → ℕ
place_at year days = act_act_denominator * year + days * weight_of year

-- where the day begins
abbrev pub place_of_day : ℤ → ℕ
place_of_day d = place_at (year_part d).0 (year_part d).1

-- no day begins later: the end of the last year that there is
abbrev pub most_place : ℕ
most_place = act_act_denominator * (last_year + 1)

-- ---- a period has one number of days and one fraction by a code; its denominator depends on the code alone

-- a number above 0 is its own size
later : (z : ℤ) → pos 0 <ℤ z → z ≡ pos (unsigned_abs z)
later (pos n) h = refl
later (negsuc n) h = absurd (omega (arith, signed_arith, h))

-- the function gives the fraction
pub fraction_is : (code : DayCountCode) (s e : ℤ) (last : Bool) → s <ℤ e
    → Fraction code s e last (fraction_of code s e last)
unfolding fraction_of
fraction_is OneOne s e last h = (refl, refl)
fraction_is ActActIsda s e last h =
    let k = later (e -ℤ s) (omega (arith, signed_arith, h)) in
    record { days = unsigned_abs (e -ℤ s); ends = omega (arith, signed_arith, k); num = refl; den = refl }
fraction_is Act365Fixed s e last h = (refl, refl)
fraction_is Act360 s e last h = (refl, refl)
fraction_is Thirty360 s e last h = (refl, refl)
fraction_is ThirtyE360 s e last h = (refl, refl)
fraction_is ThirtyE360Isda s e last h = (refl, refl)

-- so a fraction of the period is the function's
pub fraction_value : (code : DayCountCode) (s e : ℤ) (last : Bool) (f : Frac) → s <ℤ e → Fraction code s e last f
    → f ≡ fraction_of code s e last
fraction_value code s e last f h x =
    one_fraction code s e last f (fraction_of code s e last) x (fraction_is code s e last h)

-- the denominator of a fraction is that of its day count
pub one_denominator : (code : DayCountCode) (s e : ℤ) (last : Bool) (f : Frac) → Fraction code s e last f
    → f.den ≡ denominator_of code
one_denominator OneOne s e last f a = a.1
one_denominator ActActIsda s e last f a = a.den
one_denominator Act365Fixed s e last f a = a.1
one_denominator Act360 s e last f a = a.1
one_denominator Thirty360 s e last f a = a.1
one_denominator ThirtyE360 s e last f a = a.1
one_denominator ThirtyE360Isda s e last f a = a.1

-- any two numbers of days of one period by one code are equal
pub one_days : (code : DayCountCode) (s e : ℤ) (last : Bool) (m n : ℤ) → Days code s e last m
    → Days code s e last n → m ≡ n
one_days OneOne s e last m n a b = a ∙ sym b
one_days ActActIsda s e last m n a b = a ∙ sym b
one_days Act365Fixed s e last m n a b = a ∙ sym b
one_days Act360 s e last m n a b = a ∙ sym b
one_days Thirty360 s e last m n a b = a ∙ sym b
one_days ThirtyE360 s e last m n a b = a ∙ sym b
one_days ThirtyE360Isda s e last m n a b = a ∙ sym b

-- the function gives the days
pub days_is : (code : DayCountCode) (s e : ℤ) (last : Bool) → Days code s e last (days_of code s e last)
unfolding days_of
days_is OneOne s e last = refl
days_is ActActIsda s e last = refl
days_is Act365Fixed s e last = refl
days_is Act360 s e last = refl
days_is Thirty360 s e last = refl
days_is ThirtyE360 s e last = refl
days_is ThirtyE360Isda s e last = refl

-- so a number of days of the period is the function's
pub days_value : (code : DayCountCode) (s e : ℤ) (last : Bool) (n : ℤ) → Days code s e last n
    → n ≡ days_of code s e last
days_value code s e last n x = one_days code s e last n (days_of code s e last) x (days_is code s e last)
