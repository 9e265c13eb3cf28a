-- A numerator is from 0 to 366 times the days.
use Rattle.std.proofs.Common.{◌≡◌, Bool, ℤ, ◌<ℤ◌, arith, subst, sym}
use Rattle.jiff_core.proofs.SignedLemmas.{signed_arith}
use Rattle.irs_base.specs.Days.{IsDay}
use Rattle.irs_terms.specs.declared.results.Frac.{Frac}
use Rattle.irs_terms.specs.declared.codes.DayCountCode.{DayCountCode}
use Rattle.irs_terms.specs.declared.codes.DayCountCode.TheVariants.{OneOne, ActActIsda, Act365Fixed, Act360, Thirty360}
use Rattle.irs_terms.specs.declared.codes.DayCountCode.TheVariants.{ThirtyE360, ThirtyE360Isda}
use Rattle.irs_daycount.specs.Fractions.{Fraction}
use Rattle.irs_daycount.proofs.Counting.{act_act_within}
use Rattle.irs_daycount.proofs.ThirtyBounds.{Bounded, us_bounded, e_bounded, isda_bounded}

moved : (s e n m : ℤ) → n ≡ m → Bounded s e m → Bounded s e n
moved s e n m h b = subst (λ (k : ℤ). Bounded s e k) (sym h) b

-- the numerator of each day count is from 0 to 366 times the actual days
pub fraction_bounded : (code : DayCountCode) (s e : ℤ) (last : Bool) (f : Frac) → IsDay s → IsDay e → s <ℤ e
    → Fraction code s e last f → Bounded s e f.num
fraction_bounded OneOne s e last f a b h x = (omega (arith, signed_arith, x), omega (arith, signed_arith, x, h))
fraction_bounded ActActIsda s e last f a b h x = act_act_within s e f x
fraction_bounded Act365Fixed s e last f a b h x = (omega (arith, signed_arith, x, h), omega (arith, signed_arith, x, h))
fraction_bounded Act360 s e last f a b h x = (omega (arith, signed_arith, x, h), omega (arith, signed_arith, x, h))
fraction_bounded Thirty360 s e last f a b h x = moved s e f.num _ x.0 (us_bounded s e a b h)
fraction_bounded ThirtyE360 s e last f a b h x = moved s e f.num _ x.0 (e_bounded s e a b h)
fraction_bounded ThirtyE360Isda s e last f a b h x = moved s e f.num _ x.0 (isda_bounded s e last a b h)
