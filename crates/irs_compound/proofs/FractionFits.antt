-- The fraction of a period whose days are in range is one of a payment.
use Rattle.std.proofs.Common.{◌≡◌, Bool, ℤ, pos, ◌≤ℤ◌, ◌<ℤ◌, arith, sym, subst}
use Rattle.jiff_core.proofs.SignedLemmas.{signed_arith}
use Rattle.irs_base.specs.Days.{IsDay}
use Rattle.irs_terms.specs.declared.results.Frac.{Frac}
use Rattle.irs_terms.specs.declared.codes.DayCountCode.{DayCountCode}
use Rattle.irs_terms.specs.declared.codes.DayCountCode.TheVariants.{OneOne, ActActIsda, Act365Fixed, Act360, Thirty360}
use Rattle.irs_terms.specs.declared.codes.DayCountCode.TheVariants.{ThirtyE360, ThirtyE360Isda}
use Rattle.irs_daycount.specs.Fractions.{act_act_denominator, Fraction, IsNumerator, denominator_of}
use Rattle.irs_daycount.specs.Private.FractionLaws.{one_denominator}
use Rattle.irs_daycount.proofs.FractionBounds.{fraction_bounded}
use Rattle.irs_compound.specs.Amounts.{IsDayCountFraction}

-- the denominator of a day count fraction is from 1 to that of ACT/ACT.ISDA
abbrev IsDenominator : ℤ → Type 0
IsDenominator d = (pos 1 ≤ℤ d) × (d ≤ℤ pos act_act_denominator)

denominators : (code : DayCountCode) → IsDenominator (denominator_of code)
denominators OneOne = (omega (arith, signed_arith), omega (arith, signed_arith))
denominators ActActIsda = (omega (arith, signed_arith), omega (arith, signed_arith))
denominators Act365Fixed = (omega (arith, signed_arith), omega (arith, signed_arith))
denominators Act360 = (omega (arith, signed_arith), omega (arith, signed_arith))
denominators Thirty360 = (omega (arith, signed_arith), omega (arith, signed_arith))
denominators ThirtyE360 = (omega (arith, signed_arith), omega (arith, signed_arith))
denominators ThirtyE360Isda = (omega (arith, signed_arith), omega (arith, signed_arith))

-- a fraction of days in range is a fraction of the amounts
pub fraction_fits : (code : DayCountCode) (s e : ℤ) (f : Frac) → IsDay s → IsDay e → IsNumerator s e f.num
    → f.den ≡ denominator_of code → IsDayCountFraction f
fraction_fits code s e f a b n is =
    let d : IsDenominator f.den = subst IsDenominator (sym is) (denominators code) in
    (n.0, omega (arith, signed_arith, n.1, a, b), d.0, d.1)

-- so the fraction by a day count is, of days in range of which the first is before the second
pub fraction_is_fit : (code : DayCountCode) (s e : ℤ) (last : Bool) (f : Frac) → IsDay s → IsDay e → s <ℤ e
    → Fraction code s e last f → IsDayCountFraction f
fraction_is_fit code s e last f start end order h =
    fraction_fits code s e f start end (fraction_bounded code s e last f start end order h)
    (one_denominator code s e last f h)
