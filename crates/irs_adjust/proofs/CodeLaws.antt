-- A day has at most one adjusted day, by whichever code.
use Rattle.std.proofs.Common.{◌≡◌, ℤ}
use Rattle.irs_terms.specs.declared.codes.ConvCode.{ConvCode}
use Rattle.irs_terms.specs.declared.codes.ConvCode.TheVariants.{Following, ModFollowing, Preceding, ModPreceding}
use Rattle.irs_terms.specs.declared.codes.ConvCode.TheVariants.{Nearest, Unadjusted}
use Rattle.irs_calendar.specs.GoodDays.{DaySet}
use Rattle.irs_adjust.specs.Private.ConventionLaws.{one_same, one_next, one_prev, one_modfollows, one_modprecedes}
use Rattle.irs_adjust.specs.Private.ConventionLaws.{one_nearest}
use Rattle.irs_adjust.specs.MovedDays.{Adjusts}

-- a convention gives at most one day
pub one_adjusts : (code : ConvCode) (s : DaySet) (d r t : ℤ) → Adjusts code s d r → Adjusts code s d t → r ≡ t
one_adjusts Following s d r t a b = one_next s d r t a b
one_adjusts ModFollowing s d r t a b = one_modfollows s d r t a b
one_adjusts Preceding s d r t a b = one_prev s d r t a b
one_adjusts ModPreceding s d r t a b = one_modprecedes s d r t a b
one_adjusts Nearest s d r t a b = one_nearest s d r t a b
one_adjusts Unadjusted s d r t a b = one_same d r t a b
