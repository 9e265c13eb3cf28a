use Rattle.std.proofs.Common.{arith, ◌≡◌, to_z, of_z, w64, subst, sym}
use Rattle.jiff_core.proofs.SignedLemmas.{signed_arith}
use Rattle.irs_base.specs.Days.{month_index_of}
use Rattle.irs_base.proofs.MonthLemmas.{date_in_month}
use Rattle.irs_roll.specs.Rolls.{IsMultiple}
use Rattle.irs_roll.proofs.DatesOnRolls.{both_on, whole_of, rolls_of}
use Rattle.irs_roll.proofs.fitting.on_months.Goals as goal

pub returns-then-is_multiple : goal.returns-then-is_multiple
returns-then-is_multiple g c =
    let rolls = g.R.Roll.rolls c.args.roll.now in
    let d = c.args.d in
    let date = c.civil_of-date.result in
    let told = c.civil_of-date.ensures in
    let at = date_in_month d date.year date.month date.day told.day told.date in
    let month = month_index_of date.year date.month in
    let apart : to_z w64 (of_z w64 c.months_to.result) ≡ c.months_to.result =
    omega (arith, signed_arith, c.months_to.ensures.near) in
    let whole = subst (IsMultiple c.args.months) apart (c.is_multiple.ensures.0 c.if-is_multiple.true) in (
      λ t. both_on rolls c.args.months c.args.anchor.now d month c.months_to.result at.in_month
          c.months_to.ensures.months whole (c.rolls_on.ensures.0 t),
      λ h. c.rolls_on.ensures.1 (rolls_of rolls c.args.months c.args.anchor.now d h),
    )

pub returns-else-is_multiple : goal.returns-else-is_multiple
returns-else-is_multiple g c =
    let rolls = g.R.Roll.rolls c.args.roll.now in
    let d = c.args.d in
    let date = c.civil_of-date.result in
    let told = c.civil_of-date.ensures in
    let at = date_in_month d date.year date.month date.day told.day told.date in
    let month = month_index_of date.year date.month in
    let apart : to_z w64 (of_z w64 c.months_to.result) ≡ c.months_to.result =
    omega (arith, signed_arith, c.months_to.ensures.near) in (
      λ t. let off = c.if-is_multiple.false in absurd (cc (t, off)),
      λ h. c.is_multiple.ensures.1 (subst (IsMultiple c.args.months) (sym apart)
          (whole_of rolls c.args.months c.args.anchor.now d month c.months_to.result at.in_month
          c.months_to.ensures.months h)),
    )
