use Rattle.std.proofs.Common.{arith, ◌≡◌, ◌-ℤ◌, to_z, of_z, w64, subst, sym}
use Rattle.jiff_core.proofs.SignedLemmas.{signed_arith}
use Rattle.irs_roll.specs.Rolls.{IsMultiple}
use Rattle.irs_roll.proofs.fitting.on_days.Goals as goal

pub returns : goal.returns
returns c =
    let apart : to_z w64 (of_z w64 c.from.result) ≡ c.args.d -ℤ c.args.anchor.now =
    omega (arith, signed_arith, c.from.ensures, c.number.ensures, c.number-2.ensures, c.day.ensures) in
    let steps = c.is_multiple.ensures in (
      λ t. subst (IsMultiple c.args.days) apart (steps.0 t),
      λ h. steps.1 (subst (IsMultiple c.args.days) (sym apart) h),
    )
