-- Roundings that this project states, so that a wrong definition does not check.
use Rattle.std.proofs.Common.{◌≡◌, pos, refl, rules, arith}
use Rattle.irs_base.specs.Limits.{Rounded, rounded}
use Rattle.irs_base.specs.declared.rounding.Direction.TheVariants.{Nearest}
use Rattle.irs_audit.specs.Verdicts.{StatesFraction}

-- 1/32 is 0.03125, and with four decimals 0.0313: a half goes up
half_goes_up : rounded Nearest (pos 10_000) (pos 32) ≡ pos 313
half_goes_up = refl

rounded_up : Rounded Nearest (pos 10_000) (pos 32) (pos 313)
rounded_up = search rules

thirty_second : StatesFraction (record { num = pos 1; den = pos 32 }) (record { units = pos 313; places = 4 })
thirty_second = record { decimals = omega arith; exact = λ h. absurd (omega (arith, h)); nearest = λ _. rounded_up }

not_down : Rounded Nearest (pos 10_000) (pos 32) (pos 312) → ⊥
not_down h = absurd (grind (arith, h))

-- 1/32 with four decimals is not 0.0312
half_not_down : StatesFraction (record { num = pos 1; den = pos 32 }) (record { units = pos 312; places = 4 }) → ⊥
half_not_down h = not_down (h.nearest (omega arith))
