use Rattle.std.proofs.Common.{arith, ◌≡◌, pos, w64, to_z, of_z, to_z-of_z}
use Rattle.jiff_core.proofs.SignedLemmas.{signed_arith}
use Rattle.irs_roll.specs.Private.Laws.{too_far}
use Rattle.irs_roll.proofs.every_days.EveryDaysGrid.nth.Goals as goal

pub returns-in_err-checked_mul : goal.returns-in_err-checked_mul
returns-in_err-checked_mul c =
    let step : to_z w64 (of_z w64 c.from.result) ≡ pos c.args.self.now.days =
    omega (arith, signed_arith, c.from.ensures) in
    let k : to_z w64 (of_z w64 c.args.k) ≡ c.args.k = to_z-of_z c.ranges.k in
    let wide = rw (k, step) at (c.in_err-checked_mul.ensures {u = tt}) in
    rw c.from_residual.ensures
    (too_far c.args.self.now.days c.args.self.now.anchor c.args.k c.args.self.now.in_range wide)
