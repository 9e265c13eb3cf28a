use Rattle.std.proofs.Common.{◌≡◌, w64, to_z, of_z, to_z-of_z}
use Rattle.irs_roll.specs.Private.Laws.{third_wednesday_range}
use Rattle.irs_roll.proofs.rolls.ImmRoll.day_in.Goals as goal

pub returns-in_err-fifteenth : goal.returns-in_err-fifteenth
returns-in_err-fifteenth c =
    let month : to_z w64 (of_z w64 c.args.month) ≡ c.args.month = to_z-of_z c.ranges.month in
    let out = rw month at (c.in_err-fifteenth.ensures {u = tt}) in
    rw c.from_residual.ensures (λ r. out (third_wednesday_range c.args.month r))
