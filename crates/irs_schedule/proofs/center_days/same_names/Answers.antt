use Rattle.std.proofs.Common.{◌≡◌, [], length, arith, refl, ext_get_or}
use Rattle.irs_schedule.proofs.center_days.same_names.Goals as goal

pub returns : goal.returns
returns c =
    let same_length : length c.args.a.now ≡ length c.args.b.now = omega arith in
    (λ _. ext_get_or [] c.args.a.now c.args.b.now same_length (λ k h. c.loop-i.invariant k [] (omega arith)), λ _. refl)
