use Rattle.std.proofs.Common.{ℤ, inr}
use Rattle.std.proofs.lemmas.Option.{IfSome_then}
use Rattle.irs_adjust.specs.MovedDays.{SameMonth}
use Rattle.irs_adjust.proofs.conventions.ModFollowingConvention.adjust.Goals as goal

pub returns-else-in_same_month-clause-some : goal.returns-else-in_same_month-clause-some
returns-else-in_same_month-clause-some g c =
    let following = c.in_ok-following.following in
    let apart : SameMonth c.args.d following → ⊥ = λ h. let t = c.in_same_month.ensures.1 h in
    let f = c.if-in_same_month.false in cc (t, f) in
    IfSome_then c.prev_good.result c.prev_good.ensures.some (λ (r : ℤ) prev.
    record { following = following; next = c.in_ok-following.ensures.some; choice = inr (apart, prev) })
