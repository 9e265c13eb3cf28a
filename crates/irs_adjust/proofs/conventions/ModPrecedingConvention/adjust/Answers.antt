use Rattle.std.proofs.Common.{ℤ, inr}
use Rattle.std.proofs.lemmas.Option.{IfSome_then}
use Rattle.irs_adjust.specs.MovedDays.{SameMonth}
use Rattle.irs_adjust.proofs.conventions.ModPrecedingConvention.adjust.Goals as goal

pub returns-else-in_same_month-clause-some : goal.returns-else-in_same_month-clause-some
returns-else-in_same_month-clause-some g c =
    let preceding = c.in_ok-preceding.preceding in
    let apart : SameMonth c.args.d preceding → ⊥ = λ h. let t = c.in_same_month.ensures.1 h in
    let f = c.if-in_same_month.false in cc (t, f) in
    IfSome_then c.next_good.result c.next_good.ensures.some (λ (r : ℤ) next.
    record { preceding = preceding; prev = c.in_ok-preceding.ensures.some; choice = inr (apart, next) })
