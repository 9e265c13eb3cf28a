use Rattle.std.proofs.Common.{◌≡◌, ℤ, pos, neg_ℤ, ◌-ℤ◌, rules, IfNone, FitsSigned, to_z, of_z, subst, ap, ◌∙◌, arith}
use Rattle.std.specs.Int.{w16}
use Rattle.std.proofs.lemmas.Int.{to_z-of_z, ints}
use Rattle.irs_terms.specs.declared.codes.DayKind.TheVariants.{Business}
use Rattle.irs_adjust.specs.MovedDays.{Moves}
use Rattle.irs_observed.proofs.PeriodLemmas.{less}
use Rattle.irs_observed.proofs.period.moved_back.Goals as goal

pub returns-clause-none : goal.returns-clause-none
returns-clause-none g c =
    let from : c.from.result ≡ pos c.args.n = c.from.ensures in
    let range = c.ranges.n in
    let fits : FitsSigned w16 c.from.result = search rules in
    let back : FitsSigned w16 (pos 0 -ℤ c.from.result) = omega (arith, ints, from, range) in
    let e : to_z w16 (of_z w16 (pos 0 -ℤ to_z w16 (of_z w16 c.from.result))) ≡ neg_ℤ (pos c.args.n) =
    simp to_z-of_z (ap (λ (v : ℤ). pos 0 -ℤ v) from ∙ less c.args.n) in
    subst (λ (v : ℤ). IfNone c.move_by.result ((r : ℤ)
    → Moves (record { days = v; kind = Business }) (g.G.GoodDays.days c.args.days.now) c.args.d r → ⊥)) e
    c.move_by.ensures.none
