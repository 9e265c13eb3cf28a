use Rattle.std.proofs.Common.{rules, ℤ, subst, FitsSigned, w32, to_z-of_z, sym}
use Rattle.irs_roll.specs.Rolls.{OnMonthsFrom}
use Rattle.irs_roll.specs.Private.Laws.{none_then, from_start}
use Rattle.irs_roll.proofs.month_grid.MonthGridGrid.index.Goals as goal

pub returns-clause-none : goal.returns-clause-none
returns-clause-none g c =
    let r = g.R.Roll in
    let laws = g.met.R.Roll in
    let s = c.args.self.now in
    let fits : FitsSigned w32 s.start = search rules in
    none_then c.steps_to.result _ _ c.steps_to.ensures.none (λ out h.
    out (subst (λ (z : ℤ). OnMonthsFrom (r.rolls s.roll) s.months z c.args.d) (sym (to_z-of_z fits))
    (from_start (r.rolls s.roll) (r.day s.roll) (laws.is s.roll) (laws.only s.roll)
    (laws.stays s.roll) s.months s.anchor s.start c.args.d s.begins h)))
