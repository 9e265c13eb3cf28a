use Rattle.std.proofs.Common.{rules, ◌-◌, FitsSigned}
use Rattle.std.specs.Int.{w128}
use Rattle.std.proofs.lemmas.Int.{to_z-of_z}
use Rattle.irs_accrue.proofs.Periods.{notional_fits}
use Rattle.irs_accrue.proofs.accruals.inside.Goals as goal

pub amount_of-requires-clause-notional : goal.amount_of-requires-clause-notional
amount_of-requires-clause-notional c =
    let r = c.args.running.now in
    let f : FitsSigned w128 r.period.notional = search rules in
    simp to_z-of_z (notional_fits c.args.part.now
    (r.number - 1) r.period c.exchanges-bounds.ensures.bounds c.requires.is)
