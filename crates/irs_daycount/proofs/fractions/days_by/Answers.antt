use Rattle.std.proofs.Common.{rules, FitsSigned}
use Rattle.std.specs.Int.{w64}
use Rattle.std.proofs.lemmas.Int.{to_z-of_z}
use Rattle.irs_daycount.specs.Private.FractionLaws.{one_days, days_value}
use Rattle.irs_daycount.proofs.fractions.days_by.Goals as goal

pub returns-clause-value : goal.returns-clause-value
returns-clause-value c =
    let f : FitsSigned w64 c.days_of.result = search rules in
    simp to_z-of_z (days_value c.args.code c.args.s c.args.e c.args.last c.days_of.result c.days_of.ensures)

pub returns-clause-one : goal.returns-clause-one
returns-clause-one c = λ m n a b. one_days c.args.code c.args.s c.args.e c.args.last m n a b
