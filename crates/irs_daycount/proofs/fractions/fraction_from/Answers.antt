use Rattle.std.proofs.Common.{FitsSigned}
use Rattle.std.specs.Int.{w64}
use Rattle.std.proofs.lemmas.Int.{to_z-of_z}
use Rattle.irs_daycount.specs.Private.FractionLaws.{one_fraction, one_denominator, fraction_value}
use Rattle.irs_daycount.proofs.FractionBounds.{fraction_bounded}
use Rattle.irs_daycount.proofs.fractions.fraction_from.Goals as goal

pub returns-clause-value : goal.returns-clause-value
returns-clause-value c =
    let f : FitsSigned w64 c.args.days = c.ranges.days in
    let is = c.fraction_of.ensures c.args.last (simp to_z-of_z c.requires.days) in
    fraction_value c.args.code c.args.s c.args.e c.args.last c.fraction_of.result c.requires.order is

pub returns-clause-range : goal.returns-clause-range
returns-clause-range c =
    let f : FitsSigned w64 c.args.days = c.ranges.days in
    let is = c.fraction_of.ensures c.args.last (simp to_z-of_z c.requires.days) in
    fraction_bounded c.args.code c.args.s c.args.e c.args.last c.fraction_of.result c.number-start.ensures.range
    c.number-end.ensures.range c.requires.order is

pub returns-clause-denominator : goal.returns-clause-denominator
returns-clause-denominator c =
    let f : FitsSigned w64 c.args.days = c.ranges.days in
    let is = c.fraction_of.ensures c.args.last (simp to_z-of_z c.requires.days) in
    one_denominator c.args.code c.args.s c.args.e c.args.last c.fraction_of.result is

pub returns-clause-one : goal.returns-clause-one
returns-clause-one c = λ f g a b. one_fraction c.args.code c.args.s c.args.e c.args.last f g a b
