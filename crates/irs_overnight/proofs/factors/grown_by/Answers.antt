use Rattle.std.proofs.Common.{rules, ◌+ℤ◌, ◌*ℤ◌, FitsSigned}
use Rattle.std.specs.Int.{w64, w128}
use Rattle.std.proofs.lemmas.Int.{to_z-of_z}
use Rattle.irs_base.specs.Limits.{Rounded}
use Rattle.irs_base.specs.declared.rounding.Direction.TheVariants.{Nearest}
use Rattle.irs_observed.specs.ObservedRates.{unit_rate}
use Rattle.irs_overnight.proofs.factors.grown_by.Goals as goal

pub returns : goal.returns
returns c =
    let fits : FitsSigned w128 c.next_factor.result = search rules in
    let fits_factor : FitsSigned w128 c.args.factor = search rules in
    let fits_rate : FitsSigned w64 c.in-Some.rate = search rules in
    let fits_weight : FitsSigned w64 c.args.o.weight = search rules in
    let rounded : Rounded Nearest (c.args.factor *ℤ (unit_rate c.args.basis +ℤ c.in-Some.rate *ℤ c.args.o.weight))
    (unit_rate c.args.basis) c.next_factor.result = simp to_z-of_z at c.next_factor.ensures in
    simp to_z-of_z (record { rate = c.in-Some.rate; observed = c.in-Some.is; rounded = rounded })
