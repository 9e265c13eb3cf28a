use Rattle.std.proofs.Common.{rules, FitsSigned}
use Rattle.std.specs.Int.{w128}
use Rattle.std.proofs.lemmas.Int.{to_z-of_z}
use Rattle.irs_audit.proofs.ValueLemmas.{power_positive, number_decided}
use Rattle.irs_audit.proofs.comparisons.is_number.Goals as goal

pub is_multiple-requires : goal.is_multiple-requires
is_multiple-requires c =
    let fp : FitsSigned w128 c.power_of_ten.result = search rules in
    simp to_z-of_z (rw c.power_of_ten.ensures (power_positive _))

pub returns : goal.returns
returns c =
    let fu : FitsSigned w128 c.args.units = c.ranges.units in
    let fs : FitsSigned w128 c.args.stated = c.ranges.stated in
    let fp : FitsSigned w128 c.power_of_ten.result = search rules in
    number_decided c.args.units c.args.stated c.args.places c.is_multiple.result c.requires
    (rw (← c.power_of_ten.ensures) (simp to_z-of_z at c.is_multiple.ensures))
