use Rattle.std.proofs.Common.{rules, FitsSigned}
use Rattle.std.specs.Int.{w128}
use Rattle.std.proofs.lemmas.Int.{to_z-of_z}
use Rattle.irs_audit.proofs.StatedBounds.{statable_fits}
use Rattle.irs_audit.proofs.stating.number.Goals as goal

pub product-requires : goal.product-requires
product-requires c =
    let fu : FitsSigned w128 c.args.units = c.ranges.units in
    let fp : FitsSigned w128 c.power_of_ten.result = search rules in
    simp to_z-of_z (rw c.power_of_ten.ensures (statable_fits c.args.units c.args.places c.requires))
