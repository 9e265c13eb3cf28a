use Rattle.std.proofs.Common.{rules, ◌≡◌, ◌*ℤ◌, FitsSigned}
use Rattle.std.specs.Int.{w64, w128}
use Rattle.std.proofs.lemmas.Int.{to_z-of_z}
use Rattle.irs_compound.specs.Private.RateLaws.{product_above}
use Rattle.irs_compound.proofs.products.finer.Goals as goal

pub returns-clause-above : goal.returns-clause-above
returns-clause-above c =
    let fd : FitsSigned w64 c.args.den = c.ranges.den in
    let fa : FitsSigned w128 c.from.result = search rules in
    let fb : FitsSigned w128 c.ten_to.result = search rules in
    let fp : FitsSigned w128 c.product.result = search rules in
    let d : c.from.result ≡ c.args.den = simp to_z-of_z at c.from.ensures in
    let v : c.product.result ≡ c.args.den *ℤ c.ten_to.result = rw d at (simp to_z-of_z at c.product.ensures.value) in
    simp to_z-of_z (rw v (product_above c.args.den c.ten_to.result c.requires.den_low c.ten_to.ensures.above))
