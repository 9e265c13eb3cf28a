use Rattle.std.proofs.Common.{rules, arith, ◌≡◌, ◌*◌, ap, FitsSigned, unsigned_abs}
use Rattle.std.specs.Int.{w128}
use Rattle.std.proofs.lemmas.Int.{to_z-of_z}
use Rattle.irs_observed.proofs.SizeLemmas.{scaled_size}
use Rattle.irs_observed.proofs.period_rates.scaled.Goals as goal

pub returns-clause-size : goal.returns-clause-size
returns-clause-size c =
    let fw : FitsSigned w128 c.args.whole = c.ranges.whole in
    let ft : FitsSigned w128 c.ten_to.result = search rules in
    let fp : FitsSigned w128 c.product.result = search rules in
    let z = scaled_size c.args.places (unsigned_abs c.ten_to.result) (unsigned_abs c.args.whole) c.requires.places
    (ap unsigned_abs c.ten_to.ensures.value) c.requires.whole in
    let s : unsigned_abs c.product.result ≡ unsigned_abs c.args.whole * unsigned_abs c.ten_to.result =
    simp to_z-of_z at c.product.ensures.size in
    simp to_z-of_z (omega (arith, z, s))
