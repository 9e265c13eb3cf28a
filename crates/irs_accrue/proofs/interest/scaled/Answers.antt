use Rattle.std.proofs.Common.{rules, arith, ◌≡◌, ◌*◌, ◌^◌, ap, unsigned_abs, FitsSigned}
use Rattle.std.specs.Int.{w128}
use Rattle.std.proofs.lemmas.Int.{to_z-of_z}
use Rattle.irs_accrue.specs.Private.Sizes.{most_product}
use Rattle.irs_accrue.proofs.Products.{thousand, product_of_two}
use Rattle.irs_accrue.proofs.interest.scaled.Goals as goal

pub product-requires : goal.product-requires
product-requires c =
    let fe : FitsSigned w128 c.args.exact = c.ranges.exact in
    let ft : FitsSigned w128 c.ten_to.result = search rules in
    let t : unsigned_abs c.ten_to.result ≡ 10 ^ c.args.places = ap unsigned_abs c.ten_to.ensures in
    let e = product_of_two (unsigned_abs c.args.exact) (10 ^ c.args.places) most_product 1_000 c.requires.size
    (thousand c.args.places c.requires.places) in
    simp to_z-of_z (rw t (omega (arith, e)))

pub returns-clause-size : goal.returns-clause-size
returns-clause-size c =
    let fe : FitsSigned w128 c.args.exact = c.ranges.exact in
    let ft : FitsSigned w128 c.ten_to.result = search rules in
    let fp : FitsSigned w128 c.product.result = search rules in
    let t : unsigned_abs c.ten_to.result ≡ 10 ^ c.args.places = ap unsigned_abs c.ten_to.ensures in
    let s : unsigned_abs c.product.result ≡ unsigned_abs c.args.exact * 10 ^ c.args.places =
    rw t at (simp to_z-of_z at c.product.ensures.size) in
    let e = product_of_two (unsigned_abs c.args.exact) (10 ^ c.args.places) most_product 1_000 c.requires.size
    (thousand c.args.places c.requires.places) in
    simp to_z-of_z (omega (arith, e, s))
