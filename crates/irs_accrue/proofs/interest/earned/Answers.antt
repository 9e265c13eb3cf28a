use Rattle.std.proofs.Common.{rules, arith, ◌≡◌, ◌*◌, unsigned_abs, FitsSigned}
use Rattle.std.specs.Int.{w64, w128}
use Rattle.std.proofs.lemmas.Int.{to_z-of_z}
use Rattle.irs_base.specs.Limits.{most_notional, most_numerator, most_rate}
use Rattle.irs_accrue.proofs.Products.{size_between, product_of_two}
use Rattle.irs_accrue.proofs.interest.earned.Goals as goal

pub product-requires-2 : goal.product-requires-2
product-requires-2 c =
    let fb : FitsSigned w128 c.args.notional = c.ranges.notional in
    let fr : FitsSigned w64 c.args.rate = c.ranges.rate in
    let fn : FitsSigned w64 c.args.num = c.ranges.num in
    let fy : FitsSigned w128 c.product.result = search rules in
    let fs : FitsSigned w128 c.from.result = search rules in
    let ft : FitsSigned w128 c.from-2.result = search rules in
    let r : c.from.result ≡ c.args.rate = simp to_z-of_z at c.from.ensures in
    let m : c.from-2.result ≡ c.args.num = simp to_z-of_z at c.from-2.ensures in
    let s : unsigned_abs c.product.result ≡ unsigned_abs c.args.notional * unsigned_abs c.args.rate =
    rw r at (simp to_z-of_z at c.product.ensures.size) in
    let b = size_between c.args.notional most_notional c.requires.notional.0 c.requires.notional.1 in
    let p = product_of_two (unsigned_abs c.args.notional)
    (unsigned_abs c.args.rate) most_notional most_rate b c.requires.rate in
    let n = size_between c.args.num most_numerator c.requires.num_low c.requires.num_high in
    let e = product_of_two (unsigned_abs c.product.result) (unsigned_abs c.args.num)
    (most_notional * most_rate) most_numerator (omega (arith, s, p)) n in
    simp to_z-of_z (rw m (omega (arith, e)))

pub returns-clause-size : goal.returns-clause-size
returns-clause-size c =
    let fb : FitsSigned w128 c.args.notional = c.ranges.notional in
    let fr : FitsSigned w64 c.args.rate = c.ranges.rate in
    let fn : FitsSigned w64 c.args.num = c.ranges.num in
    let fy : FitsSigned w128 c.product.result = search rules in
    let fz : FitsSigned w128 c.product-2.result = search rules in
    let fs : FitsSigned w128 c.from.result = search rules in
    let ft : FitsSigned w128 c.from-2.result = search rules in
    let r : c.from.result ≡ c.args.rate = simp to_z-of_z at c.from.ensures in
    let m : c.from-2.result ≡ c.args.num = simp to_z-of_z at c.from-2.ensures in
    let s : unsigned_abs c.product.result ≡ unsigned_abs c.args.notional * unsigned_abs c.args.rate =
    rw r at (simp to_z-of_z at c.product.ensures.size) in
    let t : unsigned_abs c.product-2.result ≡ unsigned_abs c.product.result * unsigned_abs c.args.num =
    rw m at (simp to_z-of_z at c.product-2.ensures.size) in
    let b = size_between c.args.notional most_notional c.requires.notional.0 c.requires.notional.1 in
    let p = product_of_two (unsigned_abs c.args.notional)
    (unsigned_abs c.args.rate) most_notional most_rate b c.requires.rate in
    let n = size_between c.args.num most_numerator c.requires.num_low c.requires.num_high in
    let e = product_of_two (unsigned_abs c.product.result) (unsigned_abs c.args.num)
    (most_notional * most_rate) most_numerator (omega (arith, s, p)) n in
    simp to_z-of_z (omega (arith, e, t))
