use Rattle.std.proofs.Common.{rules, arith, ◌≡◌, ◌*◌, unsigned_abs, FitsSigned}
use Rattle.std.specs.Int.{w64, w128}
use Rattle.std.proofs.lemmas.Int.{to_z-of_z}
use Rattle.irs_base.specs.Limits.{most_numerator, most_rate}
use Rattle.irs_compound.specs.Private.AmountLaws.{most_balance}
use Rattle.irs_compound.proofs.Sizes.{size_between, product_of_two}
use Rattle.irs_compound.proofs.interest.earned.Goals as goal

pub product-requires-2 : goal.product-requires-2
product-requires-2 c =
    let fb : FitsSigned w128 c.args.balance = c.ranges.balance in
    let fr : FitsSigned w64 c.args.rate = c.ranges.rate in
    let fn : FitsSigned w64 c.args.frac.num = search rules in
    let fy : FitsSigned w128 c.product.result = search rules in
    let fs : FitsSigned w128 c.from.result = search rules in
    let ft : FitsSigned w128 c.from-2.result = search rules in
    let r : c.from.result ≡ c.args.rate = simp to_z-of_z at c.from.ensures in
    let m : c.from-2.result ≡ c.args.frac.num = simp to_z-of_z at c.from-2.ensures in
    let s : unsigned_abs c.product.result ≡ unsigned_abs c.args.balance * unsigned_abs c.args.rate =
    rw r at (simp to_z-of_z at c.product.ensures.size) in
    let n = size_between c.args.frac.num most_numerator c.requires.fraction_fits.0 c.requires.fraction_fits.1 in
    let e = product_of_two (unsigned_abs c.product.result) (unsigned_abs c.args.frac.num)
    (most_balance * most_rate) most_numerator (omega (arith, s, c.requires.product_fits)) n in
    simp to_z-of_z (rw m (omega (arith, e)))

pub returns-clause-size : goal.returns-clause-size
returns-clause-size c =
    let fb : FitsSigned w128 c.args.balance = c.ranges.balance in
    let fr : FitsSigned w64 c.args.rate = c.ranges.rate in
    let fn : FitsSigned w64 c.args.frac.num = search rules in
    let fy : FitsSigned w128 c.product.result = search rules in
    let fz : FitsSigned w128 c.product-2.result = search rules in
    let fs : FitsSigned w128 c.from.result = search rules in
    let ft : FitsSigned w128 c.from-2.result = search rules in
    let r : c.from.result ≡ c.args.rate = simp to_z-of_z at c.from.ensures in
    let m : c.from-2.result ≡ c.args.frac.num = simp to_z-of_z at c.from-2.ensures in
    let s : unsigned_abs c.product.result ≡ unsigned_abs c.args.balance * unsigned_abs c.args.rate =
    rw r at (simp to_z-of_z at c.product.ensures.size) in
    let t : unsigned_abs c.product-2.result ≡ unsigned_abs c.product.result * unsigned_abs c.args.frac.num =
    rw m at (simp to_z-of_z at c.product-2.ensures.size) in
    let n = size_between c.args.frac.num most_numerator c.requires.fraction_fits.0 c.requires.fraction_fits.1 in
    let e = product_of_two (unsigned_abs c.product.result) (unsigned_abs c.args.frac.num)
    (most_balance * most_rate) most_numerator (omega (arith, s, c.requires.product_fits)) n in
    simp to_z-of_z (omega (arith, e, t))
