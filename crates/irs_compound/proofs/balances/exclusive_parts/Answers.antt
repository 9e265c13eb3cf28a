use Rattle.std.proofs.Common.{rules, arith, ◌≡◌, ◌*◌, pos, ◌+ℤ◌, ◌-ℤ◌, ◌*ℤ◌, unsigned_abs, FitsSigned}
use Rattle.std.specs.Int.{w64, w128}
use Rattle.std.proofs.lemmas.Int.{to_z-of_z}
use Rattle.irs_base.specs.Limits.{most_notional, most_rate}
use Rattle.irs_compound.specs.Amounts.{Interest}
use Rattle.irs_compound.proofs.Sizes.{product_of_two}
use Rattle.irs_compound.proofs.balances.exclusive_parts.Goals as goal

pub interest-requires-2-clause-product_fits : goal.interest-requires-2-clause-product_fits
interest-requires-2-clause-product_fits c =
    let ff : FitsSigned w128 c.fine_notional.result = search rules in
    let fa : FitsSigned w64 c.above_base.result = search rules in
    let p = product_of_two (unsigned_abs c.fine_notional.result) (unsigned_abs c.above_base.result)
    (100 * most_notional) (2 * most_rate) c.fine_notional.ensures.size c.above_base.ensures.size in
    simp to_z-of_z (omega (arith, p))

pub returns : goal.returns
returns c =
    let n = c.args.p.now.notional in
    let f = c.args.p.now.frac in
    let fn : FitsSigned w128 c.args.p.now.notional = search rules in
    let fb : FitsSigned w128 c.args.before = c.ranges.before in
    let fr : FitsSigned w64 c.args.rates.base = search rules in
    let fg : FitsSigned w128 c.grown_notional.result = search rules in
    let ff : FitsSigned w128 c.fine_notional.result = search rules in
    let fa : FitsSigned w64 c.above_base.result = search rules in
    let fi : FitsSigned w128 c.interest.result = search rules in
    let fj : FitsSigned w128 c.interest-2.result = search rules in
    let g : c.grown_notional.result ≡ pos 100 *ℤ n +ℤ c.args.before =
    simp to_z-of_z at c.grown_notional.ensures.value in
    let h : c.fine_notional.result ≡ pos 100 *ℤ n = simp to_z-of_z at c.fine_notional.ensures.value in
    let a : c.above_base.result ≡ c.args.rates.all_in -ℤ c.args.rates.base = c.above_base.ensures.value in
    let i : Interest c.grown_notional.result c.args.rates.base f c.interest.result =
    simp to_z-of_z at c.interest.ensures in
    let j : Interest c.fine_notional.result c.above_base.result f c.interest-2.result =
    simp to_z-of_z at c.interest-2.ensures in
    simp to_z-of_z (rw g at i, rw (h, a) at j)
