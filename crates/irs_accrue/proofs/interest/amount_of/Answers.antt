use Rattle.std.proofs.Common.{rules, arith, ◌≡◌, unsigned_abs, FitsSigned}
use Rattle.std.specs.Int.{w64, w128}
use Rattle.std.proofs.lemmas.Int.{to_z-of_z}
use Rattle.irs_accrue.specs.Accruals.{IsInterest}
use Rattle.irs_accrue.proofs.interest.amount_of.Goals as goal

pub returns : goal.returns
returns c =
    let fr : FitsSigned w64 c.in_ok-rate.rate = search rules in
    let fm : FitsSigned w128 c.args.notional = c.ranges.notional in
    let fn : FitsSigned w64 c.args.frac.num = search rules in
    let fd : FitsSigned w64 c.args.frac.den = search rules in
    let fu : FitsSigned w128 c.interest.result.units = search rules in
    let v : c.unsigned_abs.result ≡ unsigned_abs c.in_ok-rate.rate = simp to_z-of_z at c.unsigned_abs.ensures.value in
    let h : IsInterest c.places.result c.args.notional c.in_ok-rate.rate c.args.frac c.interest.result =
    simp to_z-of_z at c.interest.ensures in (
      c.in_ok-rate.rate,
      record { is = search rules; within = omega (arith, v, c.if-unsigned_abs-gt-MOST_RATE.false) },
      rw c.places.ensures at h,
    )
