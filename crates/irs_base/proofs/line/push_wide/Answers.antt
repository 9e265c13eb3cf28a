use Rattle.std.proofs.Common.{arith, length, ap, length-append}
use Rattle.std.proofs.Math.Nat.{one-le-pow}
use Rattle.irs_base.proofs.TextLemmas.{length_digit_row, with_point}
use Rattle.irs_base.proofs.line.push_wide.Goals as goal

pub nonzero_div-n : goal.nonzero_div-n
nonzero_div-n c = omega (arith, one-le-pow c.args.places 10 (omega arith), c.pow.ensures)

pub push_digits-requires : goal.push_digits-requires
push_digits-requires c =
    let whole = simp length-append at (ap length (with_point c.args.n c.args.places c.if-places-eq0.false)) in
    let first = simp (length-append, c.pow.ensures) at (ap length c.push_long-else-places-eq0.ensures) in
    let point = simp length-append at (ap length c.push.ensures) in
    omega (arith, whole, first, point, length_digit_row c.args.places c.args.n)
