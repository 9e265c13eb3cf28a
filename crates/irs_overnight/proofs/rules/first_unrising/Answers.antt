use Rattle.std.proofs.Common.{◌≡◌, arith, sym, false}
use Rattle.std.specs.Ordering.{int_cmp, is_le}
use Rattle.jiff_core.proofs.SignedLemmas.{signed_arith}
use Rattle.irs_base.proofs.Orders.{le_false}
use Rattle.irs_overnight.proofs.RowLemmas.{rises_more}
use Rattle.irs_overnight.proofs.rules.first_unrising.Goals as goal

pub loop-place-preserved : goal.loop-place-preserved
loop-place-preserved c =
    let x = c.index-resets-place.result in
    let y = c.index-resets-place-in-loop-place.result in
    let tested : is_le (int_cmp x.fixing y.fixing) ≡ false =
    rw (sym c.index-resets-place.is, sym c.index-resets-place-in-loop-place.is) at
    (sym (c.if-le.ensures {u = tt})) in
    let later = le_false x.fixing y.fixing tested in
    rises_more c.args.resets.now c.loop-place.place x y c.loop-place.auto.place c.loop-place-test.true
    c.index-resets-place.is c.index-resets-place-in-loop-place.is
    (λ h. omega (arith, signed_arith, h, later)) c.loop-place.invariant
