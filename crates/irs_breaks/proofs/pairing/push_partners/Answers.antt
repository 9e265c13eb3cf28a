use Rattle.std.proofs.Common.{◌<◌, arith, length}
use Rattle.irs_breaks.proofs.Merging.{row_more}
use Rattle.irs_breaks.proofs.pairing.push_partners.Goals as goal

pub loop-k-preserved : goal.loop-k-preserved
loop-k-preserved c =
    let high = c.requires.block.edge.in_ours in
    let within : c.loop-k.k < length c.args.ours.now = omega (arith, high) in
    rw c.in_ok-push.ensures.items (row_more c.args.ours.now c.args.theirs.now c.loop-k.k c.loop-k.partners.items c.partner.result
    within c.loop-k.invariant c.partner.ensures)
