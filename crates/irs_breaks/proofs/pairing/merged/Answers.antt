use Rattle.std.proofs.Common.{arith}
use Rattle.irs_breaks.specs.Private.Blocks.{IsPartner}
use Rattle.irs_breaks.proofs.Merging.{merged_end, pairs_length, push_ours}
use Rattle.irs_breaks.proofs.pairing.merged.Goals as goal

pub paired_row-requires-clause-partners : goal.paired_row-requires-clause-partners
paired_row-requires-clause-partners c =
    let same = pairs_length (IsPartner c.args.ours.now c.args.theirs.now) c.args.ours.now c.args.of_ours.now
    c.requires.of_ours in
    omega (arith, same)

pub loop-p-preserved : goal.loop-p-preserved
loop-p-preserved c =
    rw c.in_ok-push.ensures.items
    (push_ours c.args.ours.now c.args.theirs.now c.loop-p.p c.in_ok-q.q c.push_before.new.rows.items c.args.of_ours.now
    c.paired_row.result c.requires.ours c.requires.of_ours c.in_ok-q.ensures (omega arith) c.paired_row.ensures)

pub returns : goal.returns
returns c =
    merged_end c.args.ours.now c.args.theirs.now c.in_ok-push_before.field-0 c.push_before-2.new.rows.items
    c.in_ok-push_before.ensures
