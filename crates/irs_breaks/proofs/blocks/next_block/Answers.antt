use Rattle.std.proofs.Common.{ℤ, arith, inl, inr, refl, subst, sym}
use Rattle.irs_breaks.specs.Private.Blocks.{IsDateEnd}
use Rattle.irs_breaks.proofs.NextBlock.{date_block, gap_block, meets_common}
use Rattle.irs_breaks.proofs.blocks.next_block.Goals as goal

pub returns-then-p-i : goal.returns-then-p-i
returns-then-p-i c =
    let m = c.meet.ensures.meet c.if-meet.true in
    date_block c.args.ours.now c.args.theirs.now c.args.i c.args.j _ m.0.day c.requires.edge
    (meets_common c.args.ours.now c.args.theirs.now c.args.i c.args.j m) (c.date_end-p.ensures m.0 m.2)
    (subst (λ (d : ℤ). IsDateEnd c.args.theirs.now c.args.j d c.date_end-q.result) (sym m.4) (c.date_end-q.ensures m.1 m.3))
    (omega arith) (omega arith) (inl refl)

pub returns-else-p-i : goal.returns-else-p-i
returns-else-p-i c =
    let m = c.meet.ensures.meet c.if-meet.true in
    date_block c.args.ours.now c.args.theirs.now c.args.i c.args.j _ m.0.day c.requires.edge
    (meets_common c.args.ours.now c.args.theirs.now c.args.i c.args.j m) (c.date_end-p.ensures m.0 m.2)
    (subst (λ (d : ℤ). IsDateEnd c.args.theirs.now c.args.j d c.date_end-q.result) (sym m.4) (c.date_end-q.ensures m.1 m.3))
    (omega arith) (omega arith) (inr refl)

pub returns-then-p-i-2 : goal.returns-then-p-i-2
returns-then-p-i-2 c =
    gap_block c.args.ours.now c.args.theirs.now c.args.i c.args.j _ c.requires.ours c.requires.theirs c.requires.edge
    c.gap_end-p.ensures.gap c.gap_end-p.ensures.meets (c.meet.ensures.apart c.if-meet.false) c.requires.left
    (inl (omega arith, refl))

pub returns-else-p-i-2 : goal.returns-else-p-i-2
returns-else-p-i-2 c =
    gap_block c.args.ours.now c.args.theirs.now c.args.i c.args.j _ c.requires.ours c.requires.theirs c.requires.edge
    c.gap_end-p.ensures.gap c.gap_end-p.ensures.meets (c.meet.ensures.apart c.if-meet.false) c.requires.left
    (inr ((λ e. omega (arith, e)), refl))
