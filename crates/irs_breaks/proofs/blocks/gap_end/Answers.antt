use Rattle.std.proofs.Common.{arith, inl, inr, sym, ◌∙◌}
use Rattle.std.proofs.lemmas.Option.{slice_get-get_or}
use Rattle.irs_breaks.proofs.GapSteps.{gap_ends, meeting, ours_first, theirs_first}
use Rattle.irs_breaks.proofs.blocks.gap_end.Goals as goal
use Rattle.irs_breaks.proofs.blocks.gap_end.Goals.{then-loop-p-test+then-q-theirs+else-ne, then-loop-p-test+else-q-theirs, else-loop-p-test}
use Rattle.irs_breaks.proofs.blocks.gap_end.Goals.{else-p-ours-via-then-p-ours+else-q-theirs-2, else-p-ours-via-else-p-ours}

pub loop-p-preserved-then-lt : goal.loop-p-preserved-then-lt
loop-p-preserved-then-lt c =
    ours_first c.args.ours.now c.args.theirs.now c.args.i c.args.j c.loop-p.p c.loop-p.q _ _ c.requires.theirs
    c.loop-p.invariant
    (slice_get-get_or c.args.ours.now c.loop-p.p c.index-ours-p-in-loop-p.result (omega arith))
    (slice_get-get_or c.args.theirs.now c.loop-p.q c.index-theirs-q-in-loop-p.result (omega arith))
    (sym c.lt.ensures ∙ c.if-lt.true)

pub loop-p-preserved : goal.loop-p-preserved
loop-p-preserved c =
    theirs_first c.args.ours.now c.args.theirs.now c.args.i c.args.j c.loop-p.p c.loop-p.q _ _ _ _ c.requires.ours
    c.loop-p.invariant
    (slice_get-get_or c.args.ours.now c.loop-p.p c.index-ours-p-in-loop-p.result (omega arith))
    (slice_get-get_or c.args.theirs.now c.loop-p.q c.index-theirs-q-in-loop-p.result (omega arith))
    (slice_get-get_or c.args.ours.now c.loop-p.p c.index-ours-p.result (omega arith))
    (slice_get-get_or c.args.theirs.now c.loop-p.q c.index-theirs-q.result (omega arith))
    (sym c.lt.ensures ∙ c.if-lt.false) (sym c.ne.ensures ∙ c.if-ne.true)

pub returns-then-q-theirs-2-clause-meets : goal.returns-then-q-theirs-2-clause-meets
returns-then-q-theirs-2-clause-meets c = elim c.loop-p-test.branch [
  | then-loop-p-test+then-q-theirs+else-ne w ↦
      meeting c.args.ours.now c.args.theirs.now c.loop-p.p c.loop-p.q _ _
      (slice_get-get_or c.args.ours.now c.loop-p.p w.index-ours-p.result (omega arith))
      (slice_get-get_or c.args.theirs.now c.loop-p.q w.index-theirs-q.result (omega arith))
      (sym w.ne.ensures ∙ w.if-ne.false)
  | then-loop-p-test+else-q-theirs w ↦ absurd (omega arith)
  | else-loop-p-test w ↦ absurd (omega arith)
]

pub returns-else-p-ours-clause-gap : goal.returns-else-p-ours-clause-gap
returns-else-p-ours-clause-gap c =
    gap_ends c.args.ours.now c.args.theirs.now c.args.i c.args.j c.loop-p.p c.loop-p.q c.loop-p.invariant
    (elim c.else-p-ours.branch [
      | else-p-ours-via-then-p-ours+else-q-theirs-2 w ↦ inr (omega arith)
      | else-p-ours-via-else-p-ours w ↦ inl (omega arith)
    ])
