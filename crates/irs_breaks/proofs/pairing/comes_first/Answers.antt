use Rattle.std.proofs.Common.{arith, sym, ◌∙◌}
use Rattle.std.proofs.lemmas.Option.{slice_get-get_or}
use Rattle.irs_breaks.proofs.Merging.{before_all, none_before}
use Rattle.irs_breaks.proofs.pairing.comes_first.Goals as goal

pub returns-else-p-ours-clause-first : goal.returns-else-p-ours-clause-first
returns-else-p-ours-clause-first c = λ h.
    before_all c.args.ours.now c.args.theirs.now c.args.p c.args.q _ _ c.requires.ours
    (slice_get-get_or c.args.ours.now c.args.p c.index-ours-p.result (omega arith))
    (slice_get-get_or c.args.theirs.now c.args.q c.index-theirs-q.result (omega arith)) (sym c.lt.ensures ∙ h)

pub returns-else-p-ours-clause-after : goal.returns-else-p-ours-clause-after
returns-else-p-ours-clause-after c = λ h.
    none_before c.args.ours.now c.args.theirs.now c.args.p c.args.q _ _ (omega arith)
    (slice_get-get_or c.args.ours.now c.args.p c.index-ours-p.result (omega arith))
    (slice_get-get_or c.args.theirs.now c.args.q c.index-theirs-q.result (omega arith)) (sym c.lt.ensures ∙ h)
