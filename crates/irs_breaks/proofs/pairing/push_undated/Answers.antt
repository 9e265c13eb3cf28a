use Rattle.std.proofs.Common.{◌≡◌, ℕ, None, arith, get_or, length, subst, sym, ◌∙◌}
use Rattle.std.proofs.lemmas.Option.{slice_get-get_or}
use Rattle.irs_breaks.specs.Private.Blocks.{ListsUndated}
use Rattle.irs_breaks.proofs.Listing.{ours_push, ours_skip}
use Rattle.irs_breaks.proofs.pairing.push_undated.Goals as goal
use Rattle.irs_breaks.proofs.pairing.push_undated.Goals.{then-is_undated+in_ok-push, else-is_undated}

pub loop-place-preserved : goal.loop-place-preserved
loop-place-preserved c =
    let date = get_or c.args.ours.now c.loop-place.place None in
    let at = slice_get-get_or c.args.ours.now c.loop-place.place None (omega arith) in
    let is = c.is_undated.ensures date at in
    elim c.if-is_undated.branch [
      | then-is_undated+in_ok-push w ↦
          rw (w.rows-is, w.in_ok-push.ensures.items)
          (ours_push c.args.ours.now c.args.rows.now.items c.loop-place.rows.items c.loop-place.place date at
          (sym is ∙ w.if-is_undated.true) c.loop-place.invariant)
      | else-is_undated w ↦
          rw w.rows-is (ours_skip c.args.ours.now c.args.rows.now.items c.loop-place.rows.items c.loop-place.place date at
          (sym is ∙ w.if-is_undated.false) c.loop-place.invariant)
    ]

pub returns : goal.returns
returns c =
    let e : c.loop-place.place ≡ length c.args.ours.now = omega arith in
    subst (λ (n : ℕ). ListsUndated c.args.ours.now c.args.rows.now.items c.loop-place.rows.items n) e c.loop-place.invariant
