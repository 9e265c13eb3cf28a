use Rattle.std.proofs.Common.{arith, ap, sym, ◌∙◌, Option, ℤ}
use Rattle.irs_breaks.specs.Pairing.{dated_row}
use Rattle.irs_breaks.proofs.RowSteps.{all_rows, push_row, skip_row}
use Rattle.irs_breaks.proofs.dated.rows_of.Goals as goal
use Rattle.irs_breaks.proofs.dated.rows_of.Goals.{in-Some+in_ok-push, in_default}

pub loop-place-preserved : goal.loop-place-preserved
loop-place-preserved c = elim c.match-dated_row.branch [
  | in-Some+in_ok-push w ↦
      rw (w.rows-is, w.in_ok-push.ensures.items)
      (push_row c.args.from c.loop-place.place c.args.dates.now _ c.loop-place.rows.items _ (omega arith)
      (sym (c.dated_row.ensures ∙ ap (λ (d : Option ℤ). dated_row c.args.from d c.loop-place.place) c.index-dates-place.is)
      ∙ w.in-Some.is) ∙ c.loop-place.invariant)
  | in_default w ↦
      rw w.rows-is (skip_row c.args.from c.loop-place.place c.args.dates.now _ c.loop-place.rows.items (omega arith)
      (sym (c.dated_row.ensures ∙ ap (λ (d : Option ℤ). dated_row c.args.from d c.loop-place.place) c.index-dates-place.is)
      ∙ w.in_default.is) ∙ c.loop-place.invariant)
]

pub returns : goal.returns
returns c =
    sym (all_rows c.args.from c.loop-place.place c.args.dates.now c.loop-place.rows.items (omega arith))
    ∙ c.loop-place.invariant
