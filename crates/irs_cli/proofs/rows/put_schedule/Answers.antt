use Rattle.std.proofs.Common.{◌≡◌, ℕ, List, ◌∷◌, ◌++◌, ◌∙◌, subst}
use Rattle.irs_schedule.specs.declared.row.Row.{Row}
use Rattle.irs_schedule.specs.RowsOf.{RowHasPlaces, row_text_of, schedule_text, text_from}
use Rattle.irs_cli.specs.Private.Pages.{Through}
use Rattle.irs_cli.proofs.PutLemmas.{through_page, through_last, through_part, through_last_part}
use Rattle.irs_cli.proofs.PutLemmas.{through_row, through_end, on_err, on_ok_then, on_err_then}
use Rattle.irs_base.specs.Lists.{Every}
use Rattle.irs_cli.proofs.rows.put_schedule.Goals as goal

pub loop-row-preserved : goal.loop-row-preserved
loop-row-preserved g c =
    let row = c.in-Some.row in
    let rest = c.next.new.self in
    let text = schedule_text c.args.schedule.now in
    let start = g.S.Sink.written c.args.out.now in
    let before = g.S.Sink.written c.loop-row.out in
    let now = g.S.Sink.written c.add-in-loop-row.new.out in
    let waited = c.loop-row.page in
    let waits = c.add-in-loop-row.new.self in
    let rows : c.loop-row.row-iterator ≡ row ∷ rest = c.in-Some.ensures.steps in
    let E : List Row → Type 0 = λ l. Every RowHasPlaces l in
    let T : List ℕ → Type 0 = λ l. Through before now waits (waited ++ l) in
    let taken : Through before now waits (waited ++ row_text_of row) =
    subst T (c.bytes.ensures.bytes ∙ c.row_text.ensures) c.in_ok-add-2.ensures.ok in
    record {
      put = through_page start before now waited (row_text_of row) waits (text_from rest) text
          (through_row start before waited c.loop-row.row-iterator row rest text rows c.loop-row.invariant.put) taken;
      quiet = c.in_ok-add-2.ensures.quiet ∙ c.loop-row.invariant.quiet;
      places = (subst E rows c.loop-row.invariant.places).1;
    }

pub returns-in_err-add-2-clause-err : goal.returns-in_err-add-2-clause-err
returns-in_err-add-2-clause-err g c =
    on_err c.from_residual-in_err-add-2.result
    (through_part (g.S.Sink.written c.args.out.now) (g.S.Sink.written c.loop-row.out)
    (g.S.Sink.written c.add-in-loop-row.new.out) c.loop-row.page (text_from c.loop-row.row-iterator)
    (schedule_text c.args.schedule.now) c.loop-row.invariant.put c.in_err-add-2.ensures.err)

pub returns-in_err-add-3-clause-err : goal.returns-in_err-add-3-clause-err
returns-in_err-add-3-clause-err g c =
    on_err c.from_residual-in_err-add-3.result
    (through_part (g.S.Sink.written c.args.out.now) (g.S.Sink.written c.loop-row.out)
    (g.S.Sink.written c.add-2.new.out) c.loop-row.page (text_from c.loop-row.row-iterator)
    (schedule_text c.args.schedule.now) c.loop-row.invariant.put c.in_err-add-3.ensures.err)

pub returns-clause-ok : goal.returns-clause-ok
returns-clause-ok g c =
    let text = schedule_text c.args.schedule.now in
    let start = g.S.Sink.written c.args.out.now in
    let last = g.S.Sink.written c.add-2.new.out in
    let waits = c.add-2.new.self in
    let left : Through start last waits text =
    through_end start (g.S.Sink.written c.loop-row.out) last c.loop-row.page waits c.loop-row.row-iterator text
    c.in-None.ensures.steps.0 c.loop-row.invariant.put c.in_ok-add-3.ensures.ok in
    on_ok_then c.put.result c.put.ensures.ok
    (λ h. through_last start last (g.S.Sink.written c.put.new.out) waits text left h)

pub returns-clause-err : goal.returns-clause-err
returns-clause-err g c =
    let text = schedule_text c.args.schedule.now in
    let start = g.S.Sink.written c.args.out.now in
    let last = g.S.Sink.written c.add-2.new.out in
    let waits = c.add-2.new.self in
    let left : Through start last waits text =
    through_end start (g.S.Sink.written c.loop-row.out) last c.loop-row.page waits c.loop-row.row-iterator text
    c.in-None.ensures.steps.0 c.loop-row.invariant.put c.in_ok-add-3.ensures.ok in
    on_err_then c.put.result c.put.ensures.err
    (λ h. through_last_part start last (g.S.Sink.written c.put.new.out) waits text left h)
