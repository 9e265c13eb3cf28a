use Rattle.std.proofs.Common.{◌≡◌, ◌+◌, ◌<◌, ◌++◌, ◌∙◌, List, length, ap, arith, append_assoc}
use Rattle.irs_accrue.specs.Accruals.{accrual_text}
use Rattle.irs_answers.specs.Tasks.{accrued_header, accruing}
use Rattle.irs_answers.proofs.AccrueLemmas.{accrued_next, part_at}
use Rattle.irs_answers.proofs.accruing.accrued_page.Goals as goal

pub loop-index-preserved : goal.loop-index-preserved
loop-index-preserved c =
    let d = c.args.date in
    let found = c.args.found.now in
    let x = accruing found.swap found.calendars.now found.fixings.now in
    let parts = found.schedule in
    let i = c.loop-index.index in
    let a = c.in_ok-accrual.accrual in
    let before = c.loop-index.invariant.lines in
    let line = c.bytes.result.now in
    let less : i < length parts =
    omega (arith, c.loop-index-test.true, c.stream_count-index-end.ensures.count, c.loop-index.auto.index-end) in
    let part = part_at parts i less in
    let next : line ≡ accrual_text (i + 1) a = c.bytes.ensures.bytes ∙ c.accrued_text.ensures in
    let grown : c.extend_from_slice.new.self.items ≡ c.loop-index.text.items ++ line =
    c.in_ok-extend_from_slice.ensures.items in
    record {
      lines = (
        before.0 ++ accrual_text (i + 1) a,
        accrued_next x d parts i part.0 a before.0 part.1 (c.in_ok-accrual.ensures.accrues part.0 part.1) before.1,
        grown ∙ ap (λ (l : List _). l ++ line) before.2 ∙ append_assoc (accrued_header d) before.0 line
            ∙ ap (λ (l : List _). accrued_header d ++ (before.0 ++ l)) next,
      );
    }
