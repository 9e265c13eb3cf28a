use Rattle.std.proofs.Common.{false, ◌+◌, ◌-◌, ◌≤◌, ◌%◌, subst, slice_index_or, map, Bor, ◌∙◌, arith}
use Rattle.std.proofs.lemmas.List.{length-set}
use Rattle.irs_calendar.specs.declared.sections.Section.{Section}
use Rattle.irs_calendar.specs.Private.Closed.{off_on, IsStretch}
use Rattle.irs_calendar.proofs.ClosedLemmas.{table_more}
use Rattle.irs_calendar.proofs.weekends.next_behind.Goals as goal

pub loop-p-preserved : goal.loop-p-preserved
loop-p-preserved c =
    record {
      each = length-set c.loop-p.next c.loop-p.p (slice_index_or c.args.shut.now c.loop-p.p 0 + c.stretch.result)
          ∙ c.loop-p.invariant.each;
      old = table_more (λ q n. (slice_index_or c.args.shut.now q 0 ≤ n)
          × IsStretch (off_on (map {A = Bor Section} {B = Section} (λ s. s.now) c.args.sections.now)) false
          ((q + slice_index_or c.args.shut.now q 0) % 7) (n - slice_index_or c.args.shut.now q 0)) c.loop-p.next
          c.loop-p.p (slice_index_or c.args.shut.now c.loop-p.p 0 + c.stretch.result)
          (omega (arith, c.loop-p.invariant.each, c.loop-p-test.true)) (
            omega arith,
            subst (IsStretch (off_on (map {A = Bor Section} {B = Section} (λ s. s.now) c.args.sections.now)) false
                ((c.loop-p.p + slice_index_or c.args.shut.now c.loop-p.p 0) % 7)) (omega arith) c.stretch.ensures,
          )
          c.loop-p.invariant.old;
    }
