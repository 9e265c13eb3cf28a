use Rattle.std.proofs.Common.{true, map, Bor, ◌∙◌, arith}
use Rattle.std.proofs.lemmas.List.{length-set}
use Rattle.irs_calendar.specs.declared.sections.Section.{Section}
use Rattle.irs_calendar.specs.Private.Closed.{off_on, IsStretch}
use Rattle.irs_calendar.proofs.ClosedLemmas.{table_more}
use Rattle.irs_calendar.proofs.weekends.shut_from.Goals as goal

pub loop-p-preserved : goal.loop-p-preserved
loop-p-preserved c =
    record {
      each = length-set c.loop-p.shut c.loop-p.p c.stretch.result ∙ c.loop-p.invariant.each;
      old = table_more (λ q n. IsStretch (off_on (map {A = Bor Section} {B = Section} (λ s. s.now) c.args.sections.now))
          true q (n)) c.loop-p.shut c.loop-p.p c.stretch.result
          (omega (arith, c.loop-p.invariant.each, c.loop-p-test.true)) c.stretch.ensures c.loop-p.invariant.old;
    }
