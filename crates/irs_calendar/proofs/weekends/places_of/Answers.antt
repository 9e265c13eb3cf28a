use Rattle.std.proofs.Common.{◌≡◌, ◌+◌, ◌%◌, refl, slice_index_or, ◌∙◌, arith}
use Rattle.std.proofs.lemmas.List.{length-set}
use Rattle.irs_calendar.proofs.ClosedLemmas.{table_more}
use Rattle.irs_calendar.proofs.weekends.places_of.Goals as goal

pub loop-p-preserved : goal.loop-p-preserved
loop-p-preserved c =
    record {
      each = length-set c.loop-p.places c.loop-p.p ((c.loop-p.p + slice_index_or c.args.next.now c.loop-p.p 0) % 7)
          ∙ c.loop-p.invariant.each;
      old = table_more (λ q n. n ≡ (q + slice_index_or c.args.next.now q 0) % 7) c.loop-p.places c.loop-p.p
          ((c.loop-p.p + slice_index_or c.args.next.now c.loop-p.p 0) % 7)
          (omega (arith, c.loop-p.invariant.each, c.loop-p-test.true)) refl c.loop-p.invariant.old;
    }
