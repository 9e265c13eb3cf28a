use Rattle.std.proofs.Common.{◌≡◌, ◌+◌, ◌*◌, ◌<◌, ◌≤◌, length, rules, arith, FitsSigned, to_z, ◌+ℤ◌, unsigned_abs, ◌∙◌}
use Rattle.std.specs.Prelude.{slice_get, IfSome}
use Rattle.std.specs.Int.{w128}
use Rattle.std.proofs.lemmas.Int.{to_z-of_z}
use Rattle.irs_bulk.specs.Private.BulkRuns.{most_stated_amount}
use Rattle.irs_bulk.proofs.SumLemmas.{days_more}
use Rattle.irs_bulk.proofs.summing.stream_days.Goals as goal

pub loop-place-preserved : goal.loop-place-preserved
loop-place-preserved c =
    let fb : FitsSigned w128 c.args.before = c.ranges.before in
    let fk : FitsSigned w128 c.days_at.result = search rules in
    let fs : FitsSigned w128 c.sum-days.result = search rules in
    let low : c.loop-place.place < length c.args.part.now.periods =
    rw (← c.periods-place-end.ensures.count) c.loop-place-test.true in
    let so_far : unsigned_abs (to_z w128 c.loop-place.days-bits)
    ≤ unsigned_abs c.args.before + c.loop-place.place * most_stated_amount =
    simp to_z-of_z at c.loop-place.invariant.size in
    let one : unsigned_abs c.days_at.result ≤ most_stated_amount = c.days_at.ensures.size in
    let there : IfSome (slice_get c.args.part.now.periods c.loop-place.place) (λ e. c.days_at.result ≡ e.days) =
    c.days_at.ensures.value in
    let size : unsigned_abs c.sum-days.result ≤ unsigned_abs (to_z w128 c.loop-place.days-bits)
    + unsigned_abs c.days_at.result = simp to_z-of_z at c.sum-days.ensures.size in
    let value : c.sum-days.result ≡ to_z w128 c.loop-place.days-bits +ℤ c.days_at.result =
    simp to_z-of_z at c.sum-days.ensures.value in
    record {
      rest = simp to_z-of_z
          (rw value (days_more (to_z w128 c.loop-place.days-bits) c.days_at.result c.args.part.now.periods
          c.loop-place.place low there ∙ (simp to_z-of_z at c.loop-place.invariant.rest)));
      size = simp to_z-of_z (omega (arith, so_far, one, size));
    }
