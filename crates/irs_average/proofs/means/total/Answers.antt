use Rattle.std.proofs.Common.{rules, ◌≡◌, ◌+◌, ◌*◌, ◌^◌, ◌≤◌, ℤ, ◌+ℤ◌, drop, FitsSigned, to_z, sym, subst, ap, ◌∙◌}
use Rattle.std.specs.Prelude.{unsigned_abs}
use Rattle.std.specs.Int.{w128}
use Rattle.std.proofs.lemmas.Int.{to_z-of_z}
use Rattle.irs_base.specs.Days.{all_days}
use Rattle.irs_average.specs.Averages.{counted_rate, sum_over}
use Rattle.irs_average.proofs.MeanLemmas.{sum_step}
use Rattle.irs_average.proofs.means.total.Goals as goal

pub loop-place-preserved : goal.loop-place-preserved
loop-place-preserved c =
    let fits : FitsSigned w128 c.added-sum.result = search rules in
    let fits_one : FitsSigned w128 c.counted.result = search rules in
    let o = c.index-observations-place.result in
    let added : c.added-sum.result ≡ to_z w128 c.loop-place.sum-bits +ℤ c.counted.result =
    simp to_z-of_z at c.added-sum.ensures.value in
    let is : c.added-sum.result ≡ to_z w128 c.loop-place.sum-bits +ℤ counted_rate c.args.kind o =
    added ∙ ap (λ (x : ℤ). to_z w128 c.loop-place.sum-bits +ℤ x) c.counted.ensures.value in
    let more = sum_step (counted_rate c.args.kind) c.args.observations.now c.loop-place.place o
    (to_z w128 c.loop-place.sum-bits) c.loop-place-test.true
    (sym c.index-observations-place.is) c.loop-place.invariant.sums in
    let size : unsigned_abs c.added-sum.result ≤ (c.loop-place.place + 1) * (2 * 10 ^ 10 * all_days) =
    c.added-sum.ensures.size in
    simp to_z-of_z (record {
      sums = subst (λ (x : ℤ). x +ℤ sum_over (counted_rate c.args.kind)
          (drop (c.loop-place.place + 1) c.args.observations.now)
          ≡ sum_over (counted_rate c.args.kind) c.args.observations.now) (sym is) more;
      size = size;
    })
