use Rattle.std.proofs.Common.{◌≡◌, ◌+◌, ◌++◌, ◌∷◌, [], length, length-append, arith, ℕ}
use Rattle.irs_base.proofs.MemberLemmas.{numbered_push}
use Rattle.irs_observed.specs.Observations.{IsObservation}
use Rattle.irs_observed.specs.declared.observation.Observation.{Observation}
use Rattle.irs_observed.proofs.walk.observed.Goals as goal

pub loop-place-preserved : goal.loop-place-preserved
loop-place-preserved g c =
    let P : ℕ → Observation → Type 0 =
    IsObservation c.args.offset (g.G.GoodDays.days c.args.days.now) c.args.members.now c.args.end in
    let many = c.loop-place.invariant.many in
    let longer : length (c.loop-place.all.items ++ c.in-Some.o ∷ []) ≡ length c.loop-place.all.items + 1 =
    simp length-append in
    rw c.in_ok-push.ensures.items (record {
      many = omega (arith, many, longer);
      each = numbered_push P 0 c.loop-place.place c.loop-place.all.items c.in-Some.o c.loop-place.invariant.each
          (omega (arith, many)) c.in-Some.ensures.some;
    })
