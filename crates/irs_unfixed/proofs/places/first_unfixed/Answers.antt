use Rattle.std.proofs.Common.{◌≡◌, Some, arith}
use Rattle.std.specs.Prelude.{slice_get}
use Rattle.irs_base.proofs.MemberLemmas.{every_get, none_of_more}
use Rattle.irs_audit.proofs.BoundLemmas.{payments_few}
use Rattle.irs_schedule.specs.Parts.{KeepsBounds}
use Rattle.irs_unfixed.proofs.MissingLemmas.{read_at}
use Rattle.irs_unfixed.proofs.PlaceLemmas.{LacksOf, first_place, none_place}
use Rattle.irs_unfixed.proofs.places.first_unfixed.Goals as goal

pub first_of-requires : goal.first_of-requires
first_of-requires c =
    let parts = c.args.schedule.now in
    let p = c.part-item.result in
    let at : slice_get parts c.loop-place.place ≡ Some p =
    read_at parts c.streams-part-items.result.now c.loop-place.place p c.streams-part-items.ensures.value
    (rw c.streams-part-items.ensures.value at c.loop-place-test.true) c.part-item.is in
    let kept : KeepsBounds p =
    every_get KeepsBounds parts c.loop-place.place p c.streams-part-items.ensures.bounds.each at in
    let many = payments_few p kept in
    let few = kept.few in
    rw c.payments.ensures.value (omega (arith, many, few))

pub returns-in-Some : goal.returns-in-Some
returns-in-Some c =
    let parts = c.args.schedule.now in
    let p = c.part-item.result in
    let at : slice_get parts c.loop-place.place ≡ Some p =
    read_at parts c.streams-part-items.result.now c.loop-place.place p c.streams-part-items.ensures.value
    (rw c.streams-part-items.ensures.value at c.loop-place-test.true) c.part-item.is in
    first_place parts c.loop-place.place p at c.loop-place.invariant c.in-Some.payment
    (rw c.payments.ensures.value at c.in-Some.ensures)

pub loop-place-preserved : goal.loop-place-preserved
loop-place-preserved c = λ payment.
    let parts = c.args.schedule.now in
    let p = c.part-item.result in
    let at : slice_get parts c.loop-place.place ≡ Some p =
    read_at parts c.streams-part-items.result.now c.loop-place.place p c.streams-part-items.ensures.value
    (rw c.streams-part-items.ensures.value at c.loop-place-test.true) c.part-item.is in
    none_of_more (LacksOf payment) parts c.loop-place.place p at
    (rw c.payments.ensures.value at c.in_default.ensures payment) (c.loop-place.invariant payment)

pub returns : goal.returns
returns c =
    none_place c.args.schedule.now c.loop-place.place (rw c.streams-part-items.ensures.value at c.loop-place-test.false)
    c.loop-place.invariant
