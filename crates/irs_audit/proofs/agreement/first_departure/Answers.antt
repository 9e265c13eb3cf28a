use Rattle.std.proofs.Common.{arith}
use Rattle.irs_audit.specs.Private.Comparisons.{flow_parts_of}
use Rattle.irs_audit.proofs.StreamLemmas.{none_at_all, none_more, place_found}
use Rattle.irs_audit.proofs.agreement.first_departure.Goals as goal

pub returns-in-Some : goal.returns-in-Some
returns-in-Some c =
    let here = rw (c.item.ensures, c.at.ensures) at c.in-Some.ensures in
    place_found (flow_parts_of c.args.theirs) c.args.ours.now c.loop-place.place c.in-Some.d c.loop-place.invariant here

pub loop-place-preserved : goal.loop-place-preserved
loop-place-preserved c =
    let here = rw (c.item.ensures, c.at.ensures) at c.in_default.ensures in
    none_more (flow_parts_of c.args.theirs) c.args.ours.now c.loop-place.place c.loop-place.invariant here

pub returns : goal.returns
returns c = none_at_all (flow_parts_of c.args.theirs) c.args.ours.now
    (λ d h. c.loop-place.invariant d (omega (arith, h, c.loop-place-test.false)))
