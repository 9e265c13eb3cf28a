use Rattle.std.proofs.Common.{◌≡◌, ◌+◌, Option, subst}
use Rattle.std.specs.Prelude.{option_copied, slice_get}
use Rattle.irs_schedule.specs.Parts.{Part}
use Rattle.irs_flows.specs.FlowReading.{FlowPart}
use Rattle.irs_breaks.specs.BreakLists.{IsStream, StreamAt}
use Rattle.irs_breaks.specs.Private.Findings.{Adds}
use Rattle.irs_breaks.proofs.Joining.{adds_more}
use Rattle.irs_breaks.proofs.StreamsTold.{there}
use Rattle.irs_breaks.proofs.streams.push_streams.Goals as goal

pub loop-place-preserved : goal.loop-place-preserved
loop-place-preserved c =
    let ours : option_copied c.get.result ≡ slice_get c.args.ours.now c.loop-place.place =
    there c.args.ours.now c.loop-place.place c.get.result c.get.ensures.lookup in
    let theirs : option_copied c.get-in-loop-place.result ≡ slice_get c.args.theirs.now c.loop-place.place =
    there c.args.theirs.now c.loop-place.place c.get-in-loop-place.result c.get-in-loop-place.ensures.lookup in
    adds_more (StreamAt c.args.from c.args.ours.now c.args.theirs.now) c.loop-place.place c.args.list.now c.loop-place.list
    c.push_both.new.list c.loop-place.invariant
    (subst (λ (o : Option Part). Adds (IsStream c.args.from (c.loop-place.place + 1) o
    (slice_get c.args.theirs.now c.loop-place.place)) c.loop-place.list c.push_both.new.list) ours
    (subst (λ (q : Option FlowPart). Adds (IsStream c.args.from (c.loop-place.place + 1) (option_copied c.get.result) q)
    c.loop-place.list c.push_both.new.list) theirs c.in_ok-push_both.ensures))
