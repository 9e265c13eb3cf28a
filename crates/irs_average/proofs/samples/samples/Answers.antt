use Rattle.irs_calendar.specs.GoodDays.{DaySet}
use Rattle.irs_overnight.specs.Observations.{RateLines}
use Rattle.irs_average.specs.Averages.{own_lines, AreSamples}
use Rattle.irs_average.proofs.SampleLemmas.{in_order, lacks_none, samples_pushed, shares_out, whole}
use Rattle.irs_average.proofs.samples.samples.Goals as goal

pub loop-k-preserved : goal.loop-k-preserved
loop-k-preserved g c =
    let lines : RateLines = own_lines c.args.fix.now c.args.float.now in
    let set : DaySet = g.G.GoodDays.days c.args.days.now in
    let steps = c.args.steps.now in
    samples_pushed lines set steps.start steps.end steps.step steps.count c.loop-k.k c.loop-k.all.items
    c.push.new.self.items c.in-Some.found c.loop-k.invariant c.in-Some.ensures.some c.in-Some.ensures.small
    (c.in_ok-push.ensures {u = tt}).items

pub returns-clause-some : goal.returns-clause-some
returns-clause-some g c =
    let lines : RateLines = own_lines c.args.fix.now c.args.float.now in
    let set : DaySet = g.G.GoodDays.days c.args.days.now in
    let steps = c.args.steps.now in
    whole lines set steps.start steps.end steps.step steps.count c.loop-k.k c.loop-k.all.items steps.counted
    c.loop-k-test.false c.loop-k.auto.k-end c.loop-k.invariant

pub returns-clause-shares : goal.returns-clause-shares
returns-clause-shares g c =
    let lines : RateLines = own_lines c.args.fix.now c.args.float.now in
    let set : DaySet = g.G.GoodDays.days c.args.days.now in
    let steps = c.args.steps.now in
    let are : AreSamples lines set steps.step steps.start steps.end c.loop-k.all.items =
    whole lines set steps.start steps.end steps.step steps.count c.loop-k.k c.loop-k.all.items steps.counted
    c.loop-k-test.false c.loop-k.auto.k-end c.loop-k.invariant in
    shares_out lines set steps.step steps.start steps.end c.loop-k.all.items
    (in_order steps.start steps.end steps.step steps.count steps.counted c.requires.some) are

pub returns-clause-unbroken : goal.returns-clause-unbroken
returns-clause-unbroken g c =
    let lines : RateLines = own_lines c.args.fix.now c.args.float.now in
    let set : DaySet = g.G.GoodDays.days c.args.days.now in
    let steps = c.args.steps.now in
    let are : AreSamples lines set steps.step steps.start steps.end c.loop-k.all.items =
    whole lines set steps.start steps.end steps.step steps.count c.loop-k.k c.loop-k.all.items steps.counted
    c.loop-k-test.false c.loop-k.auto.k-end c.loop-k.invariant in
    lacks_none lines set steps.step steps.start steps.end c.loop-k.all.items are
