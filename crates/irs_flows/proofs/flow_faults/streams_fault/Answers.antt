use Rattle.irs_flows.proofs.flow_faults.streams_fault.Goals as goal
use Rattle.irs_flows.specs.FlowFaults.{FlowStreamFault}
use Rattle.irs_read.proofs.Each.{each_all, each_first, each_step, many_first, none_first}
use Rattle.serde_json.specs.View.{view}
use Rattle.std.proofs.{Common.◌+◌, Common.Some, Common.ap, Common.arith, Common.map, lemmas.List.length-map}

pub returns-then-list-eq0 : goal.returns-then-list-eq0
returns-then-list-eq0 c =
    none_first _ (map view c.args.list.now) _ (omega (arith, length-map c.args.list.now view)) (ap Some c.at.ensures)

pub returns-then-list-gt-MOST_STREAMS : goal.returns-then-list-gt-MOST_STREAMS
returns-then-list-gt-MOST_STREAMS c =
    many_first _ (map view c.args.list.now) _ (omega (arith, length-map c.args.list.now view))
    (ap Some c.at-then-list-gt-MOST_STREAMS.ensures)

pub loop-j-preserved : goal.loop-j-preserved
loop-j-preserved c =
    each_step (λ j. FlowStreamFault (j + 1)) c.args.list.now c.loop-j.j c.index-list-j.result _ _ _ c.loop-j-test.true
    c.index-list-j.is c.earlier-first.ensures c.loop-j.invariant c.stream_fault.ensures

pub returns : goal.returns
returns c =
    let long = length-map c.args.list.now view in
    each_first (λ j. FlowStreamFault (j + 1)) (map view c.args.list.now) _ (omega (arith, long)) (omega (arith, long))
    (each_all _ c.args.list.now _ _ (omega (arith, c.loop-j-test.false)) c.loop-j.invariant)
