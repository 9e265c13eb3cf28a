use Rattle.irs_emit_xml.proofs.emitting.exchanges.Goals as goal
use Rattle.irs_emit_xml.specs.Flows.{exchange_node}
use Rattle.irs_emit_xml.specs.Private.Flows.{lines}
use Rattle.irs_emit_xml.proofs.Walks.{mapped_all, mapped_more}
use Rattle.std.proofs.Common.{◌∙◌, ◌++◌, ap, map}

pub loop-j-preserved : goal.loop-j-preserved
loop-j-preserved c =
    mapped_more 3 exchange_node c.exchanges-rows.result.now c.loop-j.j c.index-rows-j.result c.args.out.now.items
    c.loop-j.out.items
    c.exchange.new.out.items c.loop-j-test.true c.index-rows-j.is c.loop-j.invariant c.in_ok-exchange.ensures

pub returns : goal.returns
returns c =
    let done = mapped_all 3 exchange_node c.exchanges-rows.result.now c.loop-j.j c.args.out.now.items c.loop-j.out.items
    c.loop-j-test.false
    c.loop-j.invariant in
    done ∙ ap (λ xs. c.args.out.now.items ++ lines 3 (map exchange_node xs)) c.exchanges-rows.ensures.value
