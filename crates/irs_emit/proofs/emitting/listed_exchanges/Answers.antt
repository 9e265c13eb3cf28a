use Rattle.irs_emit.proofs.emitting.listed_exchanges.Goals as goal
use Rattle.irs_emit.proofs.Pieces.{mapped_all, mapped_more}
use Rattle.irs_emit.specs.Emitted.{exchange_value}
use Rattle.irs_emit.specs.Private.Texts.{listed_text}
use Rattle.std.proofs.Common.{◌++◌, ◌∙◌, ap, false, map}

pub loop-j-preserved : goal.loop-j-preserved
loop-j-preserved c =
    mapped_more exchange_value c.exchanges-rows.result.now c.loop-j.j c.index-rows-j.result c.loop-j.later
    c.args.out.now.items
    c.loop-j.out.items c.comma.new.out.items c.exchange.new.out.items c.loop-j-test.true c.index-rows-j.is
    c.loop-j.invariant.0
    c.loop-j.invariant.1 c.in_ok-comma.ensures c.in_ok-exchange.ensures

pub returns : goal.returns
returns c =
    mapped_all exchange_value c.exchanges-rows.result.now c.loop-j.j c.args.out.now.items c.loop-j.out.items
    c.loop-j-test.false
    c.loop-j.invariant.0
    ∙ ap (λ xs. c.args.out.now.items ++ listed_text false (map exchange_value xs)) c.exchanges-rows.ensures.value
