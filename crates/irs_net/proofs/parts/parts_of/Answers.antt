use Rattle.std.proofs.Common.{rules, ◌≡◌, ◌<◌, ◌++◌, length, add-one, ap, sym, ◌∙◌, false, get_or, List, arith}
use Rattle.irs_net.specs.Nets.{net_parts_of}
use Rattle.irs_net.specs.declared.parts.NetPart.{NetPart}
use Rattle.irs_net.proofs.PartLemmas.{parts_few, parts_more, parts_small}
use Rattle.irs_net.proofs.parts.parts_of.Goals as goal

pub returns-in_err-add_stream-clause-few : goal.returns-in_err-add_stream-clause-few
returns-in_err-add_stream-clause-few c =
    parts_few c.args.s.now c.args.sides.now.forward c.streams-stream-items.ensures.bounds

pub returns-in_err-add_stream-clause-small : goal.returns-in_err-add_stream-clause-small
returns-in_err-add_stream-clause-small c =
    parts_small c.args.s.now c.args.sides.now.forward c.streams-stream-items.ensures.bounds

pub returns-clause-few : goal.returns-clause-few
returns-clause-few c = parts_few c.args.s.now c.args.sides.now.forward c.streams-stream-items.ensures.bounds

pub returns-clause-small : goal.returns-clause-small
returns-clause-small c = parts_small c.args.s.now c.args.sides.now.forward c.streams-stream-items.ensures.bounds

pub loop-i-preserved : goal.loop-i-preserved
loop-i-preserved c =
    let bs = c.args.sides.now.forward in
    let ps = c.args.s.now in
    let i = c.loop-i.i in
    let p = c.stream-item.result in
    let low : i < length ps = search rules in
    let few = c.streams-stream-items.ensures.bounds.few in
    let eight : length bs ≡ 8 = search rules in
    let is : p ≡ get_or ps i p = search rules in
    rw add-one (c.in_ok-add_stream.ensures
    ∙ ap (λ (ns : List NetPart). ns ++ net_parts_of (get_or bs i false) p) c.loop-i.invariant
    ∙ sym (parts_more ps bs i p low (omega (arith, eight, few, low)) is))
