use Rattle.std.proofs.Common.{map, length, sym, ◌∙◌, arith}
use Rattle.std.proofs.lemmas.List.{length-map}
use Rattle.serde_json.specs.View.{view}
use Rattle.irs_net.proofs.SideLemmas.{first_k8, seen_at, sides_done, sides_more}
use Rattle.irs_net.proofs.sides.sides_of.Goals as goal

pub returns-in-None-clause-broken : goal.returns-in-None-clause-broken
returns-in-None-clause-broken c =
    let vs = c.args.streams.now in
    let some = c.requires.some in
    rw c.broken_at.ensures
    (first_k8 (map view vs) c.loop-i.i c.loop-i.forward (view c.index-streams-0.result)
    (view c.index-streams-i.result)
    (seen_at vs 0 c.index-streams-0.result some c.index-streams-0.is)
    (seen_at vs c.loop-i.i c.index-streams-i.result c.loop-i-test.true c.index-streams-i.is)
    (sym c.side.ensures ∙ c.in-None.is) c.loop-i.invariant)

pub loop-i-preserved : goal.loop-i-preserved
loop-i-preserved c =
    let vs = c.args.streams.now in
    let some = c.requires.some in
    let few = c.requires.few in
    let low = c.loop-i-test.true in
    sides_more (map view vs) c.loop-i.i c.loop-i.forward (view c.index-streams-0.result)
    (view c.index-streams-i.result) c.in-Some.is_forward
    (seen_at vs 0 c.index-streams-0.result some c.index-streams-0.is)
    (seen_at vs c.loop-i.i c.index-streams-i.result low c.index-streams-i.is)
    (omega (arith, few, low)) (sym c.side.ensures ∙ c.in-Some.is) c.loop-i.invariant

pub returns-clause-sides : goal.returns-clause-sides
returns-clause-sides c =
    let vs = c.args.streams.now in
    let end = c.loop-i.auto.i-end in
    let past = c.loop-i-test.false in
    sides_done (map view vs) c.loop-i.i (length vs) c.loop-i.forward (omega (arith, end, past))
    (sym (length-map vs view)) c.loop-i.invariant
