use Rattle.irs_read.proofs.Each.{each_all, each_first, each_step, many_first, none_first}
use Rattle.irs_read.proofs.swap.streams_fault.Goals as goal
use Rattle.irs_read.{proofs.TableLaws.names_are, proofs.TableLaws.rows_are, specs.Documents.StreamFault}
use Rattle.serde_json.specs.View.{view}
use Rattle.std.proofs.{Common.Some, Common.ap, Common.arith, Common.map, lemmas.List.length-map}

pub returns-then-list-eq0 : goal.returns-then-list-eq0
returns-then-list-eq0 c =
    none_first _ (map view c.args.list.now) _ (omega (arith, length-map c.args.list.now view))
    (ap Some c.outside.ensures)

pub returns-then-list-gt-MOST_STREAMS : goal.returns-then-list-gt-MOST_STREAMS
returns-then-list-gt-MOST_STREAMS c =
    many_first _ (map view c.args.list.now) _ (omega (arith, length-map c.args.list.now view))
    (ap Some c.outside-then-list-gt-MOST_STREAMS.ensures)

pub loop-j-preserved : goal.loop-j-preserved
loop-j-preserved c =
    each_step StreamFault c.args.list.now c.loop-j.j c.index-list-j.result _ _ _ c.loop-j-test.true c.index-list-j.is
    c.earlier-first.ensures c.loop-j.invariant (rw rows_are at (rw names_are at c.first_fault.ensures))

pub returns : goal.returns
returns c =
    let long = length-map c.args.list.now view in
    each_first StreamFault (map view c.args.list.now) _ (omega (arith, long)) (omega (arith, long))
    (each_all _ c.args.list.now _ _ (omega (arith, c.loop-j-test.false)) c.loop-j.invariant)
