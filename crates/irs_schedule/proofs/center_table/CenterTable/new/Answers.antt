use Rattle.std.proofs.Common.{length, refl, ◌∙◌, arith}
use Rattle.std.proofs.lemmas.Option.{slice_get_read, slice_get_within}
use Rattle.irs_schedule.proofs.CenterLemmas.{one_more_stream}
use Rattle.irs_schedule.proofs.center_table.CenterTable.new.Goals as goal

pub add_stream-requires-clause-kept : goal.add_stream-requires-clause-kept
add_stream-requires-clause-kept c =
    let listed = slice_get_read c.as_slice-s-items.result.now (length c.as_slice-s-items.result.now) c.loop-s.s-index
    c.s-item.result refl c.loop-s-test.true c.s-item.is in
    rw c.loop-s.invariant.sections
    (c.requires.kept c.loop-s.s-index c.s-item.result (rw c.as_slice-s-items.ensures at listed))

pub loop-s-preserved : goal.loop-s-preserved
loop-s-preserved c = record {
  sections = c.in_ok-add_stream.ensures.grows.sections ∙ c.loop-s.invariant.sections;
  streams = one_more_stream c.as_slice-s-items.result.now c.loop-s.s-index c.s-item.result c.loop-s.table
      c.add_stream.new.self c.loop-s-test.true c.s-item.is c.in_ok-add_stream.ensures c.loop-s.invariant.streams;
}

pub returns : goal.returns
returns c = record {
  sections = c.loop-s.invariant.sections;
  streams = λ i s there.
      let listed = rw (← c.as_slice-s-items.ensures) at there in
      let within = slice_get_within c.as_slice-s-items.result.now i s listed in
      c.loop-s.invariant.streams i s (omega arith) listed;
}
