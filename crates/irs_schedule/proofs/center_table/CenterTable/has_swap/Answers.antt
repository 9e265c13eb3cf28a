use Rattle.std.proofs.Common.{length, refl, arith}
use Rattle.std.proofs.lemmas.Option.{slice_get_read, slice_get_within}
use Rattle.irs_base.proofs.EveryLemmas.{below_more}
use Rattle.irs_schedule.specs.Private.Layouts.{HasStream}
use Rattle.irs_schedule.proofs.center_table.CenterTable.has_swap.Goals as goal

pub loop-s-preserved : goal.loop-s-preserved
loop-s-preserved c =
    let xs = c.as_slice-s-items.result.now in
    let there = slice_get_read xs (length xs) c.loop-s.s-index c.s-item.result refl c.loop-s-test.true c.s-item.is in
    below_more (HasStream c.args.self.now) xs c.loop-s.s-index c.s-item.result there
    (c.has_stream.ensures c.if-not-has_stream.false) c.loop-s.invariant

pub returns : goal.returns
returns c = λ _. record {
  sections = refl;
  streams = λ i s there.
      let listed = rw (← c.as_slice-s-items.ensures) at there in
      let within = slice_get_within c.as_slice-s-items.result.now i s listed in
      c.loop-s.invariant i s (omega (arith, within, c.loop-s-test.false)) listed;
}
