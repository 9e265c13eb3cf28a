use Rattle.std.proofs.Common.{◌≡◌, length, Some, refl, ◌≤◌}
use Rattle.std.specs.Prelude.{slice_get}
use Rattle.std.proofs.lemmas.Option.{slice_get_read}
use Rattle.irs_rules.proofs.Streams.{swap_first, swap_none, no_stream_more}
use Rattle.irs_rules.proofs.terms.check_terms.Goals as goal

pub returns : goal.returns
returns c =
    let all : length c.args.swap.now.streams ≤ c.loop-i.i = rw c.as_slice-s-items.ensures at c.loop-i-test.false in
    record { meets = swap_none c.args.swap.now c.args.cal.now c.loop-i.i all c.loop-i.invariant }

pub returns-in-Some : goal.returns-in-Some
returns-in-Some c =
    let read : slice_get c.as_slice-s-items.result.now c.loop-i.i ≡ Some c.s-item.result =
    slice_get_read c.as_slice-s-items.result.now _ c.loop-i.i c.s-item.result refl c.loop-i-test.true c.s-item.is in
    let found : slice_get c.args.swap.now.streams c.loop-i.i ≡ Some c.s-item.result =
    rw c.as_slice-s-items.ensures at read in
    record {
      meets = rw c.in_stream.ensures
          (swap_first c.args.swap.now c.args.cal.now c.loop-i.i c.s-item.result c.in-Some.fault found
          c.loop-i.invariant (rw c.in-Some.is at c.first_in_stream.ensures));
    }

pub loop-i-preserved : goal.loop-i-preserved
loop-i-preserved c =
    let read : slice_get c.as_slice-s-items.result.now c.loop-i.i ≡ Some c.s-item.result =
    slice_get_read c.as_slice-s-items.result.now _ c.loop-i.i c.s-item.result refl c.loop-i-test.true c.s-item.is in
    let found : slice_get c.args.swap.now.streams c.loop-i.i ≡ Some c.s-item.result =
    rw c.as_slice-s-items.ensures at read in
    no_stream_more c.args.swap.now.streams c.args.cal.now c.loop-i.i c.s-item.result found c.loop-i.invariant
    (rw c.in_default.is at c.first_in_stream.ensures)
