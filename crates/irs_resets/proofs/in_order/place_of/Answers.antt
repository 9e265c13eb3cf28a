use Rattle.std.proofs.Common.{sym, ap, arith, ◌+◌, ◌-◌, ◌/◌, ℕ, slice_index_or}
use Rattle.std.specs.Ordering.{is_eq}
use Rattle.std.proofs.lemmas.Option.{slice_get-get_or}
use Rattle.irs_resets.proofs.OrderLemmas.{halved_down, halved_none, halved_up, place_here}
use Rattle.irs_resets.proofs.in_order.place_of.Goals as goal

pub loop-low-preserved-in-Greater : goal.loop-low-preserved-in-Greater
loop-low-preserved-in-Greater c =
    let h = c.loop-low.invariant in
    let mid : ℕ = c.loop-low.low + (c.loop-low.high - c.loop-low.low) / 2 in
    let d = c.index-entries-mid.result in
    let at = slice_get-get_or c.args.entries.now mid d (omega (arith, c.loop-low-test.true, h.within)) in
    halved_up c.args.entries.now c.args.slot.now c.loop-low.low c.loop-low.high mid
    (slice_index_or c.args.entries.now mid d) c.requires h (omega arith) (omega (arith, c.loop-low-test.true)) at
    (sym c.in-Greater.ensures)

pub returns-in-Equal-clause-some : goal.returns-in-Equal-clause-some
returns-in-Equal-clause-some c =
    let h = c.loop-low.invariant in
    let mid : ℕ = c.loop-low.low + (c.loop-low.high - c.loop-low.low) / 2 in
    let d = c.index-entries-mid.result in
    let at = slice_get-get_or c.args.entries.now mid d (omega (arith, c.loop-low-test.true, h.within)) in
    place_here c.args.entries.now c.args.slot.now mid (slice_index_or c.args.entries.now mid d) at
    (ap is_eq (sym c.in-Equal.ensures))

pub loop-low-preserved : goal.loop-low-preserved
loop-low-preserved c =
    let h = c.loop-low.invariant in
    let mid : ℕ = c.loop-low.low + (c.loop-low.high - c.loop-low.low) / 2 in
    let d = c.index-entries-mid.result in
    let at = slice_get-get_or c.args.entries.now mid d (omega (arith, c.loop-low-test.true, h.within)) in
    halved_down c.args.entries.now c.args.slot.now c.loop-low.low c.loop-low.high mid
    (slice_index_or c.args.entries.now mid d) c.requires h (omega arith) (omega (arith, c.loop-low-test.true)) at
    (sym c.in-Less.ensures)

pub returns-clause-none : goal.returns-clause-none
returns-clause-none c =
    halved_none c.args.entries.now c.args.slot.now c.loop-low.low c.loop-low.high c.requires c.loop-low.invariant
    (omega (arith, c.loop-low-test.false))
