use Rattle.std.proofs.Common.{List, subst, sym}
use Rattle.std.specs.List.Sorted.{IsPermutation}
use Rattle.irs_breaks.specs.Pairing.{rows_from}
use Rattle.irs_breaks.specs.declared.dated.DatedRow.{DatedRow}
use Rattle.irs_breaks.proofs.Listing.{paired_all}
use Rattle.irs_breaks.proofs.PlacedRows.{rows_placed}
use Rattle.irs_breaks.proofs.pairing.pair_rows.Goals as goal

pub returns-clause-pairing : goal.returns-clause-pairing
returns-clause-pairing c =
    paired_all c.args.from c.args.ours.now c.args.theirs.now c.deref-5.result.now c.deref-6.result.now
    c.in_ok-rows.rows.items c.push_undated.new.rows.items c.push_undated_extras.new.rows.items
    (subst (λ (z : List DatedRow). IsPermutation (rows_from c.args.from 0 c.args.ours.now) z) (sym c.deref-5.ensures.value)
    c.in_ok-our_rows.ensures.same)
    (subst (λ (z : List DatedRow). IsPermutation (rows_from c.args.from 0 c.args.theirs.now) z) (sym c.deref-6.ensures.value)
    c.in_ok-their_rows.ensures.same)
    c.in_ok-rows.ensures c.in_ok-push_undated.ensures c.in_ok-push_undated_extras.ensures

pub returns-clause-placed : goal.returns-clause-placed
returns-clause-placed c =
    rows_placed c.args.from c.args.ours.now c.args.theirs.now c.push_undated_extras.new.rows.items
    (returns-clause-pairing c)
