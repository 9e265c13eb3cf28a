use Rattle.std.proofs.Common.{sym, ap, ◌∙◌, length, arith, ◌-◌, slice_index_or}
use Rattle.std.specs.Ordering.{is_lt}
use Rattle.std.proofs.lemmas.Option.{slice_get-get_or}
use Rattle.irs_resets.specs.SlotOrder.{slot_cmp}
use Rattle.irs_resets.proofs.OrderLemmas.{after_last, is_less}
use Rattle.irs_resets.proofs.in_order.comes_after.Goals as goal

pub returns-else-count-eq0 : goal.returns-else-count-eq0
returns-else-count-eq0 c = λ is.
    let n = length c.args.entries.now - 1 in
    let d = c.index-entries-count.result in
    let last = slice_index_or c.args.entries.now n d in
    let at = slice_get-get_or c.args.entries.now n d (omega (arith, c.if-count-eq0.false)) in
    after_last c.args.entries.now c.args.slot.now n last c.requires (omega (arith, c.if-count-eq0.false)) at
    (is_less (slot_cmp last.0 c.args.slot.now) (ap is_lt (sym c.cmp.ensures) ∙ sym c.is_lt.ensures ∙ is))
