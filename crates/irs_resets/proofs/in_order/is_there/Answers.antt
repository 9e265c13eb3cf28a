use Rattle.std.proofs.Common.{sym, ap, ◌∙◌, slice_index_or}
use Rattle.std.specs.Ordering.{is_eq}
use Rattle.std.proofs.lemmas.Option.{slice_get-get_or}
use Rattle.irs_resets.proofs.OrderLemmas.{place_here}
use Rattle.irs_resets.proofs.in_order.is_there.Goals as goal

pub returns-then-place-entries : goal.returns-then-place-entries
returns-then-place-entries c = λ is.
    let d = c.index-entries-place.result in
    let at = slice_get-get_or c.args.entries.now c.args.place d c.if-place-entries.true in
    place_here c.args.entries.now c.args.slot.now c.args.place (slice_index_or c.args.entries.now c.args.place d) at
    (ap is_eq (sym c.cmp.ensures) ∙ sym c.is_eq.ensures ∙ is)
