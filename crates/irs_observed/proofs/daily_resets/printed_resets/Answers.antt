use Rattle.std.proofs.Common.{◌≡◌, ◌+◌, [], ◌∷◌, arith, length, length-append}
use Rattle.std.proofs.lemmas.List.Elements.{All-push}
use Rattle.irs_base.proofs.MemberLemmas.{numbered_push}
use Rattle.irs_observed.specs.OvernightRates.{HasPrintedRate}
use Rattle.irs_observed.specs.Private.OvernightRates.{IsPrintedRow}
use Rattle.irs_observed.proofs.daily_resets.printed_resets.Goals as goal

pub loop-place-preserved : goal.loop-place-preserved
loop-place-preserved c =
    let row = c.printed_row.result in
    let next : 1 + length c.loop-place.printed ≡ c.loop-place.place + 1 = omega (arith, c.loop-place.invariant.many) in
    rw c.in_ok-push.ensures.ok (record {
      many = omega (arith, length-append c.loop-place.printed (row ∷ []), c.loop-place.invariant.many);
      each = numbered_push (IsPrintedRow c.args.rows.now c.args.rates.now) 1 (c.loop-place.place + 1) c.loop-place.printed
          row c.loop-place.invariant.each next c.printed_row.ensures.row;
      size = All-push HasPrintedRate c.loop-place.printed row c.loop-place.invariant.size c.printed_row.ensures.size;
    })
