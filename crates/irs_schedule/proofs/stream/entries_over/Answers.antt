use Rattle.std.proofs.Common.{arith}
use Rattle.irs_schedule.proofs.LayoutLemmas.{layout_some}
use Rattle.irs_schedule.proofs.LayoutRules.{layout_kept}
use Rattle.irs_schedule.proofs.stream.entries_over.Goals as goal

pub paid_within-requires-clause-table : goal.paid_within-requires-clause-table
paid_within-requires-clause-table c =
    let l = c.args.layout.now in
    let kept = layout_kept c.requires.laid.0 c.args.s.now l c.requires.laid.1 in
    let some = layout_some c.requires.laid.0 c.args.s.now c.requires.lawful c.requires.kept.1.dates l kept in
    rw (c.as_slice.ensures.value, c.as_slice-2.ensures.value, c.as_slice-3.ensures, c.as_slice-4.ensures) (record {
      some = omega (arith, some, kept.adjusted.same_length);
      few = kept.few;
      same_length = kept.adjusted.same_length;
      rises = kept.rises;
      days = c.as_slice-2.ensures.days;
      rates = c.requires.rates;
    })
