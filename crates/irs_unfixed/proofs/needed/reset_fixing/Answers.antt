use Rattle.irs_unfixed.proofs.GapLemmas.{not_stated, reset_lacks, resets_high}
use Rattle.irs_unfixed.proofs.MadeLemmas.{stages_of}
use Rattle.irs_unfixed.proofs.needed.reset_fixing.Goals as goal

pub span_of-requires-clause-span : goal.span_of-requires-clause-span
span_of-requires-clause-span c =
    (stages_of c.args.calendars.now c.args.fixings.now c.args.s.now c.args.part.now c.requires.gap.made).has_span

pub line_for-line-requires : goal.line_for-line-requires
line_for-line-requires c =
    not_stated c.args.calendars.now c.args.fixings.now c.args.s.now c.args.part.now c.args.number c.requires.gap
    c.args.float.now c.requires.pays c.requires.plain c.span_of.result c.span_of.ensures c.period_kind-kind.result
    (rw c.periods.ensures.count at c.period_kind-kind.ensures)

pub fixing_date-requires-clause-high : goal.fixing_date-requires-clause-high
fixing_date-requires-clause-high c =
    resets_high c.args.calendars.now c.args.fixings.now c.args.s.now c.args.part.now c.args.number c.requires.gap
    c.args.float.now c.requires.pays c.requires.plain

pub returns : goal.returns
returns c =
    reset_lacks c.args.calendars.now c.args.fixings.now c.args.s.now c.args.part.now c.args.number c.requires.gap
    c.args.float.now c.requires.pays c.requires.plain c.span_of.result c.span_of.ensures c.period_kind-kind.result
    (rw c.periods.ensures.count at c.period_kind-kind.ensures)
    (record { index = c.line_for-line.result.index.now; tenor = c.line_for-line.result.tenor; day = c.fixing_date.result })
    c.line_for-line.ensures c.fixing_date.ensures
