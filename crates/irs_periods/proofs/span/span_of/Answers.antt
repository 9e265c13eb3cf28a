use Rattle.irs_periods.proofs.span.span_of.Goals as goal

pub unreachable-requires : goal.unreachable-requires
unreachable-requires c = c.requires.span.1.0 c.in-Err.field-0 c.in-Err.ensures.meets.0
