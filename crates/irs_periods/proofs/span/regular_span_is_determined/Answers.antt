use Rattle.irs_periods.proofs.Outcomes.{span_determined}
use Rattle.irs_periods.proofs.span.regular_span_is_determined.Goals as goal

pub returns : goal.returns
returns c = search (span_determined)
