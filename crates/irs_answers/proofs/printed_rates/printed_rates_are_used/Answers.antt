use Rattle.irs_answers.proofs.PrintedRates.{average_prints, interpolate_prints, overnight_prints}
use Rattle.irs_answers.proofs.printed_rates.printed_rates_are_used.Goals as goal

pub returns-clause-overnight : goal.returns-clause-overnight
returns-clause-overnight c = overnight_prints

pub returns-clause-average : goal.returns-clause-average
returns-clause-average c = average_prints

pub returns-clause-interpolate : goal.returns-clause-interpolate
returns-clause-interpolate c = interpolate_prints
