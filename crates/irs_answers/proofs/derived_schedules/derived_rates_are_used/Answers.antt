use Rattle.irs_answers.proofs.DerivedSchedules.{average_used, overnight_used, stub_used}
use Rattle.irs_answers.proofs.derived_schedules.derived_rates_are_used.Goals as goal

pub returns-clause-overnight : goal.returns-clause-overnight
returns-clause-overnight c = overnight_used

pub returns-clause-average : goal.returns-clause-average
returns-clause-average c = average_used

pub returns-clause-interpolate : goal.returns-clause-interpolate
returns-clause-interpolate c = stub_used
