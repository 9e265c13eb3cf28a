use Rattle.irs_periods.proofs.RegularEnds.{regular_end}
use Rattle.irs_periods.proofs.RegularStarts.{regular_start}
use Rattle.irs_periods.proofs.listing.regular_periods_lie_between_stubs.Goals as goal

pub returns-clause-start : goal.returns-clause-start
returns-clause-start c = search (regular_start)

pub returns-clause-end : goal.returns-clause-end
returns-clause-end c = search (regular_end)
