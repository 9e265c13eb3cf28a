use Rattle.irs_base.proofs.PlainDates.{some_plain, none_plain}
use Rattle.irs_base.proofs.file_dates.date.Goals as goal

pub returns-clause-some : goal.returns-clause-some
returns-clause-some c = some_plain c.args.bytes.now c.date_of_bytes.result c.date_of_bytes.ensures

pub returns-clause-none : goal.returns-clause-none
returns-clause-none c = none_plain c.args.bytes.now c.date_of_bytes.result c.date_of_bytes.ensures
