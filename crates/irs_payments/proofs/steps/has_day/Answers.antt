use Rattle.irs_payments.proofs.Searching.{searched}
use Rattle.irs_payments.proofs.steps.has_day.Goals as goal

pub returns : goal.returns
returns c = rw c.is_ok.ensures.value
    (searched c.args.days.now c.args.d c.binary_search.result c.requires c.binary_search.ensures.position)
