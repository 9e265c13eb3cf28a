use Rattle.irs_observed.proofs.OriginLemmas.{own_none, own_some}
use Rattle.irs_observed.proofs.origin.own_rate.Goals as goal

pub returns-clause-some : goal.returns-clause-some
returns-clause-some c = own_some c.args.kind c.args.stubs.now c.own_rate_by.result c.own_rate_by.ensures.value

pub returns-clause-none : goal.returns-clause-none
returns-clause-none c = own_none c.args.kind c.args.stubs.now c.own_rate_by.result c.own_rate_by.ensures.value
