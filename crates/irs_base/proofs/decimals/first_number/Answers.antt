use Rattle.irs_base.proofs.DecimalLemmas.{eighteen}
use Rattle.irs_base.proofs.decimals.first_number.Goals as goal

pub number_behind-requires-clause-fits : goal.number_behind-requires-clause-fits
number_behind-requires-clause-fits c = eighteen c.args.count c.requires.few
