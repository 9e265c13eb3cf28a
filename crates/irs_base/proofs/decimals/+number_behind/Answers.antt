use Rattle.std.proofs.Common.{◌^◌}
use Rattle.irs_base.proofs.DecimalLemmas.{some_room}
use Rattle.irs_base.proofs.decimals.+number_behind.Goals as goal

pub with_digit-requires-clause-fits : goal.with_digit-requires-clause-fits
with_digit-requires-clause-fits t c = some_room c.args.n c.args.count (10 ^ 18) c.requires.fits
