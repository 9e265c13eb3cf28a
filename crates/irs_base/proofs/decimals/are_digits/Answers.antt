use Rattle.irs_base.proofs.DecimalLemmas.{digits_are, are_all_digits}
use Rattle.irs_base.proofs.decimals.are_digits.Goals as goal

pub returns : goal.returns
returns c = (
  digits_are c.args.bytes.now c.all_digits.result c.all_digits.ensures,
  are_all_digits c.args.bytes.now c.all_digits.result c.all_digits.ensures,
)
