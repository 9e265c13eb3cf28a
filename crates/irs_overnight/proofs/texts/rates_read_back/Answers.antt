use Rattle.irs_overnight.proofs.FileRead.{are_fixings}
use Rattle.irs_overnight.proofs.texts.rates_read_back.Goals as goal

pub returns : goal.returns
returns c = are_fixings c.args.tenor c.args.index.now c.args.rows.now c.requires.lawful c.requires.kept
