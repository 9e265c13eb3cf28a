use Rattle.irs_daily.proofs.RowLaws.{rates_have_rows}
use Rattle.irs_daily.proofs.laws.rates_have_rows.Goals as goal

pub returns : goal.returns
returns c = λ source rates. rates_have_rows source rates
