use Rattle.irs_daily.proofs.RowLaws.{rows_show_rates}
use Rattle.irs_daily.proofs.laws.rows_show_rates.Goals as goal

pub returns : goal.returns
returns c = λ source rates. rows_show_rates source rates
