use Rattle.irs_daily.proofs.OneList.{one_list}
use Rattle.irs_daily.proofs.laws.one_list.Goals as goal

pub returns : goal.returns
returns c = λ source rates. one_list source rates
