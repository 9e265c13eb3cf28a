use Rattle.irs_breaks.proofs.OneList.{one_list}
use Rattle.irs_breaks.proofs.laws.one_list.Goals as goal

pub returns : goal.returns
returns c = λ from s f l m h k. one_list from s f l m h k
