use Rattle.irs_overnight.proofs.PrecisionLemmas.{agree_as_printed, agree_in_stream, agree_unrounded}
use Rattle.irs_overnight.proofs.precisions.precisions_agree.Goals as goal

pub returns-clause-unrounded : goal.returns-clause-unrounded
returns-clause-unrounded c = λ p. agree_unrounded p

pub returns-clause-printed : goal.returns-clause-printed
returns-clause-printed c = λ p. agree_as_printed p

pub returns-clause-stream : goal.returns-clause-stream
returns-clause-stream c = λ observed derived rates year. agree_in_stream observed derived rates year
