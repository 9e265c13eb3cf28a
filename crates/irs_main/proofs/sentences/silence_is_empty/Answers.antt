use Rattle.irs_main.proofs.SilenceLaws.{empty_silent}
use Rattle.irs_main.proofs.sentences.silence_is_empty.Goals as goal

pub returns-clause-only : goal.returns-clause-only
returns-clause-only c = empty_silent
