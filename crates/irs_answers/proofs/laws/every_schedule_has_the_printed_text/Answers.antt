use Rattle.irs_answers.proofs.PrintedLemmas.{printed}
use Rattle.irs_answers.proofs.laws.every_schedule_has_the_printed_text.Goals as goal

pub returns : goal.returns
returns c = printed
