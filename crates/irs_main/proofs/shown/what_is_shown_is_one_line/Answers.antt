use Rattle.irs_main.proofs.ShownLaws.{text_printed}
use Rattle.irs_main.proofs.shown.what_is_shown_is_one_line.Goals as goal

pub returns : goal.returns
returns c = text_printed
