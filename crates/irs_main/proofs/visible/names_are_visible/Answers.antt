use Rattle.irs_main.proofs.VisibleLaws.{bytes_visible}
use Rattle.irs_main.proofs.visible.names_are_visible.Goals as goal

pub returns : goal.returns
returns c = bytes_visible
