use Rattle.irs_main.proofs.CenterLaws.{list_visible}
use Rattle.irs_main.proofs.centers.lists_are_visible.Goals as goal

pub returns : goal.returns
returns c = list_visible
