use Rattle.irs_terms.proofs.PathLengths.{paths_are}
use Rattle.irs_terms.proofs.elements.paths_listed.Goals as goal

pub returns : goal.returns
returns c = paths_are
