use Rattle.irs_terms.proofs.PathLengths.{paths_whole}
use Rattle.irs_terms.proofs.elements.paths_fit.Goals as goal

pub returns : goal.returns
returns c = paths_whole
