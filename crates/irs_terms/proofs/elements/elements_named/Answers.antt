use Rattle.irs_terms.proofs.PathLengths.{named_paths}
use Rattle.irs_terms.proofs.elements.elements_named.Goals as goal
use Rattle.irs_terms.specs.Elements.{named_elements}
use Rattle.std.proofs.Common.{refl}

pub returns-clause-places : goal.returns-clause-places
unfolding named_elements
returns-clause-places c = refl

pub returns-clause-paths : goal.returns-clause-paths
returns-clause-paths c = named_paths
