use Rattle.std.proofs.Common.{◌≡◌, ℕ, subst}
use Rattle.irs_terms.specs.Paths.{path_of}
use Rattle.irs_terms.proofs.PathLengths.{path_short, path_found}
use Rattle.irs_terms.proofs.elements.Elem.path.Goals as goal

pub returns-clause-path : goal.returns-clause-path
returns-clause-path c =
    subst (λ (n : ℕ). c.path_at.result.now ≡ path_of n) c.self.view_is
    (path_found c.self.inside.place c.path_at.result.now c.path_at.ensures)

pub returns-clause-length : goal.returns-clause-length
returns-clause-length c = path_short c.self.inside.place c.path_at.result.now c.path_at.ensures
