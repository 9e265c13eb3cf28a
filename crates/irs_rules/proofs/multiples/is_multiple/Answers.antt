use Rattle.std.proofs.Common.{◌%◌}
use Rattle.std.proofs.lemmas.Bool.Decides.{Decides-eqb}
use Rattle.irs_rules.proofs.MultipleLemmas.{times_of, rest_of}
use Rattle.irs_rules.proofs.multiples.is_multiple.Goals as goal

pub returns : goal.returns
returns c =
    let test = Decides-eqb (c.args.whole % c.args.part) 0 in
    (λ t. times_of _ _ (test.0 t), λ m. test.1 (rest_of _ _ m))
