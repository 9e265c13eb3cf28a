use Rattle.std.proofs.Common.{rules, FitsSigned}
use Rattle.std.specs.Int.{w128}
use Rattle.std.proofs.lemmas.Int.{to_z-of_z}
use Rattle.irs_audit.specs.StatedFlows.{IsStatableDec}
use Rattle.irs_bulk.proofs.SumLemmas.{amount_size}
use Rattle.irs_bulk.proofs.summing.known_or_zero.Goals as goal

pub returns-in-Some-clause-size : goal.returns-in-Some-clause-size
returns-in-Some-clause-size c =
    let f : FitsSigned w128 c.stated_amount.result = search rules in
    let k : IsStatableDec c.in-Some.v = rw c.in-Some.is at c.requires in
    simp to_z-of_z (rw c.stated_amount.ensures (amount_size c.in-Some.v k))
