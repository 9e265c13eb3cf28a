use Rattle.std.proofs.Common.{rules, ◌≡◌, ◌^◌, pos, ◌∙◌, ap, FitsSigned}
use Rattle.std.specs.Int.{w128}
use Rattle.std.proofs.lemmas.Int.{to_z-of_z}
use Rattle.irs_compound.specs.Private.RateLaws.{ten_order, ten_positive}
use Rattle.irs_compound.proofs.products.ten_to.Goals as goal

pub returns-clause-above : goal.returns-clause-above
returns-clause-above c =
    let f : FitsSigned w128 c.from.result = search rules in
    let v : c.from.result ≡ pos (10 ^ c.args.n) = c.from.ensures ∙ ap pos c.power_of_ten.ensures.value in
    simp to_z-of_z (rw v (ten_positive c.args.n))

pub returns-clause-size : goal.returns-clause-size
returns-clause-size c =
    let f : FitsSigned w128 c.from.result = search rules in
    let v : c.from.result ≡ pos (10 ^ c.args.n) = c.from.ensures ∙ ap pos c.power_of_ten.ensures.value in
    simp to_z-of_z (rw v (ten_order c.args.n 18 c.requires))
