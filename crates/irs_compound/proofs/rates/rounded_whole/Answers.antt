use Rattle.std.proofs.Common.{rules, arith, ◌≡◌, ◌+◌, ◌-◌, ◌*◌, ◌≤◌, ◌^◌, ap, sym, ◌∙◌, pos, FitsSigned, unsigned_abs}
use Rattle.std.specs.Int.{w128}
use Rattle.std.proofs.lemmas.Int.{to_z-of_z}
use Rattle.std.proofs.lemmas.Nat.{pow-add}
use Rattle.irs_base.specs.Limits.{Rounded}
use Rattle.irs_base.proofs.RoundingLaws.{rounded_size}
use Rattle.irs_compound.specs.Private.AmountLaws.{ten_above}
use Rattle.irs_compound.proofs.rates.rounded_whole.Goals as goal

pub returns-clause-size : goal.returns-clause-size
returns-clause-size c =
    let n = c.args.rounding.places in
    let fe : FitsSigned w128 c.args.exact = c.ranges.exact in
    let ft : FitsSigned w128 c.ten_to.result = search rules in
    let fr : FitsSigned w128 c.round.result = search rules in
    let r : Rounded c.args.rounding.dir c.args.exact c.ten_to.result c.round.result =
    simp to_z-of_z at c.round.ensures.relation in
    let s : Rounded c.args.rounding.dir c.args.exact (pos (10 ^ (18 - n))) c.round.result =
    rw c.ten_to.ensures.value at r in
    let e : 18 - n + (n + 1) ≡ 19 = omega (arith, c.requires.places_fit) in
    let p : 10 ^ (18 - n) * 10 ^ (n + 1) ≡ 10 ^ 19 = sym (pow-add 10 (18 - n) (n + 1)) ∙ ap (λ k. 10 ^ k) e in
    let h : unsigned_abs c.args.exact ≤ 10 ^ (18 - n) * (11 * 10 ^ (n + 1)) = omega (arith, c.requires.exact_fits, p) in
    simp to_z-of_z (rounded_size c.args.rounding.dir c.args.exact c.round.result (10 ^ (18 - n)) (11 * 10 ^ (n + 1))
    (ten_above (18 - n)) h s)
