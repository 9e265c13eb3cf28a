use Rattle.std.proofs.Common.{rules, ◌≡◌, ◌*ℤ◌, FitsSigned, refl}
use Rattle.std.specs.Int.{w64, w128}
use Rattle.std.proofs.lemmas.Int.{to_z-of_z}
use Rattle.irs_audit.proofs.ValueLemmas.{scaled_fits, scaled_within}
use Rattle.irs_audit.proofs.comparisons.scaled.Goals as goal

pub overflow_mul-result : goal.overflow_mul-result
overflow_mul-result c =
    let fn : FitsSigned w64 c.args.num = c.ranges.num in
    let fa : FitsSigned w128 c.from.result = search rules in
    let fb : FitsSigned w128 c.power_of_ten.result = search rules in
    let n : c.from.result ≡ c.args.num = simp to_z-of_z at c.from.ensures in
    simp to_z-of_z (rw (n, c.power_of_ten.ensures)
    (scaled_fits c.args.num c.args.places c.requires.places c.requires.num))

pub returns-clause-value : goal.returns-clause-value
returns-clause-value c =
    let fn : FitsSigned w64 c.args.num = c.ranges.num in
    let fa : FitsSigned w128 c.from.result = search rules in
    let fb : FitsSigned w128 c.power_of_ten.result = search rules in
    let n : c.from.result ≡ c.args.num = simp to_z-of_z at c.from.ensures in
    let fp : FitsSigned w128 (c.from.result *ℤ c.power_of_ten.result) =
    rw (n, c.power_of_ten.ensures) (scaled_fits c.args.num c.args.places c.requires.places c.requires.num) in
    simp to_z-of_z (rw (n, c.power_of_ten.ensures) refl)

pub returns-clause-size : goal.returns-clause-size
returns-clause-size c =
    let fn : FitsSigned w64 c.args.num = c.ranges.num in
    let fa : FitsSigned w128 c.from.result = search rules in
    let fb : FitsSigned w128 c.power_of_ten.result = search rules in
    let n : c.from.result ≡ c.args.num = simp to_z-of_z at c.from.ensures in
    let fp : FitsSigned w128 (c.from.result *ℤ c.power_of_ten.result) =
    rw (n, c.power_of_ten.ensures) (scaled_fits c.args.num c.args.places c.requires.places c.requires.num) in
    simp to_z-of_z (rw (n, c.power_of_ten.ensures)
    (scaled_within c.args.num c.args.places c.requires.places c.requires.num))
