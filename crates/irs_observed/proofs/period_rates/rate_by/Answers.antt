use Rattle.std.proofs.Common.{rules, ◌≡◌, ◌-◌, ◌^◌, pos, ℤ, ◌+ℤ◌, ◌*ℤ◌, subst, FitsSigned}
use Rattle.std.specs.Int.{w64, w128}
use Rattle.std.proofs.lemmas.Int.{to_z-of_z}
use Rattle.irs_base.specs.Limits.{Rounded}
use Rattle.irs_observed.proofs.period_rates.rate_by.Goals as goal

pub returns-clause-rate : goal.returns-clause-rate
returns-clause-rate c =
    let n = c.args.rounding.places in
    let fn : FitsSigned w128 c.args.numerator = c.ranges.numerator in
    let fd : FitsSigned w128 c.args.denominator = c.ranges.denominator in
    let fm : FitsSigned w64 c.args.multiplier = c.ranges.multiplier in
    let fs : FitsSigned w64 c.args.spread = c.ranges.spread in
    let fe : FitsSigned w128 c.with_terms-exact.result = search rules in
    let fu : FitsSigned w128 c.last_units-units.result = search rules in
    let fw : FitsSigned w128 c.rounded_whole-whole.result = search rules in
    let fr : FitsSigned w128 c.scaled.result = search rules in
    let exact : c.with_terms-exact.result
    ≡ c.args.multiplier *ℤ c.args.numerator +ℤ c.args.spread *ℤ c.args.denominator =
    simp to_z-of_z at c.with_terms-exact.ensures.value in
    let units : c.last_units-units.result ≡ pos (10 ^ (9 - n)) *ℤ c.args.denominator =
    simp to_z-of_z at c.last_units-units.ensures.value in
    let r : Rounded c.args.rounding.dir c.with_terms-exact.result c.last_units-units.result c.rounded_whole-whole.result =
    simp to_z-of_z at c.rounded_whole-whole.ensures.rounded in
    let s = subst (λ (u : ℤ). Rounded c.args.rounding.dir c.with_terms-exact.result u c.rounded_whole-whole.result)
    units r in
    let t = subst (λ (e : ℤ). Rounded c.args.rounding.dir e (pos (10 ^ (9 - n)) *ℤ c.args.denominator)
    c.rounded_whole-whole.result) exact s in
    let whole : c.scaled.result ≡ c.rounded_whole-whole.result *ℤ pos (10 ^ (9 - n)) =
    simp to_z-of_z at c.scaled.ensures.value in
    simp to_z-of_z (record { whole = c.rounded_whole-whole.result; rounded = t; scaled = whole })
