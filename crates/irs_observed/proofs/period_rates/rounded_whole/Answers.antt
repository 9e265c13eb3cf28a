use Rattle.std.proofs.Common.{rules, ◌+◌, ◌-◌, ◌*◌, ◌^◌, pos, ℤ, ◌<ℤ◌, ◌*ℤ◌, sym, subst, FitsSigned, unsigned_abs}
use Rattle.std.specs.Int.{w128}
use Rattle.std.proofs.lemmas.Int.{to_z-of_z}
use Rattle.irs_base.specs.Limits.{Rounded}
use Rattle.irs_observed.specs.ObservedRates.{most_observed}
use Rattle.irs_observed.proofs.SizeLemmas.{rounded_within, units_above, whole_size}
use Rattle.irs_observed.proofs.period_rates.rounded_whole.Goals as goal

pub round-requires-clause-divisor : goal.round-requires-clause-divisor
round-requires-clause-divisor c =
    let units : FitsSigned w128 c.args.units = c.ranges.units in
    simp to_z-of_z (subst (λ (u : ℤ). pos 0 <ℤ u) (sym c.requires.units)
    (units_above (9 - c.args.rounding.places) c.args.denominator c.requires.above))

pub returns-clause-size : goal.returns-clause-size
returns-clause-size c =
    let n = c.args.rounding.places in
    let exact : FitsSigned w128 c.args.exact = c.ranges.exact in
    let units : FitsSigned w128 c.args.units = c.ranges.units in
    let fits : FitsSigned w128 c.round.result = search rules in
    let r : Rounded c.args.rounding.dir c.args.exact c.args.units c.round.result =
    simp to_z-of_z at c.round.ensures.relation in
    let above = units_above (9 - n) c.args.denominator c.requires.above in
    let size = whole_size n (unsigned_abs c.args.exact) c.args.denominator c.requires.places c.requires.above
    c.requires.size in
    let s : Rounded c.args.rounding.dir c.args.exact (pos (10 ^ (9 - n)) *ℤ c.args.denominator) c.round.result =
    subst (λ (u : ℤ). Rounded c.args.rounding.dir c.args.exact u c.round.result) c.requires.units r in
    simp to_z-of_z (rounded_within c.args.rounding.dir c.args.exact (pos (10 ^ (9 - n)) *ℤ c.args.denominator)
    c.round.result ((most_observed + 1) * 10 ^ (n + 1)) above size s)
