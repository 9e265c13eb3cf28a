use Rattle.std.proofs.Common.{rules, ◌≡◌, ◌<◌, ◌^◌, pos, ◌-ℤ◌, ◌*ℤ◌, IfSome, IfNone, FitsSigned}
use Rattle.std.specs.Prelude.{unsigned_abs}
use Rattle.std.specs.Int.{w64, w128}
use Rattle.std.proofs.lemmas.Int.{to_z-of_z}
use Rattle.irs_base.specs.Limits.{most_rate, Rounded}
use Rattle.irs_base.specs.declared.rounding.Direction.TheVariants.{Nearest}
use Rattle.irs_overnight.specs.Observations.{derived_one}
use Rattle.irs_overnight.proofs.FactorLemmas.{rate_some, rate_kept, rate_none}
use Rattle.irs_overnight.proofs.PeriodLemmas.{positive}
use Rattle.irs_overnight.proofs.factors.known_rate.Goals as goal

pub returns-clause-some : goal.returns-clause-some
returns-clause-some c =
    let fits : FitsSigned w128 c.rate_of.result = search rules in
    let fits_days : FitsSigned w64 c.args.days = c.ranges.days in
    let fits_factor : FitsSigned w128 c.in_ok-factor.factor = search rules in
    let rounded : Rounded Nearest ((c.in_ok-factor.factor -ℤ derived_one) *ℤ pos c.args.basis)
    (pos (10 ^ 6) *ℤ c.args.days) c.rate_of.result = simp to_z-of_z at c.rate_of.ensures in
    let some : IfSome c.small_rate.result (λ x. x ≡ c.rate_of.result) = simp to_z-of_z at c.small_rate.ensures.some in
    rate_some c.args.basis c.requires.range.0 c.args.days c.args.observations.now c.in_ok-factor.factor c.rate_of.result
    (positive c.args.days c.requires.days.0) c.in_ok-factor.ensures.some rounded c.small_rate.result some

pub returns-clause-kept : goal.returns-clause-kept
returns-clause-kept c =
    let fits : FitsSigned w128 c.rate_of.result = search rules in
    let fits_days : FitsSigned w64 c.args.days = c.ranges.days in
    let fits_factor : FitsSigned w128 c.in_ok-factor.factor = search rules in
    let rounded : Rounded Nearest ((c.in_ok-factor.factor -ℤ derived_one) *ℤ pos c.args.basis)
    (pos (10 ^ 6) *ℤ c.args.days) c.rate_of.result = simp to_z-of_z at c.rate_of.ensures in
    let some : IfSome c.small_rate.result (λ x. x ≡ c.rate_of.result) = simp to_z-of_z at c.small_rate.ensures.some in
    rate_kept c.args.basis c.requires.range.0 c.args.days c.args.observations.now c.in_ok-factor.factor c.rate_of.result
    (positive c.args.days c.requires.days.0) c.in_ok-factor.ensures.some rounded c.small_rate.result
    c.in_ok-factor.ensures.kept some c.small_rate.ensures.small

pub returns-clause-none : goal.returns-clause-none
returns-clause-none c =
    let fits : FitsSigned w128 c.rate_of.result = search rules in
    let fits_days : FitsSigned w64 c.args.days = c.ranges.days in
    let fits_factor : FitsSigned w128 c.in_ok-factor.factor = search rules in
    let rounded : Rounded Nearest ((c.in_ok-factor.factor -ℤ derived_one) *ℤ pos c.args.basis)
    (pos (10 ^ 6) *ℤ c.args.days) c.rate_of.result = simp to_z-of_z at c.rate_of.ensures in
    let none : IfNone c.small_rate.result (most_rate < unsigned_abs c.rate_of.result) =
    simp to_z-of_z at c.small_rate.ensures.none in
    rate_none c.args.basis c.requires.range.0 c.args.days c.args.observations.now c.in_ok-factor.factor c.rate_of.result
    (positive c.args.days c.requires.days.0) c.in_ok-factor.ensures.some rounded c.small_rate.result
    c.requires.known none
