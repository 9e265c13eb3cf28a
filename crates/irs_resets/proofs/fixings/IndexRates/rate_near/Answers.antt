use Rattle.std.proofs.Common.{◌≡◌, Some, Option, ℤ, IfSome, refl, sym, subst}
use Rattle.std.specs.Prelude.{option_copied}
use Rattle.irs_terms.specs.Lawful.{IsRate}
use Rattle.irs_resets.specs.Rates.{AreSmallOf}
use Rattle.irs_resets.proofs.fixings.IndexRates.rate_near.Goals as goal

pub returns-in-Some-clause-small : goal.returns-in-Some-clause-small
returns-in-Some-clause-small c =
    let there : option_copied c.self.inside.rates ≡ Some c.in-Some.rates.now = rw c.in-Some.is refl in
    let small = subst AreSmallOf there c.self.invariant in
    subst (λ (o : Option ℤ). IfSome o IsRate) (sym c.rate_near.ensures)
    (small (record { date = c.args.d; tenor = c.args.tenor }))
