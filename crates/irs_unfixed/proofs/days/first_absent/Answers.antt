use Rattle.std.proofs.Common.{◌≡◌, length, None, Some, refl, sym, ◌∙◌, rules}
use Rattle.std.specs.Prelude.{slice_get}
use Rattle.std.proofs.lemmas.Option.{slice_get_read}
use Rattle.irs_observed.specs.ObservedRates.{rates_by}
use Rattle.irs_unfixed.proofs.AbsentLemmas.{absent_at}
use Rattle.irs_unfixed.proofs.days.first_absent.Goals as goal

pub returns-then-is_none-clause-some : goal.returns-then-is_none-clause-some
returns-then-is_none-clause-some c =
    let os = c.args.observations.now in
    let i = c.loop-o.o-index in
    let o = c.o-item.result in
    let at : slice_get os i ≡ Some o = slice_get_read os (length os) i o refl c.loop-o-test.true c.o-item.is in
    let absent : c.daily_rate_near.result ≡ None = search rules in
    absent_at (rates_by c.args.daily.now) os i o at c.loop-o.invariant (sym c.daily_rate_near.ensures.value ∙ absent)
