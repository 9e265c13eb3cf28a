use Rattle.std.proofs.Common.{◌<◌, ◌*◌, arith}
use Rattle.jiff_core.proofs.SignedLemmas.{signed_arith}
use Rattle.irs_average.proofs.samples.Steps.of.Goals as goal

pub returns-clause-some : goal.returns-clause-some
returns-clause-some c =
    let order = c.requires.order in
    let whole = c.days_ahead.ensures.value in
    let low : 0 * c.args.step < c.days_ahead.result = omega (arith, signed_arith, order, whole) in
    (c.multiples.ensures 0).1 low
