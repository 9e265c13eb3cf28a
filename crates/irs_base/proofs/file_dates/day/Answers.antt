use Rattle.std.proofs.Common.{arith, ◌≡◌, ℤ, pos, to_z, of_z, w32}
use Rattle.std.proofs.lemmas.Int.{ints}
use Rattle.irs_base.proofs.DateLemmas.{day_is}
use Rattle.irs_base.proofs.file_dates.day.Goals as goal

pub returns : goal.returns
returns c =
    let year : ℤ = to_z w32 (of_z w32 c.from.result) in
    let e : year ≡ pos c.args.year = omega (arith, ints, c.from.ensures) in
    day_is c.day_of.result c.args.year c.args.month c.args.day year e c.requires c.day_of.ensures.some
    c.day_of.ensures.range c.day_of.ensures.none
