use Rattle.std.proofs.Common.{◌≡◌, ◌<ℤ◌, ◌-◌, sym, arith}
use Rattle.irs_base.specs.Lists.{day_at}
use Rattle.irs_overnight.proofs.RowLemmas.{day_read, in_order}
use Rattle.irs_average.proofs.mean_rows.mean_row.Goals as goal

pub period_mean-requires-clause-order : goal.period_mean-requires-clause-order
period_mean-requires-clause-order g c =
    let adjusted = c.args.part.now.adjusted in
    let value = c.adjusted-adjusted.ensures.value in
    let start : day_at adjusted (c.args.number - 1) ≡ c.index-adjusted-number.result =
    day_read adjusted (c.args.number - 1) c.index-adjusted-number.result (omega (arith, c.requires.period))
    (rw value at c.index-adjusted-number.is) in
    let end : day_at adjusted c.args.number ≡ c.index-adjusted-number-2.result =
    day_read adjusted c.args.number c.index-adjusted-number-2.result (omega (arith, c.requires.period))
    (rw value at c.index-adjusted-number-2.is) in
    let order : day_at adjusted (c.args.number - 1) <ℤ day_at adjusted c.args.number =
    in_order adjusted c.args.number c.adjusted-adjusted.ensures.bounds.adjusted_rises c.requires.period in
    rw (sym start, sym end) order
