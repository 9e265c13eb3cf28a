use Rattle.irs_breaks.proofs.Sorting.{sorted_rows}
use Rattle.irs_breaks.proofs.dated.rows_in_order.Goals as goal

pub returns-clause-rising : goal.returns-clause-rising
returns-clause-rising c =
    sorted_rows c.args.from c.args.dates.now _ c.sort.new.self.items c.in_ok-rows.ensures c.sort.ensures.permutation
    c.in_ok-sort.ensures.sorted
