use Rattle.std.proofs.Common.{rules}
use Rattle.std.proofs.lemmas.Iterator.{YieldsList-from_map, YieldsList-from_slice}
use Rattle.std.proofs.lemmas.Iterator.Consumers.{YieldsList-at, sum_by_from_yields_List}
use Rattle.irs_bulk.specs.BulkRuns.{payment_row_count}
use Rattle.irs_bulk.proofs.summing.rows.Goals as goal

pub returns : goal.returns
returns c = sum_by_from_yields_List payment_row_count c.args.parts.now c.map.result c.sum.result c.sum.ensures.ran
    (YieldsList-from_map _ payment_row_count
    (YieldsList-at c.map.ensures.source (YieldsList-from_slice c.args.parts.now c.iter.ensures.rest))
    c.map.ensures.closure (λ x r q k. search rules))
