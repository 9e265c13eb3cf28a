use Rattle.std.proofs.Common.{rules}
use Rattle.std.proofs.lemmas.Iterator.{YieldsList-from_map, YieldsList-from_slice}
use Rattle.std.proofs.lemmas.Iterator.Consumers.{YieldsList-at, sum_by_from_yields_List}
use Rattle.irs_audit.specs.Verdicts.{stream_unfixed}
use Rattle.irs_unfixed.proofs.counts.all_unfixed.Goals as goal

pub returns : goal.returns
returns c = sum_by_from_yields_List stream_unfixed c.args.parts.now c.map.result c.sum.result c.sum.ensures.ran
    (YieldsList-from_map _ stream_unfixed
    (YieldsList-at c.map.ensures.source (YieldsList-from_slice c.args.parts.now c.iter.ensures.rest))
    c.map.ensures.closure (λ x r q k. search rules))
