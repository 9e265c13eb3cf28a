use Rattle.irs_read.proofs.LawfulSwaps.{document_lawful, document_means, document_tells}
use Rattle.irs_read.proofs.reader.read_swap.Goals as goal
use Rattle.serde_json.specs.View.{view}
use Rattle.std.proofs.Common.{refl}

pub swap_of-requires : goal.swap_of-requires
swap_of-requires c =
    let t = document_tells (view c.args.v.now) (view c.in-Ok.found.now) c.in-Ok.ensures.found c.in-Ok.ensures.clean in
    (t.is, t.says t.is refl)

pub returns-in_ok-swap_of-in-Ok-clause-means : goal.returns-in_ok-swap_of-in-Ok-clause-means
returns-in_ok-swap_of-in-Ok-clause-means c =
    document_means (view c.args.v.now) (view c.in-Ok.found.now) _ c.in-Ok.ensures.clean c.in-Ok.ensures.found
    c.in_ok-swap_of-in-Ok.ensures

pub returns-in_ok-swap_of-in-Ok-clause-lawful : goal.returns-in_ok-swap_of-in-Ok-clause-lawful
returns-in_ok-swap_of-in-Ok-clause-lawful c =
    document_lawful (view c.args.v.now) (view c.in-Ok.found.now) _ c.in-Ok.ensures.clean c.in-Ok.ensures.found
    c.in_ok-swap_of-in-Ok.ensures
