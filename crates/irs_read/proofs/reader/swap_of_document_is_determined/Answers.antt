use Rattle.irs_read.proofs.Outcomes.{document_determined}
use Rattle.irs_read.proofs.reader.swap_of_document_is_determined.Goals as goal
use Rattle.serde_json.specs.View.{view}

pub returns : goal.returns
returns c =
    let made = c.clean_swap-outcome in
    document_determined (view c.args.v.now) made.result made.ensures.found made.ensures.clean made.ensures.broken
