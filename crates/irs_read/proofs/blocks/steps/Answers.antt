use Rattle.irs_read.proofs.blocks.steps.Goals as goal
use Rattle.irs_read.{proofs.EachSaid.said_at, specs.Private.Sayings.number_by, specs.StreamElements.step}

pub step-requires : goal.step-requires
step-requires c =
    said_at (step (number_by c.args.scale)).says _ c.values_at-found-items.ensures c.requires _ _ c.loop-found-test.true
    c.found-item.is
