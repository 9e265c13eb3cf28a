use Rattle.irs_read.proofs.blocks.names.Goals as goal
use Rattle.irs_read.{proofs.EachSaid.said_at, specs.StreamElements.center_name}

pub center-requires : goal.center-requires
center-requires c =
    said_at center_name.says _ c.values_at-name-items.ensures c.requires _ _ c.loop-name-test.true c.name-item.is
