use Rattle.irs_elements.specs.Elements.{seen}
use Rattle.irs_read.proofs.stream.each_stream.Goals as goal
use Rattle.irs_read.{proofs.EachSaid.said_at, specs.StreamElements.StreamSays}
use Rattle.std.proofs.Common.{map, refl}

pub stream-requires : goal.stream-requires
stream-requires c =
    said_at (StreamSays (map seen c.args.lists.now)) _ refl c.requires _ _ c.loop-found-test.true c.found-item.is
