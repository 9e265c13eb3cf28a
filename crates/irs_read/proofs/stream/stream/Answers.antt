use Rattle.irs_read.proofs.StreamParts.{parts_said}
use Rattle.irs_read.proofs.stream.stream.Goals as goal

pub stream_of-requires : goal.stream_of-requires
stream_of-requires c =
    parts_said _ _ c.in-Some.ensures c.in-Some-once.ensures c.in-Some-once-2.ensures c.in-Some-once-3.ensures
    c.in-Some-once-4.ensures c.in-Some-once-5.ensures c.requires
