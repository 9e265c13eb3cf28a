use Rattle.irs_elements.specs.Elements.{seen}
use Rattle.irs_read.proofs.references.lists.Given as goal
use Rattle.irs_read.specs.Readings.{lists_of}
use Rattle.serde_json.specs.View.{view}
use Rattle.std.proofs.Common.{◌≡◌, map, take}

-- the lists so far are those of the streams so far
abbrev pub invariant-loop-stream : goal.invariant-loop-stream
invariant-loop-stream l = map seen l.lists.items ≡ lists_of (map view (take l.stream-index l.streams))
