use Rattle.irs_elements.specs.Elements.{seen}
use Rattle.irs_read.proofs.stream.each_stream.Given as goal
use Rattle.irs_read.{proofs.EachSaid.SoFar, specs.StreamElements.StreamSays}
use Rattle.std.proofs.Common.{map}

-- the streams read so far are those that the values so far say
abbrev pub invariant-loop-found : goal.invariant-loop-found
invariant-loop-found l = SoFar (StreamSays (map seen l.lists)) l.streams l.found-index l.list
