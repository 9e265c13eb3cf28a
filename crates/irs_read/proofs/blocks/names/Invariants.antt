use Rattle.irs_read.proofs.blocks.names.Given as goal
use Rattle.irs_read.{proofs.EachSaid.SoFar, specs.StreamElements.center_name}

-- the names so far are those that the items so far say
abbrev pub invariant-loop-name : goal.invariant-loop-name
invariant-loop-name l = SoFar center_name.says l.name-items l.name-index l.names
