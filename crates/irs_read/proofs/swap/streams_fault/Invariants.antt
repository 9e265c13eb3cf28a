use Rattle.irs_elements.proofs.First.{Below}
use Rattle.irs_read.proofs.swap.streams_fault.Given as goal
use Rattle.irs_read.{proofs.Each.Each, specs.Documents.StreamFault}
use Rattle.irs_terms.specs.Faults.{IsFirstBroken}
use Rattle.serde_json.specs.View.{view}
use Rattle.std.proofs.Common.{map}

-- the fault kept is the first of those of the first j streams
abbrev pub invariant-loop-j : goal.invariant-loop-j
invariant-loop-j l = IsFirstBroken (Below (Each StreamFault (map view l.list)) l.j) l.first
