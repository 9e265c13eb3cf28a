use Rattle.std.proofs.Common.{map}
use Rattle.serde_json.specs.View.{view}
use Rattle.irs_net.specs.Private.FoundParties.{SidesTo}
use Rattle.irs_net.proofs.sides.sides_of.Given as goal

abbrev pub invariant-loop-i : goal.invariant-loop-i
invariant-loop-i l = SidesTo (map view l.streams) l.i l.forward
