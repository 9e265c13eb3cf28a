use Rattle.std.proofs.Common.{◌≡◌, length}
use Rattle.serde_json.specs.View.{members_view}
use Rattle.irs_json.specs.Leaves.{member_names}
use Rattle.irs_json.proofs.names.MemberIterIterator.next.Given as goal

-- skipping members that count as absent leaves the list of names to come unchanged
abbrev pub invariant-loop-name : goal.invariant-loop-name
invariant-loop-name l = member_names (members_view l.self-inside.left) ≡ member_names (members_view l.initial.self-inside.left)

-- each round takes one member
abbrev pub decreases-loop-name : goal.decreases-loop-name
decreases-loop-name l = length l.self-inside.left
