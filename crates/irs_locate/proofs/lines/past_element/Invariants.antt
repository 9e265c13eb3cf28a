use Rattle.std.proofs.Common.{◌+◌, ◌-◌, ◌<◌, ◌≤◌, length}
use Rattle.irs_locate.proofs.Opens.{Nests}
use Rattle.irs_locate.proofs.lines.past_element.Given as goal

-- as many elements are open as the depth says, inside of those that were open around the first
abbrev pub invariant-pieces : goal.invariant-pieces
invariant-pieces l = record {
  forth : l.start ≤ l.at;
  fits : l.at ≤ length l.text;
  deep : 0 < l.depth;
  few : l.depth ≤ l.at + 1;
  nests : Nests l.text l.start l.at l.depth;
}

-- each piece shortens what is left
abbrev pub decreases-pieces : goal.decreases-pieces
decreases-pieces l = length l.text - l.at
