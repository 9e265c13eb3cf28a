use Rattle.std.proofs.Common.{◌+◌, ◌-◌, ◌≤◌, length}
use Rattle.irs_locate.specs.Private.Seen.{step_seen}
use Rattle.irs_locate.proofs.Opens.{Reached}
use Rattle.irs_locate.proofs.lines.last_below.Given as goal

-- the innermost open element is the last one found on the way, and in it are the elements so far
abbrev pub invariant-pieces : goal.invariant-pieces
invariant-pieces l = record {
  fits : l.at ≤ length l.text;
  found : l.found ≤ length l.text;
  many : l.count ≤ l.at + 1;
  reached : Reached l.text l.root.name.now l.place l.found l.at l.count l.left (step_seen l.step);
}

-- each piece shortens what is left
abbrev pub decreases-pieces : goal.decreases-pieces
decreases-pieces l = length l.text - l.at
