use Rattle.std.proofs.Common.{◌-◌, ◌≤◌, [], ◌∷◌, length}
use Rattle.irs_locate.specs.Lines.{IsOpenAfter}
use Rattle.irs_locate.proofs.lines.root_tag.Given as goal

-- no element is open, and there was none
abbrev pub invariant-pieces : goal.invariant-pieces
invariant-pieces l = record { within : IsOpenAfter l.text l.at ([] ∷ []); fits : l.at ≤ length l.text }

-- each piece shortens what is left
abbrev pub decreases-pieces : goal.decreases-pieces
decreases-pieces l = length l.text - l.at
