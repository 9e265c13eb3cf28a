use Rattle.irs_breaks.specs.BreakLists.{StreamAt}
use Rattle.irs_breaks.specs.Findings.{UpTo}
use Rattle.irs_breaks.specs.Private.Findings.{Adds}
use Rattle.irs_breaks.proofs.streams.push_streams.Given as goal

-- the findings of the streams before this place have been added
abbrev pub invariant-loop-place : goal.invariant-loop-place
invariant-loop-place l = Adds (UpTo (StreamAt l.from l.ours l.theirs) l.place) l.initial.list l.list
