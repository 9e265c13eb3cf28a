use Rattle.std.proofs.Common.{◌≡◌, ◌++◌, drop}
use Rattle.irs_breaks.specs.Pairing.{rows_from}
use Rattle.irs_breaks.proofs.dated.rows_of.Given as goal

-- the rows so far and those of the dates that are left are the rows of all dates
abbrev pub invariant-loop-place : goal.invariant-loop-place
invariant-loop-place l = l.rows.items ++ rows_from l.from l.place (drop l.place l.dates) ≡ rows_from l.from 0 l.dates
