use Rattle.std.proofs.Common.{◌≡◌, length, Some}
use Rattle.irs_base.specs.Texts.{fields}
use Rattle.irs_calendar.specs.Grammar.{weekend_of, no_days}
use Rattle.irs_calendar.proofs.words.weekend.Given as goal

-- the weekdays so far, with the names that remain, give the weekend of all the names
abbrev pub invariant-loop-name : goal.invariant-loop-name
invariant-loop-name l =
    (weekend_of (Some l.days) (fields l.rest) ≡ weekend_of (Some no_days) (fields l.names)) × (length l.days ≡ 7)

-- each round takes a name of the rest
abbrev pub decreases-loop-name : goal.decreases-loop-name
decreases-loop-name l = length l.rest
