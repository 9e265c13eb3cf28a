use Rattle.std.proofs.Common.{◌≡◌, ◌+◌, ◌≤◌, length}
use Rattle.irs_base.specs.Limits.{most_bytes}
use Rattle.irs_base.specs.Texts.{lines_of}
use Rattle.irs_calendar.specs.Grammar.{seen_from}
use Rattle.irs_calendar.specs.Private.Files.{sections_in, sections_of}
use Rattle.irs_calendar.proofs.files.read_file.Given as goal

-- reading the remaining lines from here gives what reading the whole file gives
abbrev pub invariant-loop-rest : goal.invariant-loop-rest
invariant-loop-rest l =
    (sections_in (l.before + 1) l.state (seen_from l.before (lines_of l.rest)) ≡ sections_of l.fn.done l.bytes)
    × (l.before + length l.rest ≤ most_bytes)

-- each round takes a line
abbrev pub decreases-loop-rest : goal.decreases-loop-rest
decreases-loop-rest l = length l.rest
