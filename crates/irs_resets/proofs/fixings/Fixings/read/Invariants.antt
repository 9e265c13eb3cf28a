use Rattle.std.proofs.Common.{◌+◌, ◌≤◌, length}
use Rattle.std.specs.Prelude.{IfSome}
use Rattle.irs_base.specs.Limits.{most_bytes}
use Rattle.irs_base.specs.Texts.{lines_of}
use Rattle.irs_calendar.specs.Grammar.{seen_from, seen_lines}
use Rattle.irs_resets.specs.Private.FixingFiles.{IsTail}
use Rattle.irs_resets.proofs.FileLemmas.{ReadTo}
use Rattle.irs_resets.proofs.fixings.Fixings.read.Given as goal

-- the lines so far are not at fault, and the table has exactly their rates; `last` is how one of them ends
abbrev pub invariant-loop-rest : goal.invariant-loop-rest
invariant-loop-rest l =
    record {
      so_far : ReadTo (seen_lines l.bytes) (l.before + 1) (seen_from l.before (lines_of l.rest)) l.table;
      room : l.before + length l.rest ≤ most_bytes;
      tail : IfSome l.last (λ t. IsTail t.text.now t.tenor t.index.now);
    }

-- each round takes a line
abbrev pub decreases-loop-rest : goal.decreases-loop-rest
decreases-loop-rest l = length l.rest
