-- Private: no public contract rests on this file.
-- Of private functions: files and sinks in memory.
use Rattle.std.specs.Prelude.{ℕ, ◌+◌, min, IsTrue, Option, Some, None, Bool, false}
use Rattle.std.specs.List.{list_any}
use Rattle.std.specs.Bool.{nat_eq}
use Rattle.irs_outside.specs.Outside.{last_count, SinkSeen}
use Rattle.irs_outside.specs.declared.memory_files.MemFiles.{MemFiles}

-- ---- what calls of the outside world do to what is known of it

-- the count that follows this one; it stays at the last value
abbrev pub next_count : ℕ → ℕ
next_count n = min (n + 1) last_count

-- ---- files in memory, with calls that are to fail

-- the next fetch is one that is to fail
abbrev pub IsMarked : MemFiles → Type 0
IsMarked m = IsTrue (list_any (λ call. nat_eq call (next_count m.calls)) m.marked.items)

-- ---- a sink in memory: what clauses see of it

-- the call is the one that is to fail
abbrev pub is_marked_at : ℕ → Option ℕ → Bool
is_marked_at call None = false
is_marked_at call (Some marked) = nat_eq marked call

-- the next write is the one that is to fail
abbrev pub IsMarkedPut : SinkSeen → Type 0
IsMarkedPut s = IsTrue (is_marked_at (next_count s.calls) s.marked)
