use Rattle.irs_emit.proofs.emitting.streams.Given as goal
use Rattle.irs_emit.specs.Emitted.{stream_value}
use Rattle.irs_emit.specs.Private.Texts.{is_later, listed_text}
use Rattle.std.proofs.Common.{◌≡◌, ◌++◌, false, map, take}

-- the streams so far
abbrev pub invariant-loop-j : goal.invariant-loop-j
invariant-loop-j l =
    (l.out.items ≡ l.fn.out.items ++ listed_text false (map stream_value (take l.j l.parts)))
    × (l.later ≡ is_later false (map stream_value (take l.j l.parts)))
