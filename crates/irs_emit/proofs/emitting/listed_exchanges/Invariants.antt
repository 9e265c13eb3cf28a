use Rattle.irs_emit.proofs.emitting.listed_exchanges.Given as goal
use Rattle.irs_emit.specs.Emitted.{exchange_value}
use Rattle.irs_emit.specs.Private.Texts.{is_later, listed_text}
use Rattle.std.proofs.Common.{◌≡◌, ◌++◌, false, map, take}

-- the exchanges so far
abbrev pub invariant-loop-j : goal.invariant-loop-j
invariant-loop-j l =
    (l.out.items ≡ l.fn.out.items ++ listed_text false (map exchange_value (take l.j l.rows)))
    × (l.later ≡ is_later false (map exchange_value (take l.j l.rows)))
