use Rattle.irs_emit.proofs.emitting.periods.Given as goal
use Rattle.irs_emit.specs.Emitted.{period_values}
use Rattle.irs_emit.specs.Private.Texts.{is_later, listed_text}
use Rattle.std.proofs.Common.{◌≡◌, ◌-◌, ◌++◌, false}

-- the periods so far
abbrev pub invariant-loop-place : goal.invariant-loop-place
invariant-loop-place l =
    (l.out.items ≡ l.fn.out.items ++ listed_text false (period_values l.part l.first (l.place - l.first)))
    × (l.later ≡ is_later false (period_values l.part l.first (l.place - l.first)))
