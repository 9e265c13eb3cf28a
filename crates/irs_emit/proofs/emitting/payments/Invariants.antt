use Rattle.irs_emit.proofs.emitting.payments.Given as goal
use Rattle.irs_emit.specs.Emitted.{payment_value}
use Rattle.irs_emit.specs.Private.Texts.{is_later, listed_text}
use Rattle.std.proofs.Common.{◌≡◌, ◌++◌, false, map, take}

-- the payments so far
abbrev pub invariant-loop-j : goal.invariant-loop-j
invariant-loop-j l =
    (l.out.items ≡ l.fn.out.items ++ listed_text false (map (payment_value l.part) (take l.j l.paid)))
    × (l.later ≡ is_later false (map (payment_value l.part) (take l.j l.paid)))
