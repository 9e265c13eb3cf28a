use Rattle.std.proofs.Common.{◌≡◌, ◌++◌, map, take}
use Rattle.irs_net.specs.Nets.{payment_part}
use Rattle.irs_net.proofs.parts.add_payments.Given as goal

abbrev pub invariant-loop-y : goal.invariant-loop-y
invariant-loop-y l =
    l.parts.items ≡ l.fn.parts.items ++ map (payment_part l.currency l.forward) (take l.y-index l.payments)
