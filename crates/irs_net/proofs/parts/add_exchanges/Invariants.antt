use Rattle.std.proofs.Common.{◌≡◌, ◌++◌, map, take}
use Rattle.irs_net.specs.Nets.{exchange_part}
use Rattle.irs_net.proofs.parts.add_exchanges.Given as goal

abbrev pub invariant-loop-x : goal.invariant-loop-x
invariant-loop-x l =
    l.parts.items ≡ l.fn.parts.items ++ map (exchange_part l.currency l.forward) (take l.x-index l.exchanges)
