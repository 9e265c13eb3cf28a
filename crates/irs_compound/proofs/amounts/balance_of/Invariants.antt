use Rattle.std.proofs.Common.{◌≡◌}
use Rattle.irs_compound.specs.Private.AmountLaws.{Balances}
use Rattle.irs_compound.proofs.amounts.balance_of.Given as goal

-- the balance is that of the periods before this one
abbrev pub invariant-loop-p : goal.invariant-loop-p
invariant-loop-p l =
    record { counts : l.position ≡ l.p-index; balances : Balances l.code l.periods l.p-index l.balance }
