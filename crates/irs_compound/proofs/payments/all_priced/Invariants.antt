use Rattle.std.proofs.Common.{take}
use Rattle.irs_compound.specs.Amounts.{AllPriced}
use Rattle.irs_compound.proofs.payments.all_priced.Given as goal

-- each period so far has rates
abbrev pub invariant-loop-p : goal.invariant-loop-p
invariant-loop-p l = AllPriced (take l.p-index l.periods)
