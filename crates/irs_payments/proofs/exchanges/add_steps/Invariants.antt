use Rattle.std.proofs.Common.{◌++◌, drop}
use Rattle.irs_terms.specs.Lawful.{IsNotional}
use Rattle.irs_payments.specs.Exchanges.{changes, final_of}
use Rattle.irs_payments.specs.Private.Dating.{ListsUpTo}
use Rattle.irs_payments.proofs.exchanges.add_steps.Given as goal

-- the exchanges at the steps so far are listed, and the remaining ones still follow
abbrev pub invariant-loop-step : goal.invariant-loop-step
invariant-loop-step g l = record {
  before : IsNotional l.before;
  lists : ListsUpTo l.s (g.G.GoodDays.days l.days) (changes l.before (drop l.step-index l.steps) ++ final_of l.s)
      l.listing;
}
