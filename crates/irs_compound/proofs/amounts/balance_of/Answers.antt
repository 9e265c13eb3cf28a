use Rattle.std.proofs.Common.{arith}
use Rattle.irs_compound.proofs.BalanceLemmas.{balances_more, passes_first}
use Rattle.irs_compound.proofs.amounts.balance_of.Goals as goal

pub returns-in-None-clause-out : goal.returns-in-None-clause-out
returns-in-None-clause-out c =
    passes_first c.args.code c.args.periods.now c.loop-p.p-index c.loop-p.position _ _ c.loop-p.invariant.counts
    c.loop-p-test.true c.loop-p.invariant.balances c.in-None.ensures.none

pub loop-p-preserved : goal.loop-p-preserved
loop-p-preserved c = record {
  counts = omega (arith, c.loop-p.invariant.counts);
  balances = balances_more c.args.code c.args.periods.now c.loop-p.p-index _ _ c.in-Some.next c.requires.payment.2
      c.loop-p-test.true c.loop-p.invariant.balances c.in-Some.ensures.some;
}
