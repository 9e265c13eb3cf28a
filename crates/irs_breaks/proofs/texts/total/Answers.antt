use Rattle.std.proofs.Common.{arith, ◌∙◌}
use Rattle.irs_breaks.specs.Findings.{counted_as}
use Rattle.irs_breaks.proofs.TextSums.{sums_all, sums_more, sums_none}
use Rattle.irs_breaks.proofs.texts.total.Goals as goal

pub loop-counts-init : goal.loop-counts-init
loop-counts-init c = sums_none (counted_as c.args.way) c.args.pairs.now

pub loop-counts-preserved : goal.loop-counts-preserved
loop-counts-preserved c =
    sums_more (counted_as c.args.way) c.args.pairs.now c.loop-counts.counts-index _ _ _ c.loop-counts-test.true
    (omega arith) (c.from-sum.ensures ∙ c.counted_as.ensures) (omega arith) c.loop-counts.invariant

pub returns-clause-value : goal.returns-clause-value
returns-clause-value c =
    sums_all (counted_as c.args.way) c.args.pairs.now c.loop-counts.counts-index _ c.loop-counts-test.false
    c.loop-counts.invariant

pub returns-clause-small : goal.returns-clause-small
returns-clause-small c = c.loop-counts.invariant.fits
