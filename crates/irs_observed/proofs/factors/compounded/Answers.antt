use Rattle.std.proofs.Common.{rules, ◌≡◌, ◌≤◌, ◌<◌, sym, arith, FitsSigned, to_z}
use Rattle.std.specs.Prelude.{unsigned_abs}
use Rattle.std.specs.Int.{w128}
use Rattle.std.proofs.lemmas.Int.{to_z-of_z}
use Rattle.irs_observed.specs.ObservedRates.{DailyRates, rates_by, rate_precision}
use Rattle.irs_observed.proofs.FactorLemmas.{compounds_more, passes_at, past_known}
use Rattle.irs_observed.proofs.ThroughLemmas.{weight_at}
use Rattle.irs_observed.proofs.factors.compounded.Goals as goal

pub grown_by-requires-clause-weight : goal.grown_by-requires-clause-weight
grown_by-requires-clause-weight c =
    let few = c.requires.weights.few in
    let at = weight_at c.args.observations.now c.loop-o.o-index c.o-item.result c.loop-o-test.true (sym c.o-item.is) in
    omega (arith, few, at)

pub returns-then-unsigned_abs-gt-MOST_FACTOR-clause-passes : goal.returns-then-unsigned_abs-gt-MOST_FACTOR-clause-passes
returns-then-unsigned_abs-gt-MOST_FACTOR-clause-passes c =
    let daily : DailyRates = rates_by c.args.daily.now in
    let fits : FitsSigned w128 c.in-Some.next = search rules in
    let size : c.unsigned_abs.result ≡ unsigned_abs c.in-Some.next = simp to_z-of_z at c.unsigned_abs.ensures.value in
    let test = c.if-unsigned_abs-gt-MOST_FACTOR.true in
    let past : rate_precision.most < unsigned_abs c.in-Some.next = omega (arith, size, test) in
    past_known c.args.basis daily c.args.observations.now c.past_limit.result
    (passes_at rate_precision c.args.basis c.requires.range.0 daily c.args.observations.now c.loop-o.o-index
    (to_z w128 c.loop-o.factor-bits) c.in-Some.next c.o-item.result c.loop-o-test.true (sym c.o-item.is)
    c.in-Some.ensures.some c.loop-o.invariant.compounds past) c.past_limit.ensures.known

pub loop-o-preserved : goal.loop-o-preserved
loop-o-preserved c =
    let daily : DailyRates = rates_by c.args.daily.now in
    let fits : FitsSigned w128 c.in-Some.next = search rules in
    let size : c.unsigned_abs.result ≡ unsigned_abs c.in-Some.next = simp to_z-of_z at c.unsigned_abs.ensures.value in
    let test = c.if-unsigned_abs-gt-MOST_FACTOR.false in
    let within : unsigned_abs c.in-Some.next ≤ rate_precision.most = omega (arith, size, test) in
    simp to_z-of_z (record {
      compounds = compounds_more rate_precision c.args.basis c.requires.range.0 daily c.args.observations.now
          c.loop-o.o-index (to_z w128 c.loop-o.factor-bits) c.in-Some.next c.o-item.result c.loop-o-test.true
          (sym c.o-item.is) c.in-Some.ensures.some c.loop-o.invariant.compounds within;
      within = within;
    })
