use Rattle.std.proofs.Common.{rules, ◌≡◌, ◌+◌, ◌≤◌, sym, arith, FitsSigned, to_z}
use Rattle.std.specs.Prelude.{unsigned_abs}
use Rattle.std.specs.Int.{w128}
use Rattle.std.proofs.lemmas.Int.{to_z-of_z}
use Rattle.irs_overnight.specs.Observations.{most_factor}
use Rattle.irs_overnight.proofs.FactorLemmas.{compounds_more, reaches_more}
use Rattle.irs_overnight.proofs.ObservationLemmas.{known_at}
use Rattle.irs_overnight.proofs.factors.compounded.Goals as goal

pub grown_by-factor-requires-clause-known : goal.grown_by-factor-requires-clause-known
grown_by-factor-requires-clause-known c =
    known_at c.args.observations.now c.loop-o.o-index c.o-item.result c.requires.known c.loop-o-test.true
    (sym c.o-item.is)

pub returns-then-unsigned_abs-gt-MOST_FACTOR-clause-none : goal.returns-then-unsigned_abs-gt-MOST_FACTOR-clause-none
returns-then-unsigned_abs-gt-MOST_FACTOR-clause-none c =
    let fits : FitsSigned w128 c.grown_by-factor.result = search rules in
    let size : c.unsigned_abs.result ≡ unsigned_abs c.grown_by-factor.result =
    simp to_z-of_z at c.unsigned_abs.ensures.value in
    record {
      count = c.loop-o.o-index + 1;
      within = omega (arith, c.loop-o-test.true);
      factor = c.grown_by-factor.result;
      reaches = reaches_more c.args.basis c.requires.range.0 c.args.observations.now c.loop-o.o-index
          (to_z w128 c.loop-o.factor-bits) c.grown_by-factor.result c.o-item.result c.loop-o-test.true
          (sym c.o-item.is) c.grown_by-factor.ensures c.loop-o.invariant.compounds.reaches;
      passes = omega (arith, size, c.if-unsigned_abs-gt-MOST_FACTOR.true);
    }

pub loop-o-preserved : goal.loop-o-preserved
loop-o-preserved c =
    let fits : FitsSigned w128 c.grown_by-factor.result = search rules in
    let size : c.unsigned_abs.result ≡ unsigned_abs c.grown_by-factor.result =
    simp to_z-of_z at c.unsigned_abs.ensures.value in
    let within : unsigned_abs c.grown_by-factor.result ≤ most_factor =
    omega (arith, size, c.if-unsigned_abs-gt-MOST_FACTOR.false) in
    simp to_z-of_z (record {
      compounds = compounds_more c.args.basis c.requires.range.0 c.args.observations.now c.loop-o.o-index
          (to_z w128 c.loop-o.factor-bits) c.grown_by-factor.result c.o-item.result c.loop-o-test.true
          (sym c.o-item.is) c.grown_by-factor.ensures c.loop-o.invariant.compounds within;
      within = within;
    })
