use Rattle.std.proofs.Common.{arith}
use Rattle.irs_locate.specs.declared.markup.Mark.TheVariants.{Plain, Passed, Opening, Empty, Closing}
use Rattle.irs_locate.proofs.Opens.{onward, nests_first, nests_same, nests_open, nests_empty, nests_close, nests_end}
use Rattle.irs_locate.proofs.lines.past_element.Goals as goal

pub pieces-init : goal.pieces-init
pieces-init c = record {
  forth = omega arith;
  fits = c.requires;
  deep = omega arith;
  few = omega arith;
  nests = nests_first c.args.text.now c.args.start;
}

pub pieces-preserved-in-Plain : goal.pieces-preserved-in-Plain
pieces-preserved-in-Plain c = record {
  forth = omega (arith, c.pieces.invariant.forth);
  fits = c.in-Some.ensures.within;
  deep = c.pieces.invariant.deep;
  few = omega (arith, c.pieces.invariant.few);
  nests = nests_same c.args.text.now c.args.start c.pieces.at _ c.pieces.depth c.pieces.invariant.nests
      (λ lists w. onward c.args.text.now c.pieces.at lists c.in-Some.next Plain w c.in-Some.ensures.is c.in-Plain.is);
}

pub pieces-preserved-in-Passed : goal.pieces-preserved-in-Passed
pieces-preserved-in-Passed c = record {
  forth = omega (arith, c.pieces.invariant.forth);
  fits = c.in-Some.ensures.within;
  deep = c.pieces.invariant.deep;
  few = omega (arith, c.pieces.invariant.few);
  nests = nests_same c.args.text.now c.args.start c.pieces.at _ c.pieces.depth c.pieces.invariant.nests
      (λ lists w. onward c.args.text.now c.pieces.at lists c.in-Some.next Passed w c.in-Some.ensures.is c.in-Passed.is);
}

pub pieces-preserved-in-Opening : goal.pieces-preserved-in-Opening
pieces-preserved-in-Opening c = record {
  forth = omega (arith, c.pieces.invariant.forth);
  fits = c.in-Some.ensures.within;
  deep = omega arith;
  few = omega (arith, c.pieces.invariant.few, c.in-Some.ensures.some);
  nests = nests_open c.args.text.now c.args.start c.pieces.at _ c.pieces.depth c.in-Opening.field-0.now
      c.pieces.invariant.deep c.pieces.invariant.nests
      (λ lists w. onward c.args.text.now c.pieces.at lists c.in-Some.next (Opening c.in-Opening.field-0) w
      c.in-Some.ensures.is c.in-Opening.is);
}

pub pieces-preserved-in-Empty : goal.pieces-preserved-in-Empty
pieces-preserved-in-Empty c = record {
  forth = omega (arith, c.pieces.invariant.forth);
  fits = c.in-Some.ensures.within;
  deep = c.pieces.invariant.deep;
  few = omega (arith, c.pieces.invariant.few);
  nests = nests_empty c.args.text.now c.args.start c.pieces.at _ c.pieces.depth c.in-Empty.field-0.now
      c.pieces.invariant.deep c.pieces.invariant.nests
      (λ lists w. onward c.args.text.now c.pieces.at lists c.in-Some.next (Empty c.in-Empty.field-0) w
      c.in-Some.ensures.is c.in-Empty.is);
}

pub returns-then-depth-eq1-clause-ends : goal.returns-then-depth-eq1-clause-ends
returns-then-depth-eq1-clause-ends c =
    nests_end c.args.text.now c.args.start c.pieces.at _ c.pieces.depth c.if-depth-eq1.true c.pieces.invariant.nests
    (λ lists w. onward c.args.text.now c.pieces.at lists c.in-Some.next Closing w c.in-Some.ensures.is c.in-Closing.is)

pub pieces-preserved : goal.pieces-preserved
pieces-preserved c = record {
  forth = omega (arith, c.pieces.invariant.forth);
  fits = c.in-Some.ensures.within;
  deep = omega (arith, c.pieces.invariant.deep, c.if-depth-eq1.false);
  few = omega (arith, c.pieces.invariant.few);
  nests = nests_close c.args.text.now c.args.start c.pieces.at _ c.pieces.depth
      c.pieces.invariant.deep c.pieces.invariant.nests
      (λ lists w. onward c.args.text.now c.pieces.at lists c.in-Some.next Closing w c.in-Some.ensures.is
      c.in-Closing.is);
}
