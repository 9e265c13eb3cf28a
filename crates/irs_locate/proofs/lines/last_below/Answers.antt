use Rattle.std.proofs.Common.{◌≡◌, Option, true, refl, sym, subst, arith}
use Rattle.irs_locate.specs.Lines.{is_end, with_child, Piece}
use Rattle.irs_locate.specs.Private.Seen.{step_seen}
use Rattle.irs_locate.specs.declared.markup.Mark.TheVariants.{Plain, Passed, Opening, Empty, Closing}
use Rattle.irs_locate.proofs.Opens.{at_once, cut, ended, entered, one_more, one_other, onward, piece_is, root_reached}
use Rattle.irs_locate.proofs.Opens.{stays}
use Rattle.irs_locate.proofs.Opens.{whole}
use Rattle.irs_locate.proofs.lines.last_below.Goals as goal

pub pieces-init : goal.pieces-init
pieces-init c = record {
  fits = c.requires.root.ends;
  found = omega (arith, c.requires.root.ends);
  many = omega arith;
  reached = root_reached c.args.text.now c.args.place.now c.args.root (step_seen c.args.first) c.requires.root
      c.requires.opened c.requires.next c.requires.some;
}

pub returns-in-None-clause-last : goal.returns-in-None-clause-last
returns-in-None-clause-last c =
    ended _ _ _ _ _ _ _ _ c.pieces.invariant.reached
    (subst (λ (o : Option Piece). is_end o ≡ true) c.in-None.ensures.is refl)

pub pieces-preserved-in-Plain : goal.pieces-preserved-in-Plain
pieces-preserved-in-Plain c = record {
  fits = c.in-Some.ensures.within;
  found = c.pieces.invariant.found;
  many = omega (arith, c.pieces.invariant.many);
  reached = stays _ _ _ _ _ _ _ _ _ c.pieces.invariant.reached
      (λ lists w. onward c.args.text.now c.pieces.at lists c.in-Some.next Plain w c.in-Some.ensures.is c.in-Plain.is);
}

pub pieces-preserved-in-Passed : goal.pieces-preserved-in-Passed
pieces-preserved-in-Passed c = record {
  fits = c.in-Some.ensures.within;
  found = c.pieces.invariant.found;
  many = omega (arith, c.pieces.invariant.many);
  reached = stays _ _ _ _ _ _ _ _ _ c.pieces.invariant.reached
      (λ lists w. onward c.args.text.now c.pieces.at lists c.in-Some.next Passed w c.in-Some.ensures.is c.in-Passed.is);
}

pub returns-in-None-past_element-clause-last : goal.returns-in-None-past_element-clause-last
returns-in-None-past_element-clause-last c =
    cut _ _ _ _ _ _ _ _ c.in-Opening.name.now c.pieces.invariant.reached
    (λ lists w. c.in-None-past_element.ensures.ends (with_child c.in-Opening.name.now lists)
    (onward c.args.text.now c.pieces.at lists c.in-Some.next (Opening c.in-Opening.name) w c.in-Some.ensures.is
    c.in-Opening.is))

pub pieces-preserved-in-Some-past_element : goal.pieces-preserved-in-Some-past_element
pieces-preserved-in-Some-past_element c = record {
  fits = c.in-Some-past_element.ensures.within;
  found = c.pieces.invariant.found;
  many = omega (arith, c.pieces.invariant.many, c.in-Some-past_element.ensures.onward);
  reached = one_other _ _ _ _ _ _ _ _ _ c.in-Opening.name.now c.pieces.invariant.reached
      (sym c.if-not-is_same.ensures)
      (λ lists w. c.in-Some-past_element.ensures.ends (with_child c.in-Opening.name.now lists)
      (onward c.args.text.now c.pieces.at lists c.in-Some.next (Opening c.in-Opening.name) w c.in-Some.ensures.is
      c.in-Opening.is));
}

pub returns-in-None-past_element-2-clause-last : goal.returns-in-None-past_element-2-clause-last
returns-in-None-past_element-2-clause-last c =
    cut _ _ _ _ _ _ _ _ c.in-Opening.name.now c.pieces.invariant.reached
    (λ lists w. c.in-None-past_element-2.ensures.ends (with_child c.in-Opening.name.now lists)
    (onward c.args.text.now c.pieces.at lists c.in-Some.next (Opening c.in-Opening.name) w c.in-Some.ensures.is
    c.in-Opening.is))

pub pieces-preserved-in-Some-past_element-2 : goal.pieces-preserved-in-Some-past_element-2
pieces-preserved-in-Some-past_element-2 c = record {
  fits = c.in-Some-past_element-2.ensures.within;
  found = c.pieces.invariant.found;
  many = omega (arith, c.pieces.invariant.many, c.in-Some-past_element-2.ensures.onward);
  reached = one_more _ _ _ _ _ _ _ _ _ c.in-Opening.name.now c.pieces.invariant.reached
      (sym c.if-not-is_same.ensures) c.if-left-gt0.true
      (λ lists w. c.in-Some-past_element-2.ensures.ends (with_child c.in-Opening.name.now lists)
      (onward c.args.text.now c.pieces.at lists c.in-Some.next (Opening c.in-Opening.name) w c.in-Some.ensures.is
      c.in-Opening.is));
}

pub returns-in-None-step_at-clause-last : goal.returns-in-None-step_at-clause-last
returns-in-None-step_at-clause-last c =
    whole _ _ _ _ _ _ _ _ c.in-Opening.name.now c.in-Some.next.size c.pieces.invariant.reached
    (piece_is c.args.text.now c.pieces.at c.in-Some.next (Opening c.in-Opening.name) c.in-Some.ensures.is
    c.in-Opening.is)
    (sym c.if-not-is_same.ensures) (omega (arith, c.if-left-gt0.false)) (sym c.in-None-step_at.ensures.is)

pub pieces-preserved-in-Some-step_at : goal.pieces-preserved-in-Some-step_at
pieces-preserved-in-Some-step_at c = record {
  fits = c.in-Some.ensures.within;
  found = c.pieces.invariant.fits;
  many = omega (arith, c.pieces.invariant.many, c.in-Some.ensures.some);
  reached = entered _ _ _ _ _ _ _ _ c.in-Opening.name.now c.in-Some.next.size (step_seen c.in-Some-step_at.further)
      c.pieces.invariant.reached
      (piece_is c.args.text.now c.pieces.at c.in-Some.next (Opening c.in-Opening.name) c.in-Some.ensures.is
      c.in-Opening.is)
      (sym c.if-not-is_same.ensures) (omega (arith, c.if-left-gt0.false)) (sym c.in-Some-step_at.ensures.is)
      c.in-Some-step_at.ensures.some;
}

pub pieces-preserved-then-not-is_same-2 : goal.pieces-preserved-then-not-is_same-2
pieces-preserved-then-not-is_same-2 c = record {
  fits = c.in-Some.ensures.within;
  found = c.pieces.invariant.found;
  many = omega (arith, c.pieces.invariant.many);
  reached = one_other _ _ _ _ _ _ _ _ _ c.in-Empty.name.now c.pieces.invariant.reached
      (sym c.if-not-is_same-2.ensures)
      (λ lists w. onward c.args.text.now c.pieces.at lists c.in-Some.next (Empty c.in-Empty.name) w
      c.in-Some.ensures.is c.in-Empty.is);
}

pub pieces-preserved : goal.pieces-preserved
pieces-preserved c = record {
  fits = c.in-Some.ensures.within;
  found = c.pieces.invariant.found;
  many = omega (arith, c.pieces.invariant.many);
  reached = one_more _ _ _ _ _ _ _ _ _ c.in-Empty.name.now c.pieces.invariant.reached
      (sym c.if-not-is_same-2.ensures) c.if-left-gt0-2.true
      (λ lists w. onward c.args.text.now c.pieces.at lists c.in-Some.next (Empty c.in-Empty.name) w
      c.in-Some.ensures.is c.in-Empty.is);
}

pub returns-else-left-gt0-2-clause-last : goal.returns-else-left-gt0-2-clause-last
returns-else-left-gt0-2-clause-last c =
    at_once _ _ _ _ _ _ _ _ c.in-Empty.name.now c.in-Some.next.size c.pieces.invariant.reached
    (piece_is c.args.text.now c.pieces.at c.in-Some.next (Empty c.in-Empty.name) c.in-Some.ensures.is c.in-Empty.is)
    (sym c.if-not-is_same-2.ensures) (omega (arith, c.if-left-gt0-2.false))

pub returns-in-Closing-clause-last : goal.returns-in-Closing-clause-last
returns-in-Closing-clause-last c =
    ended _ _ _ _ _ _ _ _ c.pieces.invariant.reached
    (subst (λ (o : Option Piece). is_end o ≡ true)
    (sym (piece_is c.args.text.now c.pieces.at c.in-Some.next Closing c.in-Some.ensures.is c.in-Closing.is)) refl)
