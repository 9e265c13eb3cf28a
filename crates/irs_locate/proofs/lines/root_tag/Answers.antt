use Rattle.std.proofs.Common.{arith, [], ◌∷◌}
use Rattle.irs_locate.specs.Lines.{front}
use Rattle.irs_locate.specs.declared.markup.Mark.TheVariants.{Plain, Passed}
use Rattle.irs_locate.proofs.Opens.{onward}
use Rattle.irs_locate.proofs.lines.root_tag.Goals as goal

pub pieces-init : goal.pieces-init
pieces-init c = record { within = front; fits = omega arith }

pub pieces-preserved-in-Plain : goal.pieces-preserved-in-Plain
pieces-preserved-in-Plain c = record {
  within = onward c.args.text.now c.pieces.at ([] ∷ []) c.in-Some.next Plain
      c.pieces.invariant.within c.in-Some.ensures.is c.in-Plain.is;
  fits = c.in-Some.ensures.within;
}

pub pieces-preserved : goal.pieces-preserved
pieces-preserved c = record {
  within = onward c.args.text.now c.pieces.at ([] ∷ []) c.in-Some.next Passed
      c.pieces.invariant.within c.in-Some.ensures.is c.in-Passed.is;
  fits = c.in-Some.ensures.within;
}
