use Rattle.irs_roll.specs.Rolls.{IsLastDay, IsNumbered, IsThirdWednesday}
use Rattle.irs_roll.specs.Private.Laws.{rolls_in}
use Rattle.irs_roll.proofs.stream_grid.StreamGrid.of_months.Goals as goal

pub new-requires-clause-fits : goal.new-requires-clause-fits
new-requires-clause-fits c = λ m h. rolls_in IsLastDay c.args.anchor m (rw c.in-Eom.is at c.requires.fits) h

pub new-requires-in-Dom-clause-fits : goal.new-requires-in-Dom-clause-fits
new-requires-in-Dom-clause-fits c =
    λ m h. rolls_in (IsNumbered c.in-Dom.day) c.args.anchor m (rw c.in-Dom.is at c.requires.fits) h

pub new-requires-in-Imm-clause-fits : goal.new-requires-in-Imm-clause-fits
new-requires-in-Imm-clause-fits c =
    λ m h. rolls_in IsThirdWednesday c.args.anchor m (rw c.in-Imm.is at c.requires.fits) h

pub returns-in-Eom-clause-on : goal.returns-in-Eom-clause-on
returns-in-Eom-clause-on c = rw c.in-Eom.is c.new.ensures.on

pub returns-in-Dom-clause-on : goal.returns-in-Dom-clause-on
returns-in-Dom-clause-on c = rw c.in-Dom.is c.new-in-Dom.ensures.on

pub returns-in-Imm-clause-on : goal.returns-in-Imm-clause-on
returns-in-Imm-clause-on c = rw c.in-Imm.is c.new-in-Imm.ensures.on
