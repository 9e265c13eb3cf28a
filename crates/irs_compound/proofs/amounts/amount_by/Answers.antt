use Rattle.irs_compound.proofs.amounts.amount_by.Goals as goal

pub returns : goal.returns
returns c = rw (← c.code_for.ensures) c.compounded.ensures
