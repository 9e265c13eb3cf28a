use Rattle.irs_cli.proofs.params.breaks_of.Goals as goal

pub returns-in-None-clause-none : goal.returns-in-None-clause-none
returns-in-None-clause-none c = λ r h. c.in-None.ensures.none h.from h.is_from
