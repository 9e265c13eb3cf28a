use Rattle.irs_cli.proofs.params.observations_of.Goals as goal

pub returns-in-None-clause-none : goal.returns-in-None-clause-none
returns-in-None-clause-none c = λ r h. c.in-None.ensures.none h.stream h.is_stream
