use Rattle.irs_observed.proofs.walk.observation_at.Goals as goal

pub returns-in_err-observed-clause-none : goal.returns-in_err-observed-clause-none
returns-in_err-observed-clause-none g c =
    rw c.from_residual.ensures (record {
      place = c.args.place;
      within = c.requires.place;
      none = c.in_err-observed.ensures.none;
    })
