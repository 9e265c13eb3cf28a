use Rattle.irs_stage_rows.proofs.step_counts.previous_told.Given as goal

-- the ledger that the search is called with
abbrev pub ghosts-prev_of : goal.ghosts-prev_of
ghosts-prev_of a = record { name = a.blank.name; parts = a.blank.parts }
