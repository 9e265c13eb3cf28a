use Rattle.irs_stage_rows.proofs.step_counts.next_told.Given as goal

-- the ledger that the search is called with
abbrev pub ghosts-next_of : goal.ghosts-next_of
ghosts-next_of a = record { name = a.blank.name; parts = a.blank.parts }
