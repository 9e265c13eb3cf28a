use Rattle.irs_calendar.proofs.run_set.RunSetGoodDays.next_good_near.Given as goal

-- the name and the parts are those of the set itself
abbrev pub ghosts-next_near_from : goal.ghosts-next_near_from
ghosts-next_near_from a = record { name = a.blank.name; parts = a.blank.parts }
