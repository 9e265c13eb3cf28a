use Rattle.irs_base.proofs.line.+push_fours.Given as goal

abbrev pub decreases-push_fours : goal.decreases-push_fours
decreases-push_fours l = l.places
