use Rattle.irs_rules.proofs.known_centers.unknown.Goals as goal

pub returns-in-Some : goal.returns-in-Some
returns-in-Some c = rw c.in-Some.is c.first_unknown.ensures
