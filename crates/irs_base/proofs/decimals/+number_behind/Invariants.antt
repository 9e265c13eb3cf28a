use Rattle.irs_base.proofs.decimals.+number_behind.Given as goal

abbrev pub decreases-number_behind : goal.decreases-number_behind
decreases-number_behind l = l.count
