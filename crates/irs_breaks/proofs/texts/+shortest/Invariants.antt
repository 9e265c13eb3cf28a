use Rattle.irs_breaks.proofs.texts.+shortest.Given as goal

-- the decimals that may still be left out
abbrev pub decreases-shortest : goal.decreases-shortest
decreases-shortest l = l.more
