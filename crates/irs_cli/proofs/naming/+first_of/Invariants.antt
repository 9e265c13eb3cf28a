use Rattle.std.proofs.Common.{length}
use Rattle.irs_cli.proofs.naming.+first_of.Given as goal

-- the rest of the roles is shorter
abbrev pub decreases-first_of : goal.decreases-first_of
decreases-first_of l = length l.roles.now
