use Rattle.irs_adjust.proofs.CodeLaws.{one_adjusts}
use Rattle.irs_adjust.proofs.by_code.adjust_by.Goals as goal

pub returns-in-ModFollowing-clause-one : goal.returns-in-ModFollowing-clause-one
returns-in-ModFollowing-clause-one g c = one_adjusts c.args.code (g.G.GoodDays.days c.args.g.now) c.args.d

pub returns-in-ModPreceding-clause-one : goal.returns-in-ModPreceding-clause-one
returns-in-ModPreceding-clause-one g c = one_adjusts c.args.code (g.G.GoodDays.days c.args.g.now) c.args.d
