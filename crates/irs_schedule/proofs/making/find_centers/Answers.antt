use Rattle.irs_rules.proofs.Kept.{terms_kept}
use Rattle.irs_schedule.proofs.making.find_centers.Goals as goal

pub new-requires-clause-kept : goal.new-requires-clause-kept
new-requires-clause-kept c = terms_kept c.args.swap.now c.args.cal.now c.requires.lawful c.requires.terms
