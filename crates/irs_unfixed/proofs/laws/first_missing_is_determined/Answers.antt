use Rattle.irs_unfixed.specs.Unfixed.{MadeFrom, made_from}
use Rattle.irs_unfixed.proofs.OneFixing.{one_lacking}
use Rattle.irs_unfixed.proofs.laws.first_missing_is_determined.Goals as goal

pub returns : goal.returns
returns c =
    let x : MadeFrom = made_from c.args.swap.now c.args.calendars.now c.args.fixings.now in
    one_lacking x c.args.schedule.now
