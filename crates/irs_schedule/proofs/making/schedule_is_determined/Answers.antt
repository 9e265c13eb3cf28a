use Rattle.irs_schedule.proofs.OnePart.{one_schedule, schedule_determined, schedule_there}
use Rattle.irs_schedule.proofs.making.schedule_is_determined.Goals as goal

pub returns-clause-outcome : goal.returns-clause-outcome
returns-clause-outcome c =
    schedule_determined c.args.swap.now c.args.cal.now c.args.fix.now c.requires.lawful c.requires.terms

pub returns-clause-only : goal.returns-clause-only
returns-clause-only c = λ free.
    let there = schedule_there c.args.swap.now c.args.cal.now c.args.fix.now c.requires.lawful c.requires.terms free in (
      there.0,
      record {
        is = there.1;
        only = λ t h.
            one_schedule c.args.swap.now c.args.cal.now c.args.fix.now c.requires.lawful c.requires.terms free t there.0 h there.1;
      },
    )
