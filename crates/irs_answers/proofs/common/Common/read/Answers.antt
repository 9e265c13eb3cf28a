use Rattle.irs_answers.proofs.FileLimits.{all_small}
use Rattle.irs_answers.proofs.common.Common.read.Goals as goal

pub read_calendars-calendars-requires-clause-short : goal.read_calendars-calendars-requires-clause-short
read_calendars-calendars-requires-clause-short c =
    rw c.deref.ensures.value (all_small c.args.files.calendars.items c.requires.calendars)
