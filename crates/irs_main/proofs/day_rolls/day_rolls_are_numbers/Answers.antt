use Rattle.irs_main.proofs.DayRolls.{day_roll, day_roll_read}
use Rattle.irs_main.proofs.day_rolls.day_rolls_are_numbers.Goals as goal

pub returns-clause-read : goal.returns-clause-read
returns-clause-read c = day_roll

pub returns-clause-back : goal.returns-clause-back
returns-clause-back c = day_roll_read
