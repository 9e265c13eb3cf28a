use Rattle.irs_elements.proofs.DatesAt.{day_is}
use Rattle.irs_elements.proofs.numbers.day.Goals as goal
use Rattle.std.proofs.Common.{◌∙◌, Some, None}

pub returns-in_err-day : goal.returns-in_err-day
returns-in_err-day c = c.from_residual.ensures ∙ day_is c.args.text.now None tt c.in_err-day.ensures.none

pub returns : goal.returns
returns c = day_is c.args.text.now (Some c.in_ok-day.day) (c.number-number.ensures.range, c.in_ok-day.ensures.some) tt
