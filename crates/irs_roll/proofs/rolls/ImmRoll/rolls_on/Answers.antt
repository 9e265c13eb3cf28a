use Rattle.irs_base.specs.Days.{month_index_of}
use Rattle.irs_base.proofs.MonthLemmas.{date_in_month}
use Rattle.irs_roll.proofs.DatesOnRolls.{third_on, third_at}
use Rattle.irs_roll.proofs.rolls.ImmRoll.rolls_on.Goals as goal

pub returns : goal.returns
returns c =
    let d = c.args.d in
    let date = c.args.date in
    let m = month_index_of date.year date.month in
    let at = date_in_month d date.year date.month date.day c.requires.day c.requires.date in
    let is = c.is_third_wednesday.ensures in (
      λ t. third_on date.day d m at.in_month at.place (is.0 t),
      λ on. is.1 (third_at date.day d m at.in_month at.place on),
    )
