use Rattle.std.proofs.Common.{◌∙◌, ap, sym, min}
use Rattle.irs_base.specs.Days.{month_index_of}
use Rattle.irs_base.proofs.Dates.{year_range}
use Rattle.irs_base.proofs.MonthLemmas.{date_in_month}
use Rattle.irs_roll.proofs.DatesOnRolls.{numbered_on, numbered_at}
use Rattle.irs_roll.proofs.rolls.DayNumberRoll.rolls_on.Goals as goal

pub has_number-requires : goal.has_number-requires
has_number-requires c =
    year_range c.args._d c.args.date.year c.args.date.month c.args.date.day c.requires.day c.requires.date

pub returns : goal.returns
returns c =
    let d = c.args._d in
    let date = c.args.date in
    let n = c.args.self.now.number in
    let m = month_index_of date.year date.month in
    let at = date_in_month d date.year date.month date.day c.requires.day c.requires.date in
    let length = ap (min n) at.length in (
      λ t. numbered_on n date.day d m c.args.self.now.counts_from_one at.in_month at.place
          (c.has_number.ensures.0 t ∙ sym length),
      λ on. c.has_number.ensures.1 (numbered_at n date.day d m at.in_month at.place on ∙ length),
    )
