-- Private: no public contract rests on this file.
-- Of private functions: business days that are counted, and a day that is moved.
use Rattle.std.specs.Prelude.{ℤ, pos, ◌+ℤ◌, ◌-ℤ◌}
use Rattle.irs_terms.specs.declared.codes.DayKind.{DayKind}
use Rattle.irs_terms.specs.declared.codes.DayKind.TheVariants.{Business, Calendar, Unsaid}
use Rattle.irs_calendar.specs.GoodDays.{DaySet, Next, Prev}
use Rattle.irs_adjust.specs.declared.moved.NoDate.{NoDate}
use Rattle.irs_adjust.specs.declared.moved.NoDate.TheVariants.{NoResult, OutOfRange}
use Rattle.irs_adjust.specs.declared.ways.Way.{Way}
use Rattle.irs_adjust.specs.declared.ways.Way.TheVariants.{Ahead, Back}

-- ---- a day that an offset moves and a convention then adjusts, and how that may fail: K33 and K38 of payment dates
-- and fixing dates

-- how it fails where the offset moves the start to no day; an offset of no kind is 0 and moves to one
abbrev pub no_move_of : DayKind → NoDate
no_move_of Business = NoResult
no_move_of Calendar = OutOfRange
no_move_of Unsaid = OutOfRange

-- ---- business days that are counted on one side of a day

-- r is the business day nearest to d on that side, d left out
abbrev pub IsNextOn : Way → DaySet → ℤ → ℤ → Type 0
IsNextOn Ahead s d r = Next s (d +ℤ pos 1) r
IsNextOn Back s d r = Prev s (d -ℤ pos 1) r
