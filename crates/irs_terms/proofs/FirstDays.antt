-- The date at which the first calculation period begins is a lawful one.
use Rattle.std.specs.Prelude.{Option, Some, None, IfSome, unwrap_or}
use Rattle.irs_base.specs.Days.{IsDay}
use Rattle.irs_terms.specs.TermDates.{first_date_of, first_day_of}
use Rattle.irs_terms.specs.Lawful.{IsLawfulAdjustableDate, IsLawfulStream}
use Rattle.irs_terms.specs.declared.adjustments.AdjustableDate.{AdjustableDate}
use Rattle.irs_terms.specs.declared.stream.Stream.{Stream}

given_lawful : (given : Option AdjustableDate) (effective : AdjustableDate) → IfSome given IsLawfulAdjustableDate → IsLawfulAdjustableDate effective
    → IsLawfulAdjustableDate (unwrap_or given effective)
given_lawful None effective none lawful = lawful
given_lawful (Some d) effective lawful also = lawful

-- the first date of a lawful stream is lawful
pub first_date_lawful : (s : Stream) → IsLawfulStream s → IsLawfulAdjustableDate (first_date_of s)
first_date_lawful s lawful = given_lawful s.first_start s.effective lawful.first_start lawful.effective

-- its first day is a day of the range
pub first_day_is_day : (s : Stream) → IsLawfulStream s → IsDay (first_day_of s)
first_day_is_day s lawful = (first_date_lawful s lawful).0
