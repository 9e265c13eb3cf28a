-- Private: no public contract rests on this file.
-- Of private functions: the length of a frequency, and the order of steps.
use Rattle.std.specs.Prelude.{◌<◌}
use Rattle.irs_terms.specs.declared.lengths.Length.{Length}
use Rattle.irs_terms.specs.declared.lengths.Length.TheVariants.{Days, Months, Term}
use Rattle.irs_terms.specs.declared.stream.Stream.{Stream}
use Rattle.irs_terms.specs.TermDates.{StepsRise, LegStepsRise}

-- ---- the length of a frequency: days, months, or the whole term

-- at least 1 day or 1 month, and at least the multiplier 1
abbrev pub IsPositive : Length → Type 0
IsPositive (Days count) = 0 < count
IsPositive (Months count) = 0 < count
IsPositive (Term count) = 0 < count

-- ---- the order of steps, and that they lie inside the term (FpML stepDate)

-- all steps of a stream rise
abbrev pub AllStepsRise : Stream → Type 0
AllStepsRise s = StepsRise s.notional.steps × LegStepsRise s.leg
