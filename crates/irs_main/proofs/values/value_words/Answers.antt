use Rattle.std.proofs.Common.{ap, sym, ◌∙◌}
use Rattle.irs_main.proofs.CodeLaws.{of_center, of_index, of_multiplier, of_observation, of_offset}
use Rattle.irs_main.specs.Elements.{value_words}
use Rattle.irs_main.proofs.values.value_words.Goals as goal

pub returns-in-Multiplier : goal.returns-in-Multiplier
returns-in-Multiplier c = sym (ap value_words c.in-Multiplier.is ∙ of_multiplier)

pub returns-in-OffsetDays : goal.returns-in-OffsetDays
returns-in-OffsetDays c = sym (ap value_words c.in-OffsetDays.is ∙ of_offset)

pub returns-in-ObservationDays : goal.returns-in-ObservationDays
returns-in-ObservationDays c = sym (ap value_words c.in-ObservationDays.is ∙ of_observation)

pub returns-in-CenterName : goal.returns-in-CenterName
returns-in-CenterName c = sym (ap value_words c.in-CenterName.is ∙ of_center)

pub returns-in-IndexName : goal.returns-in-IndexName
returns-in-IndexName c = sym (ap value_words c.in-IndexName.is ∙ of_index)
