use Rattle.std.proofs.Common.{◌∙◌, ap}
use Rattle.irs_calendar.specs.Sections.{is_named}
use Rattle.irs_calendar.proofs.PlaceLemmas.{has_place}
use Rattle.irs_calendar.proofs.section_list.SectionList.has_name.Goals as goal

pub returns : goal.returns
returns c = c.contains_key.ensures
    ∙ has_place c.self.inside.places c.self.inside.sections.items c.args.name.now c.self.invariant
    ∙ ap (is_named c.args.name.now) c.self.view_is
