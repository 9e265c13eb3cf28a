use Rattle.std.proofs.Common.{arith, List, Some, sym, ◌∙◌, ap, subst}
use Rattle.std.proofs.lemmas.Option.{slice_get_within, same_Some, slice_get-get_or}
use Rattle.irs_calendar.specs.declared.sections.Section.{Section}
use Rattle.irs_calendar.specs.Sections.{section_named, AreDistinct}
use Rattle.irs_calendar.proofs.PlaceLemmas.{found_at, none_found}
use Rattle.irs_calendar.proofs.section_list.SectionList.find.Goals as goal

pub index-requires : goal.index-requires
index-requires c =
    let f = c.self.invariant.found c.args.name.now c.in-Some.place.now (sym c.in-Some.ensures.value) in
    omega (arith, slice_get_within c.self.inside.sections.items c.in-Some.place.now f.0 f.1, c.self.inside.sections.ok)

pub returns-in-Some : goal.returns-in-Some
returns-in-Some c =
    let ss = c.self.inside.sections.items in
    let f = c.self.invariant.found c.args.name.now c.in-Some.place.now (sym c.in-Some.ensures.value) in
    let there = slice_get-get_or ss c.in-Some.place.now c.index.result.now
    (slice_get_within ss c.in-Some.place.now f.0 f.1) ∙ ap (λ (s : Section). Some s) (sym c.index.ensures) in
    let named = ap (λ (s : Section). s.name) (same_Some c.index.result.now f.0 (sym there ∙ f.1)) ∙ f.2 in
    let apart = subst AreDistinct (sym c.self.view_is) c.requires in
    sym (found_at ss c.in-Some.place.now c.index.result.now c.args.name.now apart there named)
    ∙ ap (λ (l : List Section). section_named l c.args.name.now) c.self.view_is

pub returns-in-None : goal.returns-in-None
returns-in-None c =
    sym (none_found c.self.inside.sections.items c.args.name.now
    (c.self.invariant.missing c.args.name.now (sym c.in-None.ensures.value)))
    ∙ ap (λ (l : List Section). section_named l c.args.name.now) c.self.view_is
