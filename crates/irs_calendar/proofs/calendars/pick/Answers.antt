use Rattle.std.proofs.Common.{arith, ◌≡◌, ℕ, List, Bor, Option, Some, None, sym, ◌∙◌, ap}
use Rattle.std.proofs.lemmas.List.{map_push}
use Rattle.irs_calendar.specs.declared.sections.Section.{Section}
use Rattle.irs_calendar.specs.Sections.{section_named}
use Rattle.irs_calendar.proofs.CalendarLemmas.{name_found, name_missing, names_end}
use Rattle.irs_calendar.proofs.CoverLemmas.{sections_at}
use Rattle.irs_calendar.proofs.calendars.pick.Goals as goal

same_search : (ss : List Section) (n m : List ℕ) (o : Option Section) → n ≡ m → o ≡ section_named ss n
    → section_named ss m ≡ o
same_search ss n m o e h = sym (h ∙ ap (section_named ss) e)

pub returns-in_default-clause-missing : goal.returns-in_default-clause-missing
returns-in_default-clause-missing c =
    name_missing c.args.sections.now (sections_at c.loop-name.picked.items) c.loop-name.number c.args.names.now
    c.loop-name.name-index c.name-item.result c.loop-name.invariant.0 c.loop-name-test.true c.name-item.is
    (same_search c.args.sections.now c.as_slice.result.now c.name-item.result None c.as_slice.ensures
    c.in_default.ensures)

pub loop-name-preserved : goal.loop-name-preserved
loop-name-preserved c =
    let found = name_found c.args.sections.now (sections_at c.loop-name.picked.items) c.loop-name.number
    c.args.names.now c.loop-name.name-index c.name-item.result c.in-Some.section.now c.loop-name.invariant.0
    c.loop-name-test.true c.name-item.is
    (same_search c.args.sections.now c.as_slice.result.now c.name-item.result
    (Some c.in-Some.section.now) c.as_slice.ensures c.in-Some.ensures) in (
      rw (
        c.in_ok-push.ensures.items,
        map_push {X = Bor Section} {Y =
            Section} (λ s. s.now) c.loop-name.picked.items c.in-Some.section,
      ) found,
      omega arith,
    )

pub returns-clause-found : goal.returns-clause-found
returns-clause-found c =
    λ _. (names_end c.args.sections.now (sections_at c.loop-name.picked.items) c.loop-name.number c.args.names.now
    c.loop-name.name-index c.loop-name.invariant.0 c.loop-name-test.false).0

pub returns-clause-picked : goal.returns-clause-picked
returns-clause-picked c =
    (names_end c.args.sections.now (sections_at c.loop-name.picked.items) c.loop-name.number c.args.names.now
    c.loop-name.name-index c.loop-name.invariant.0 c.loop-name-test.false).1
