use Rattle.std.proofs.Common.{arith, ◌≡◌, ℕ, sym, ◌∙◌, subst}
use Rattle.std.specs.Ordering.{nat_cmp}
use Rattle.std.specs.Cmp.Lexicographic.{slice_cmp}
use Rattle.std.specs.BTreeMap.{insert_entry}
use Rattle.irs_calendar.specs.Sections.{IsIndex}
use Rattle.irs_calendar.proofs.PlaceLemmas.{index_with}
use Rattle.irs_calendar.proofs.section_list.SectionList.with.Goals as goal

pub invariant_of-result : goal.invariant_of-result
invariant_of-result c =
    subst (IsIndex c.insert.new.self) (sym c.in_ok-push.ensures.items)
    (index_with c.self.inside.places c.insert.new.self c.self.inside.sections.items c.args.section c.in_ok-name.name
    c.self.invariant (subst (λ (n : ℕ). c.insert.new.self.entries
    ≡ insert_entry (λ a b. slice_cmp nat_cmp a.items b.items) c.self.inside.places.entries c.in_ok-name.name n)
    (omega (arith, c.len.ensures, c.self.inside.sections.ok)) c.in_ok-insert.ensures.entries)
    (c.in_ok-name.ensures.items ∙ c.as_slice.ensures))
