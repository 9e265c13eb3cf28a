use Rattle.irs_schedule.proofs.CenterLemmas.{all_added, finds_applicable, finds_fixing}
use Rattle.irs_schedule.proofs.center_table.CenterTable.add_stream.Goals as goal

pub add-requires-6 : goal.add-requires-6
add-requires-6 c =
    rw (
      c.fixing_names.ensures,
      c.in_ok-add-5.ensures.grows.sections,
      c.in_ok-add-4.ensures.grows.sections,
      c.in_ok-add-3.ensures.grows.sections,
      c.in_ok-add-2.ensures.grows.sections,
      c.in_ok-add.ensures.grows.sections,
    )
    (finds_fixing c.args.self.now.sections c.args.s.now c.requires.lawful c.requires.kept)

pub add-requires-7 : goal.add-requires-7
add-requires-7 c =
    rw (
      c.applicable_names.ensures,
      c.in_ok-add-6.ensures.grows.sections,
      c.in_ok-add-5.ensures.grows.sections,
      c.in_ok-add-4.ensures.grows.sections,
      c.in_ok-add-3.ensures.grows.sections,
      c.in_ok-add-2.ensures.grows.sections,
      c.in_ok-add.ensures.grows.sections,
    )
    (finds_applicable c.args.self.now.sections c.args.s.now c.requires.lawful c.requires.kept)

pub returns : goal.returns
returns c =
    all_added c.args.s.now c.args.self.now c.add.new.self c.add-2.new.self c.add-3.new.self c.add-4.new.self
    c.add-5.new.self c.add-6.new.self c.add-7.new.self
    (rw (c.names_by.ensures, c.first_date.ensures) at c.in_ok-add.ensures)
    (rw c.names_by-2.ensures at c.in_ok-add-2.ensures)
    (rw c.names_by-3.ensures at c.in_ok-add-3.ensures)
    (rw c.names_with.ensures at c.in_ok-add-4.ensures)
    (rw c.reset_names.ensures at c.in_ok-add-5.ensures)
    (rw c.fixing_names.ensures at c.in_ok-add-6.ensures)
    (rw c.applicable_names.ensures at c.in_ok-add-7.ensures)
