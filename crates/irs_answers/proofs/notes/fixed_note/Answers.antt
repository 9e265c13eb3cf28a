use Rattle.std.proofs.Common.{◌∙◌, sym}
use Rattle.std.proofs.lemmas.Result.{IfOk-weaker}
use Rattle.irs_answers.specs.Due.{facts_by}
use Rattle.irs_answers.specs.Notes.{IsFixedNote}
use Rattle.irs_answers.specs.declared.notes.Note.{Note}
use Rattle.irs_answers.proofs.NoteLemmas.{amounts_fixed, made_with_table, nothing_fixed}
use Rattle.irs_answers.proofs.notes.fixed_note.Goals as goal

pub amounts_note-requires : goal.amounts_note-requires
amounts_note-requires c =
    made_with_table c.args.task.now (facts_by c.args.found.now)
    (sym c.states_amounts.ensures ∙ c.if-states_amounts.true) c.requires

pub returns-then-states_amounts : goal.returns-then-states_amounts
returns-then-states_amounts c =
    let t = c.args.task.now in
    let f = facts_by c.args.found.now in
    IfOk-weaker c.amounts_note.result _ (IsFixedNote t f)
    (λ (n : Note) h. amounts_fixed t f (sym c.states_amounts.ensures ∙ c.if-states_amounts.true) n h)
    c.amounts_note.ensures

pub returns-else-states_amounts : goal.returns-else-states_amounts
returns-else-states_amounts c =
    nothing_fixed c.args.task.now (facts_by c.args.found.now)
    (sym c.states_amounts.ensures ∙ c.if-states_amounts.false)
