use Rattle.serde_json.specs.View.{view}
use Rattle.irs_answers.specs.declared.refusals.Refusal.TheVariants.{Rule, Calendars, Fixings}
use Rattle.irs_answers.specs.Due.{found_of, RefusedBy, of_read, of_stopped}
use Rattle.irs_answers.specs.Forms.{source_by, given_with, IsPlacedRefusal}
use Rattle.irs_answers.proofs.DueLemmas.{passes_by, refuse_text, refuse_read, refuse_sides, refuse_calendars}
use Rattle.irs_answers.proofs.DueLemmas.{refuse_fixings, refuse_rules, spells_by}
use Rattle.irs_answers.proofs.StepLemmas.{refused_by}
use Rattle.irs_answers.proofs.UnreadLemmas.{read_placed, stopped_placed}
use Rattle.irs_answers.proofs.due.find.Goals as goal

pub returns-in_err-document-clause-refused : goal.returns-in_err-document-clause-refused
returns-in_err-document-clause-refused c =
    let e = c.in_err-document.field-0.0 in
    let made = c.from_residual in
    let t = c.args.task in
    let g = given_with c.args.files.now c.args.common.now.files in
    refused_by made.result (of_read e) (RefusedBy (found_of t g)) made.ensures.0 made.ensures.1
    (refuse_text t g e c.in_err-document.ensures.fails)

pub returns-in_err-document-clause-placed : goal.returns-in_err-document-clause-placed
returns-in_err-document-clause-placed c =
    let e = c.in_err-document.field-0.0 in
    let made = c.from_residual in
    let document = source_by c.args.files.now.document in
    let flows = source_by c.args.files.now.flows in
    refused_by made.result (of_read e) (IsPlacedRefusal document flows) made.ensures.0 made.ensures.1
    (read_placed document flows e c.in_err-document.ensures.fails)

pub returns-in_err-swap-clause-refused : goal.returns-in_err-swap-clause-refused
returns-in_err-swap-clause-refused c =
    let e = c.in_err-swap.field-0.0 in
    let made = c.from_residual-in_err-swap in
    let t = c.args.task in
    let g = given_with c.args.files.now c.args.common.now.files in
    refused_by made.result (of_stopped e) (RefusedBy (found_of t g)) made.ensures.0 made.ensures.1
    (refuse_read t g (view c.in_ok-document.document) e c.in_ok-document.ensures.reads c.in_err-swap.ensures.broken)

pub returns-in_err-swap-clause-placed : goal.returns-in_err-swap-clause-placed
returns-in_err-swap-clause-placed c =
    let e = c.in_err-swap.field-0.0 in
    let made = c.from_residual-in_err-swap in
    let document = source_by c.args.files.now.document in
    let flows = source_by c.args.files.now.flows in
    refused_by made.result (of_stopped e) (IsPlacedRefusal document flows) made.ensures.0 made.ensures.1
    (stopped_placed document flows e)

pub returns-in_err-sides-clause-refused : goal.returns-in_err-sides-clause-refused
returns-in_err-sides-clause-refused c =
    let e = c.in_err-sides.field-0.0 in
    let made = c.from_residual-in_err-sides in
    let t = c.args.task in
    let g = given_with c.args.files.now c.args.common.now.files in
    refused_by made.result (Rule e) (RefusedBy (found_of t g)) made.ensures.0 made.ensures.1
    (refuse_sides t g (view c.in_ok-document.document) c.in_ok-swap.swap e c.in_ok-document.ensures.reads
    c.in_ok-swap.ensures.means c.in_err-sides.ensures)

pub returns-in_err-calendars-clause-refused : goal.returns-in_err-calendars-clause-refused
returns-in_err-calendars-clause-refused c =
    let e = c.in_err-calendars.field-0.0 in
    let made = c.from_residual-in_err-calendars in
    let t = c.args.task in
    let g = given_with c.args.files.now c.args.common.now.files in
    let swap = c.in_ok-swap.swap in
    let sides = c.in_ok-sides.sides in
    let spells = spells_by t g.document (view c.in_ok-document.document) swap sides c.in_ok-document.ensures.reads
    c.in_ok-swap.ensures.means c.in_ok-sides.ensures in
    refused_by made.result (Calendars e) (RefusedBy (found_of t g)) made.ensures.0 made.ensures.1
    (refuse_calendars t g swap sides spells e c.in_err-calendars.ensures.first)

pub returns-in_err-fixings-clause-refused : goal.returns-in_err-fixings-clause-refused
returns-in_err-fixings-clause-refused c =
    let e = c.in_err-fixings.field-0.0 in
    let made = c.from_residual-in_err-fixings in
    let t = c.args.task in
    let g = given_with c.args.files.now c.args.common.now.files in
    let swap = c.in_ok-swap.swap in
    let sides = c.in_ok-sides.sides in
    let spells = spells_by t g.document (view c.in_ok-document.document) swap sides c.in_ok-document.ensures.reads
    c.in_ok-swap.ensures.means c.in_ok-sides.ensures in
    refused_by made.result (Fixings e) (RefusedBy (found_of t g)) made.ensures.0 made.ensures.1
    (refuse_fixings t g swap sides spells c.in_ok-calendars.calendars.now c.in_ok-calendars.ensures.spelt e
    c.in_err-fixings.ensures.fault)

pub returns-in_err-schedule-clause-refused : goal.returns-in_err-schedule-clause-refused
returns-in_err-schedule-clause-refused c =
    let e = c.in_err-schedule.field-0.0 in
    let made = c.from_residual-in_err-schedule in
    let t = c.args.task in
    let g = given_with c.args.files.now c.args.common.now.files in
    let swap = c.in_ok-swap.swap in
    let sides = c.in_ok-sides.sides in
    let spells = spells_by t g.document (view c.in_ok-document.document) swap sides c.in_ok-document.ensures.reads
    c.in_ok-swap.ensures.means c.in_ok-sides.ensures in
    refused_by made.result e (RefusedBy (found_of t g)) made.ensures.0 made.ensures.1
    (refuse_rules t g swap sides spells c.in_ok-calendars.calendars.now c.in_ok-calendars.ensures.spelt
    c.in_ok-fixings.fixings.now e c.in_ok-fixings.ensures.fixings c.in_err-schedule.ensures.meets)

pub returns-in_err-schedule-clause-placed : goal.returns-in_err-schedule-clause-placed
returns-in_err-schedule-clause-placed c =
    let e = c.in_err-schedule.field-0.0 in
    let made = c.from_residual-in_err-schedule in
    let document = source_by c.args.files.now.document in
    let flows = source_by c.args.files.now.flows in
    refused_by made.result e (IsPlacedRefusal document flows) made.ensures.0 made.ensures.1
    (c.in_err-schedule.ensures.placed document flows)

pub returns-clause-passes : goal.returns-clause-passes
returns-clause-passes c =
    let t = c.args.task in
    let g = given_with c.args.files.now c.args.common.now.files in
    let swap = c.in_ok-swap.swap in
    let sides = c.in_ok-sides.sides in
    let spells = spells_by t g.document (view c.in_ok-document.document) swap sides c.in_ok-document.ensures.reads
    c.in_ok-swap.ensures.means c.in_ok-sides.ensures in
    passes_by t g swap sides spells c.in_ok-calendars.calendars.now c.in_ok-calendars.ensures.spelt
    c.in_ok-fixings.fixings.now c.in_ok-schedule.schedule c.in_ok-fixings.ensures.fixings c.in_ok-schedule.ensures.meets
