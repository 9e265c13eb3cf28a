use Rattle.serde_json.specs.View.{view}
use Rattle.irs_answers.specs.Forms.{no_source_text, xml_text}
use Rattle.irs_answers.specs.Due.{of_read}
use Rattle.irs_answers.proofs.CarrierLemmas.{Carries, carries, refuse_carrier}
use Rattle.irs_answers.proofs.StepLemmas.{answered_by}
use Rattle.irs_answers.proofs.UnreadLemmas.{placed_by, read_placed}
use Rattle.irs_answers.proofs.carrying.carry.Goals as goal

pub returns-in_err-value-clause-due : goal.returns-in_err-value-clause-due
returns-in_err-value-clause-due c =
    let e = c.in_err-value.field-0.0 in
    let made = c.from_residual in
    let bytes = c.args.bytes.now in
    answered_by made.result (of_read e) (Carries bytes) made.ensures.0 made.ensures.1
    (refuse_carrier bytes e c.in_err-value.ensures.fails)

pub returns-in_err-value-clause-placed : goal.returns-in_err-value-clause-placed
returns-in_err-value-clause-placed c =
    let e = c.in_err-value.field-0.0 in
    let made = c.from_residual in
    let document = xml_text c.args.bytes.now in
    placed_by document no_source_text made.result (of_read e) made.ensures.0 made.ensures.1
    (read_placed document no_source_text e c.in_err-value.ensures.fails)

pub returns-clause-due : goal.returns-clause-due
returns-clause-due c =
    carries c.args.bytes.now c.in_ok-line_of.field-0.items (view c.in_ok-value.value) c.in_ok-value.ensures.reads
    c.in_ok-line_of.ensures.text c.in_ok-line_of.ensures.reads
