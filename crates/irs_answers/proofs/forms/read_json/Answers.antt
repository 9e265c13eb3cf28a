use Rattle.irs_answers.proofs.CarrierLemmas.{no_json}
use Rattle.irs_answers.proofs.forms.read_json.Goals as goal

pub returns-in_err-parse-clause-fails : goal.returns-in_err-parse-clause-fails
returns-in_err-parse-clause-fails c =
    no_json c.from_residual.result c.in_err-parse.field-0.0 c.args.bytes.now c.from_residual.ensures.0
    c.from_residual.ensures.1 c.in_err-parse.ensures.none c.in_err-parse.ensures.place
