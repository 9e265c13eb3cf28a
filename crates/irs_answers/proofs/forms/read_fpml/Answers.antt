use Rattle.irs_answers.proofs.CarrierLemmas.{no_reading}
use Rattle.irs_answers.proofs.forms.read_fpml.Goals as goal

pub returns-in_err-read_xml-clause-fails : goal.returns-in_err-read_xml-clause-fails
returns-in_err-read_xml-clause-fails c =
    no_reading c.from_residual.result c.in_err-read_xml.field-0.0 c.args.bytes.now c.from_residual.ensures.0
    c.from_residual.ensures.1 c.in_err-read_xml.ensures.none c.in_err-read_xml.ensures.place
