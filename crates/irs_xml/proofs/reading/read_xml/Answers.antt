use Rattle.irs_xml.proofs.TextLaws.{failed, none_encoded, none_allowed, none_of, some_read, nothing_read}
use Rattle.irs_xml.proofs.reading.read_xml.Goals as goal

pub returns-in-Err-clause-none : goal.returns-in-Err-clause-none
returns-in-Err-clause-none c = none_of _ c.stopped.result c.stopped.ensures.kind (none_encoded _ c.in-Err.ensures.cases.0)

pub returns-in-Some-clause-none : goal.returns-in-Some-clause-none
returns-in-Some-clause-none c =
    none_of _ c.stopped-in-Some.result c.stopped-in-Some.ensures.kind (none_allowed _ _ c.in-Ok.ensures.cases.0 c.in-Some.ensures)

pub returns-in-Ok-unmarked-clause-reads : goal.returns-in-Ok-unmarked-clause-reads
returns-in-Ok-unmarked-clause-reads c =
    some_read _ _ _ _ c.in-Ok.ensures.cases.0 c.new-reader.ensures c.in-Ok.ensures.cases.1 c.in_default.ensures
    c.in-Ok-unmarked.ensures

pub returns-in-Err-NotXml-clause-none : goal.returns-in-Err-NotXml-clause-none
returns-in-Err-NotXml-clause-none c =
    none_of _ c.stopped-in-Err-NotXml.result c.stopped-in-Err-NotXml.ensures.kind
    (nothing_read _ _ _ c.in-Ok.ensures.cases.0 c.new-reader.ensures (failed _ _ c.in-Err-NotXml.field-0-is c.in-Err-NotXml.ensures))
