use Rattle.irs_bulk.specs.Documents.{bulk_document_text}
use Rattle.irs_bulk.proofs.documents.bulk_doc.Goals as goal

pub returns : goal.returns
unfolding bulk_document_text
returns c = rw (← c.convention.ensures) c.document.ensures
