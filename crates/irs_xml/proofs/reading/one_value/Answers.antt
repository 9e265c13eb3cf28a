use Rattle.irs_xml.proofs.TextLaws.{reads_one}
use Rattle.irs_xml.proofs.reading.one_value.Goals as goal

pub returns : goal.returns
returns c = reads_one
