use Rattle.irs_xml.proofs.SizeLaws.{no_larger}
use Rattle.irs_xml.proofs.reading.no_larger.Goals as goal

pub returns : goal.returns
returns c = no_larger
