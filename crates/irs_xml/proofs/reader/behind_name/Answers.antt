use Rattle.std.proofs.Common.{None, lit<}
use Rattle.std.proofs.lemmas.Str.Pattern.{strip_prefix_char}
use Rattle.irs_xml.proofs.Seeing.{behind_cut}
use Rattle.irs_xml.proofs.reader.behind_name.Goals as goal

pub returns-in-None : goal.returns-in-None
returns-in-None c =
    let p = c.in_ok-rest.ensures.cases in
    behind_cut c.args.text.now c.args.name.now c.in_ok-rest.rest.now p.0 p.1.0 p.1.1 p.1.2 p.2 c.utf8.text c.utf8.name
    (strip_prefix_char 10 c.in_ok-rest.rest.now None c.in-None.ensures.cases (lit< tt))
