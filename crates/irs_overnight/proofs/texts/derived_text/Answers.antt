use Rattle.irs_overnight.proofs.LinesRead.{reads_as}
use Rattle.irs_overnight.proofs.texts.derived_text.Goals as goal

pub returns-clause-reads : goal.returns-clause-reads
returns-clause-reads c =
    λ lawful. reads_as c.args.row.now c.args.row.now.found c.args.tenor c.args.index.now
    c.number-number.ensures.range lawful
