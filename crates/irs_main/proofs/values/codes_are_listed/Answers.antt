use Rattle.irs_main.proofs.CodeLaws.{listed_codes, listed_rolls}
use Rattle.irs_main.proofs.values.codes_are_listed.Goals as goal

pub returns-clause-codes : goal.returns-clause-codes
returns-clause-codes c = listed_codes

pub returns-clause-rolls : goal.returns-clause-rolls
returns-clause-rolls c = listed_rolls
