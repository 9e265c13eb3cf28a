use Rattle.std.proofs.Common.{arith}
use Rattle.std.proofs.lemmas.Map.Text.{text_keys}
use Rattle.irs_outside.proofs.file_map.FileMap.add.Goals as goal

pub returns-clause-beside : goal.returns-clause-beside
returns-clause-beside c = grind (arith, text_keys)
