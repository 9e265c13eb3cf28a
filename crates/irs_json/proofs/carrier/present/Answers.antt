use Rattle.std.proofs.Common.{arith, length, ◌<◌}
use Rattle.std.proofs.lemmas.Bool.Decides.{nat_tests}
use Rattle.irs_json.proofs.Views.{present-Array}
use Rattle.irs_json.proofs.carrier.present.Goals as goal

pub returns-else-is_empty : goal.returns-else-is_empty
returns-else-is_empty c = let some : 0 < length c.in-Array.list.items = grind (arith, nat_tests) in
    present-Array _ _ c.in-Array.is some
