use Rattle.std.proofs.Common.{◌≡◌, List, ℕ, [], Some, arith}
use Rattle.irs_outside.specs.Outside.{Grew}
use Rattle.irs_c.proofs.telling.sentence_on.Goals as goal

-- what was written to an empty sink is what it keeps
kept : (before after text : List ℕ) → before ≡ [] → Grew (Some before) (Some after) text → after ≡ text
kept before after text empty grew = grind arith

pub returns-in-Ok-clause-done : goal.returns-in-Ok-clause-done
returns-in-Ok-clause-done c = kept _ _ _ c.new-kept.ensures c.in-Ok.ensures.ok
