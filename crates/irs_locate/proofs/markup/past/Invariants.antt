use Rattle.std.proofs.Common.{◌≡◌, ◌+◌, drop, option_map}
use Rattle.irs_locate.specs.Lines.{past}
use Rattle.irs_locate.proofs.markup.past.Given as goal

-- the first `word` in what is left is the first one of the whole
abbrev pub invariant-loop-i : goal.invariant-loop-i
invariant-loop-i l = past l.word l.text ≡ option_map (λ n. n + l.i) (past l.word (drop l.i l.text))
