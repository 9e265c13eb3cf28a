use Rattle.std.proofs.Common.{◌≡◌, ◌+◌, drop, option_map}
use Rattle.irs_locate.specs.Lines.{tag_end}
use Rattle.irs_locate.proofs.markup.tag_end.Given as goal

-- the end of the tag in what is left is that of the whole
abbrev pub invariant-loop-i : goal.invariant-loop-i
invariant-loop-i l = tag_end 0 l.text ≡ option_map (λ n. n + l.i) (tag_end l.quote (drop l.i l.text))
