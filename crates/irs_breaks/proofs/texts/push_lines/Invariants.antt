use Rattle.std.proofs.Common.{◌≡◌, ◌++◌, take}
use Rattle.std.specs.List.{flat_map}
use Rattle.irs_breaks.specs.BreakTexts.{break_text}
use Rattle.irs_breaks.proofs.texts.push_lines.Given as goal

-- the lines of the breaks so far follow the text
abbrev pub invariant-loop-found : goal.invariant-loop-found
invariant-loop-found l = l.text.items ≡ l.initial.text.items ++ flat_map break_text (take l.found-index l.breaks)
