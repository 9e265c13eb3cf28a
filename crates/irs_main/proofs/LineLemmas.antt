-- Lines that are written one after the other.
use Rattle.std.proofs.Common.{ℕ, List, ◌++◌, codes, map, Bor}
use Rattle.irs_main.specs.Answering.{ended_lines}

-- a text with its line feed
abbrev pub line_in : Bor (List ℕ) → List ℕ
line_in p = p.now ++ codes "\n"

-- texts with a line feed after each
abbrev pub lines_in : List (Bor (List ℕ)) → List ℕ
lines_in ps = ended_lines (map (λ p. p.now) ps)
