-- Private: no public contract rests on this file.
-- Of private functions: the lines of a file, and what comes first.
use Rattle.std.specs.Prelude.{ℕ, ◌==◌, List, [], ◌∷◌, if◌then◌else◌, ◌⊎◌}

-- ---- the lines of a file

-- the line without a CR at its end
abbrev pub without_cr : List ℕ → List ℕ
without_cr [] = []
without_cr (b ∷ []) = if b == 13 then [] else b ∷ []
without_cr (b ∷ c ∷ cs) = b ∷ without_cr (c ∷ cs)

-- ---- what comes first of all that meet a condition, in any order

-- the statement holds, or it doesn't
abbrev pub IsDecided : Type 0 → Type 0
IsDecided A = A ⊎ (A → ⊥)
