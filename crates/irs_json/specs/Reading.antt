-- The value that bytes spell, and places in a text.
use Rattle.serde_json.specs.Data.{Data}
use Rattle.serde_json.specs.Read.{read}
use Rattle.std.specs.Prelude.{◌≡◌, ℕ, List, Some, IsUtf8, ◌+◌, ◌≤◌, ◌==◌, [], ◌∷◌, length, take, if◌then◌else◌}
use Rattle.irs_json.specs.declared.reading.JsonErr.{JsonErr}
use Rattle.irs_json.specs.declared.reading.JsonErr.TheVariants.{NotJson, Memory}

-- ---- the value that bytes spell

-- the bytes are UTF-8, and as a JSON text they read as d
abbrev pub Reads : List ℕ → Data → Type 0
Reads bytes d = IsUtf8 bytes × (read bytes ≡ Some d)

-- ---- lines and columns of a text, from 1

-- the place after bytes that begin at this place: LF ends a line
abbrev pub place_after : ℕ → ℕ → List ℕ → ℕ × ℕ
place_after line column [] = (line, column)
place_after line column (b ∷ bs) =
    if b == 10 then place_after (line + 1) 1 bs else place_after line (column + 1) bs

-- the line and the column are those of a byte of the text, or of its end
abbrev pub LiesIn : List ℕ → ℕ → ℕ → Type 0
LiesIn bytes line column = (n : ℕ) × (n ≤ length bytes) × (place_after 1 1 (take n bytes) ≡ (line, column))

-- where an error is about the text, its place lies in the text
abbrev pub PlaceIn : List ℕ → JsonErr → Type 0
PlaceIn bytes (NotJson line column) = LiesIn bytes line column
PlaceIn bytes Memory = Unit {0}

-- where an error is about the text, the text has no reading
abbrev pub ReadsNone : List ℕ → JsonErr → Type 0
ReadsNone bytes (NotJson line column) = (d : Data) → ¬ (Reads bytes d)
ReadsNone bytes Memory = Unit {0}
