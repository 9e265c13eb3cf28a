-- Private: no public contract rests on this file.
-- Text without the white space at its ends: space, tab, LF, CR.
use Rattle.std.specs.Prelude.{◌≡◌, ℕ, nat_lt, Bool, false, Option, Some, None, List, [], ◌∷◌, ◌++◌}
use Rattle.irs_json.specs.Leaves.{is_white_space}

-- the byte after the space; all white space is below it
abbrev pub is_past_space : Option ℕ → Bool
is_past_space None = false
is_past_space (Some x) = nat_lt 32 x

-- the text begins with no white space
abbrev pub NoSpaceFirst : List ℕ → Type 0
NoSpaceFirst s = (x : ℕ) (rest : List ℕ) → s ≡ x ∷ rest → is_white_space x ≡ false

-- the text ends in no white space
abbrev pub NoSpaceLast : List ℕ → Type 0
NoSpaceLast s = (x : ℕ) (rest : List ℕ) → s ≡ rest ++ x ∷ [] → is_white_space x ≡ false
