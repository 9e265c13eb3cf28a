-- Private: no public contract rests on this file.
-- A text that goes to a sink by pages.
use Rattle.std.specs.Prelude.{◌≡◌, ℕ, List, ◌++◌, Option}
use Rattle.irs_outside.specs.Outside.{Grew}

-- all of the text was written except what is left
pub record Through (old now : Option (List ℕ)) (left text : List ℕ) : Type 0 where
  pub front : List ℕ
  pub grew : Grew old now front
  pub is : text ≡ front ++ left
