-- Private: no public contract rests on this file.
-- The words of a rule and of a fault of cash flows, by the table.
use Rattle.std.specs.Borrow.{Bor}
use Rattle.std.specs.Prelude.{ℕ, List, map}

-- the texts of references
abbrev pub texts : List (Bor (List ℕ)) → List (List ℕ)
texts list = map (λ n. n.now) list
