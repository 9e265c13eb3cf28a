-- What a caller sees of an empty text.
use Rattle.std.proofs.Common.{◌≡◌, ℕ, zero, suc, List, [], ◌++◌, length, take, refl, sym, ap}
use Rattle.irs_c.specs.Each.{Shown}

take_none : (n : ℕ) → (let none : List ℕ = [] in take n none ≡ none)
take_none zero = refl
take_none (suc n) = refl

-- the buffer is as it was, and the length is 0
pub nothing_shown : (before : List ℕ) → Shown before before 0 []
nothing_shown before =
    record { front = ap (λ (l : List ℕ). l ++ before) (sym (take_none (length before))); count = refl }
