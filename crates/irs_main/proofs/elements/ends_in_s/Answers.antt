use Rattle.std.proofs.Common.{◌≡◌, ℕ, suc, ◌-◌, ◌≤◌, length, nat_eq, List, [], ◌∷◌, get_or, refl, ap, ◌∙◌, arith}
use Rattle.irs_main.specs.Elements.{ends_in_s}
use Rattle.irs_main.proofs.elements.ends_in_s.Goals as goal

-- the definition looks at the byte at the last place
last_byte : (name : List ℕ) → 1 ≤ length name → nat_eq (get_or name (length name - 1) 0) 115 ≡ ends_in_s name
last_byte [] some = absurd (omega (arith, some))
last_byte (b ∷ []) some = refl
last_byte (b ∷ c ∷ cs) some =
    let next : length (b ∷ c ∷ cs) - 1 ≡ suc (length (c ∷ cs) - 1) = omega arith in
    ap (λ n. nat_eq (get_or (b ∷ c ∷ cs) n 0) 115) next ∙ last_byte (c ∷ cs) (omega arith)

pub returns-in-len1-up : goal.returns-in-len1-up
returns-in-len1-up c = last_byte c.args.name.now c.in-len1-up.len_at_least
