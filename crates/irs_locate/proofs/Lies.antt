-- What lies at the end of a way, a step further.
use Rattle.std.proofs.Common.{◌≡◌, ℕ, zero, suc, ◌+◌, ◌-◌, List, [], ◌∷◌, drop}
use Rattle.std.proofs.Common.{Some, None, refl, sym, ap, subst, arith, ◌∙◌}
use Rattle.std.specs.Prelude.{slice_get}
use Rattle.std.proofs.lemmas.Option.{same_Some}
use Rattle.irs_elements.specs.Elements.{values_in}
use Rattle.irs_locate.specs.Ways.{LiesAt, below, here, WayStep}
use Rattle.serde_json.specs.Data.{Data}

-- what is left of a list begins with its next item
drop_next : (xs : List WayStep) (n : ℕ) (x : WayStep) → slice_get xs n ≡ Some x → drop n xs ≡ x ∷ drop (n + 1) xs
drop_next [] n x e = absurd cc
drop_next (y ∷ xs) zero x e = ap (λ (z : WayStep). z ∷ xs) (same_Some y x e)
drop_next (y ∷ xs) (suc n) x e =
    let next : suc n + 1 ≡ suc (n + 1) = omega arith in
    rw next (drop_next xs n x e)

-- nothing is left past the last one
drop_none : (xs : List WayStep) (n : ℕ) → slice_get xs n ≡ None → drop n xs ≡ []
drop_none [] zero e = refl
drop_none [] (suc n) e = refl
drop_none (y ∷ xs) zero e = absurd cc
drop_none (y ∷ xs) (suc n) e = drop_none xs n e

-- where the way ends, the value itself lies at its end
pub at_end : (steps : List WayStep) (k : ℕ) (d : Data) → slice_get steps k ≡ None → LiesAt (drop k steps) d d
at_end steps k d e = subst (λ (left : List WayStep). LiesAt left d d) (sym (drop_none steps k e)) (here d)

-- what lies below the value that the next step leads to
pub a_step_on : (steps : List WayStep) (k : ℕ) (step : WayStep) (d x e : Data) → slice_get steps k ≡ Some step
    → slice_get (values_in step.name (Some d)) (step.number - 1) ≡ Some x → LiesAt (drop (k + 1) steps) x e
    → LiesAt (drop k steps) d e
a_step_on steps k step d x e is leads lies =
    subst (λ (left : List WayStep). LiesAt left d e) (sym (drop_next steps k step is))
    (below step (drop (k + 1) steps) d x e leads lies)

-- ---- nothing else lies there

-- what lies at the end of these steps, by the first of them
abbrev Leads : List WayStep → Data → Data → Type 0
Leads [] d e = d ≡ e
Leads (step ∷ steps) d e =
    (x : Data) × ((slice_get (values_in step.name (Some d)) (step.number - 1) ≡ Some x) × LiesAt steps x e)

leads : (steps : List WayStep) (d e : Data) → LiesAt steps d e → Leads steps d e
leads _ _ _ (here d) = refl
leads _ _ _ (below step steps d x e next on) = (x, (next, on))

-- where the way ends, only the value itself lies at its end
pub only_end : (steps : List WayStep) (k : ℕ) (d e : Data) → slice_get steps k ≡ None → LiesAt (drop k steps) d e → d ≡ e
only_end steps k d e none lies =
    leads [] d e (subst (λ (left : List WayStep). LiesAt left d e) (drop_none steps k none) lies)

-- what lies further on lies below the value that the next step leads to
pub only_below : (steps : List WayStep) (k : ℕ) (step : WayStep) (d e : Data) → slice_get steps k ≡ Some step
    → LiesAt (drop k steps) d e
    → (x : Data) × ((slice_get (values_in step.name (Some d)) (step.number - 1) ≡ Some x)
    × LiesAt (drop (k + 1) steps) x e)
only_below steps k step d e is lies =
    leads (step ∷ drop (k + 1) steps) d e
    (subst (λ (left : List WayStep). LiesAt left d e) (drop_next steps k step is) lies)

-- nothing is no value
pub none_is_value : (x : Data) → None ≡ Some x → ⊥
none_is_value x e = cc

-- at most one value lies at the end of a way
pub one_value : (steps : List WayStep) (d a b : Data) → LiesAt steps d a → LiesAt steps d b → a ≡ b
one_value [] d a b to_a to_b = sym (leads [] d a to_a) ∙ leads [] d b to_b
one_value (step ∷ steps) d a b to_a to_b =
    let by_a = leads (step ∷ steps) d a to_a in
    let by_b = leads (step ∷ steps) d b to_b in
    let same = same_Some by_a.0 by_b.0 (sym by_a.1.0 ∙ by_b.1.0) in
    one_value steps by_b.0 a b (subst (λ (x : Data). LiesAt steps x a) same by_a.1.1) by_b.1.1
