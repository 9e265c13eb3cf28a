-- The last step that isn't after a day, by how many steps aren't.
use Rattle.std.proofs.Common.{◌≡◌, ℕ, suc, ◌-◌, ◌<◌, ℤ, ◌≤ℤ◌, ◌<ℤ◌, arith, sym, subst}
use Rattle.std.proofs.Common.{List, [], ◌∷◌, length, get_or, Some, None, All, Contains, inl, inr}
use Rattle.std.proofs.lemmas.List.Elements.{All-nil, All-from_get_or, Contains-get_or}
use Rattle.std.proofs.lemmas.Bool.{cases_lt}
use Rattle.jiff_core.proofs.SignedLemmas.{signed_arith}
use Rattle.irs_terms.specs.declared.step_list.Step.{Step}
use Rattle.irs_terms.specs.TermDates.{StepsRise}
use Rattle.irs_compound.specs.PeriodRates.{LastOf, last_from}
use Rattle.irs_compound.specs.Private.RateLaws.{last_from_is, IsCountTo}
use Rattle.irs_compound.proofs.CountedSteps.{rises_to}

-- a test of all steps by place
each : (P : Step → Type 0) (steps : List Step) → ((i : ℕ) (e : Step) → i < length steps → P (get_or steps i e))
    → All P steps
each P [] h = All-nil P
each P (s ∷ ss) h = All-from_get_or P (s ∷ ss) s (λ i l. h i s l)

not_after : (steps : List Step) (d : ℤ) (n i : ℕ) (s : Step) → StepsRise steps → IsCountTo d steps (suc n)
    → n < length steps → i < length steps → s ≡ get_or steps n s → (get_or steps i s).day ≤ℤ d
    → (get_or steps i s).day ≤ℤ s.day
not_after steps d n i s r h l m is below = elim (cases_lt n i) [
  | inl more ↦ let a = h.1.1 i s (omega (arith, more)) m in absurd (omega (arith, signed_arith, a, below))
  | inr less ↦
      subst (λ (t : Step). (get_or steps i s).day ≤ℤ t.day) (sym is) (rises_to steps i n s r (omega (arith, less)) l)
]

last : (steps : List Step) (d : ℤ) (n : ℕ) (s : Step) → StepsRise steps → IsCountTo d steps (suc n)
    → n < length steps → s ≡ get_or steps n s → LastOf steps d (Some s)
last steps d n s r h l is = (
  subst (Contains steps) (sym is) (Contains-get_or steps n s l),
  subst (λ (t : Step). t.day ≤ℤ d) (sym is) (h.1.0 n s (omega arith) (omega arith)),
  All-from_get_or (λ t. t.day ≤ℤ d → t.day ≤ℤ s.day) steps s (λ i m. not_after steps d n i s r h l m is),
)

-- no step isn't after the day
pub found_none : (steps : List Step) (d : ℤ) (n : ℕ) → StepsRise steps → IsCountTo d steps n → n ≡ 0
    → None ≡ last_from d None steps
found_none steps d n r h e =
    last_from_is steps d None r (each (λ t. d <ℤ t.day) steps (λ i s l. h.1.1 i s (omega (arith, e)) l))

-- the last of those that aren't
pub found_some : (steps : List Step) (d : ℤ) (n : ℕ) (s : Step) → StepsRise steps → IsCountTo d steps n → 0 < n
    → s ≡ get_or steps (n - 1) s → Some s ≡ last_from d None steps
found_some steps d n s r h p is =
    let e : n ≡ suc (n - 1) = omega (arith, p) in
    let l : n - 1 < length steps = omega (arith, h.0, p) in
    last_from_is steps d (Some s) r (last steps d (n - 1) s r (subst (IsCountTo d steps) e h) l is)
