-- How many steps that rise aren't after a day, by two of them, by a test of each, and by how many there can be.
use Rattle.std.proofs.Common.{◌≡◌, ℕ, zero, suc, ◌+◌, ◌-◌, ◌*◌, ◌/◌, ◌<◌, ◌≤◌, ℤ, pos, ◌+ℤ◌, ◌≤ℤ◌, ◌<ℤ◌, int_le, arith}
use Rattle.std.proofs.Common.{Bool, true, false, List, [], ◌∷◌, length, get_or, refl, sym, subst, ◌∙◌}
use Rattle.std.specs.List.Sorted.{IsPartitionPoint, IsPartitionedBy}
use Rattle.std.proofs.lemmas.List.{get_or_default}
use Rattle.std.proofs.lemmas.List.Elements.{All-get_or}
use Rattle.std.proofs.Math.Nat.{div-lt_iff_lt-mul, mul-le-mul_left}
use Rattle.jiff_core.proofs.SignedLemmas.{signed_arith}
use Rattle.irs_terms.specs.declared.step_list.Step.{Step}
use Rattle.irs_terms.specs.TermDates.{StepsRise}
use Rattle.irs_compound.specs.Private.RateLaws.{same_day, behind, rest, IsCountTo}

-- of steps that rise, none is after a later one
pub rises_to : (steps : List Step) (i k : ℕ) (e : Step) → StepsRise steps → i ≤ k → k < length steps
    → (get_or steps i e).day ≤ℤ (get_or steps k e).day
rises_to [] i k e r l h = absurd (omega arith)
rises_to (s ∷ ss) zero zero e r l h = same_day s.day
rises_to (s ∷ ss) zero (suc k) e r l h =
    let a : s.day <ℤ (get_or ss k e).day = All-get_or (λ t. s.day <ℤ t.day) ss k e (omega arith) (behind s ss r) in
    omega (arith, signed_arith, a)
rises_to (s ∷ ss) (suc i) zero e r l h = absurd (omega arith)
rises_to (s ∷ ss) (suc i) (suc k) e r l h = rises_to ss i k e (rest s ss r) (omega arith) (omega arith)

-- the test whether a day isn't after another, by what it says
not_above : (a d : ℤ) (b : Bool) → int_le a d ≡ b → a ≤ℤ d → b ≡ true
not_above a d true e l = refl
not_above a d false e l = absurd (omega (arith, signed_arith, e, l))

-- the steps up to the day come before the steps after it
pub parted : (steps : List Step) (d : ℤ) → StepsRise steps → IsPartitionedBy (λ s. int_le s.day d) steps
parted steps d r = λ i k e l h up.
    let a = rises_to steps i k e r l h in
    not_above (get_or steps i e).day d (int_le (get_or steps i e).day d) refl (omega (arith, signed_arith, a, up))

-- the count by a test
pub counted : (steps : List Step) (d : ℤ) (n : ℕ) → n ≤ length steps
    → IsPartitionPoint (λ s. int_le s.day d ≡ true) (λ s. int_le s.day d ≡ false) steps n → IsCountTo d steps n
counted steps d n b h = (
  b,
  (
    λ k e l m. let a = h.0 k e l m in omega (arith, signed_arith, a),
    λ k e l m. let a = h.1 k e l m in omega (arith, signed_arith, a),
  ),
)

-- what holds of the day of a step that was read holds of the step at its place
pub at_place : (P : ℤ → Type 0) (steps : List Step) (k : ℕ) (s e : Step) → k < length steps → s ≡ get_or steps k s
    → P s.day → P (get_or steps k e).day
at_place P steps k s e l is h = subst (λ (t : Step). P t.day) (is ∙ get_or_default steps k s e l) h

-- the count by the last step that isn't after the day, and by the next one
pub count_at : (steps : List Step) (d : ℤ) (n : ℕ) → StepsRise steps → n ≤ length steps
    → (0 < n → (e : Step) → (get_or steps (n - 1) e).day ≤ℤ d)
    → (n < length steps → (e : Step) → d <ℤ (get_or steps n e).day) → IsCountTo d steps n
count_at steps d n r b low high = (
  b,
  (
    λ k e l m.
        let a = rises_to steps k (n - 1) e r (omega (arith, m)) (omega (arith, m, b)) in
        let x = low (omega (arith, m)) e in
        omega (arith, signed_arith, a, x),
    λ k e l m.
        let a = rises_to steps n k e r l m in
        let x = high (omega (arith, l, m)) e in
        omega (arith, signed_arith, a, x),
  ),
)

-- each step is a day or more after the one before it
rises_by : (s : Step) (ss : List Step) (k : ℕ) (e : Step) → StepsRise (s ∷ ss) → k < length (s ∷ ss)
    → (s.day +ℤ pos k) ≤ℤ (get_or (s ∷ ss) k e).day
rises_by s ss zero e r l = omega (arith, signed_arith)
rises_by s [] (suc k) e r l = absurd (omega (arith, l))
rises_by s (t ∷ ss) (suc k) e r l =
    let a = rises_by t ss k e r.1 (omega (arith, l)) in
    omega (arith, signed_arith, a, r.0)

-- so there are no more of them after the first than days up to the last
pub few_gaps : (steps : List Step) (n : ℕ) (first last : Step) (days : ℕ) → StepsRise steps → 0 < length steps
    → n ≡ length steps - 1 → first ≡ get_or steps 0 first → last ≡ get_or steps n last
    → (first.day +ℤ pos days) ≡ last.day → n ≤ days
few_gaps [] n first last days r some l f e sum = absurd (omega (arith, some))
few_gaps (s ∷ ss) n first last days r some l f e sum =
    let a = rises_by s ss n last r (omega (arith, l, some)) in
    let b : (first.day +ℤ pos n) ≤ℤ last.day =
    subst (λ (t : Step). (t.day +ℤ pos n) ≤ℤ last.day) (sym f)
    (subst (λ (t : Step). (s.day +ℤ pos n) ≤ℤ t.day) (sym e) a) in
    omega (arith, signed_arith, b, sum)

-- the gap that is nearest to days within the whole is one of those that there are
pub within_gaps : (gaps days whole : ℕ) → 0 < whole → days ≤ whole → (gaps * days + whole / 2) / whole ≤ gaps
within_gaps gaps days whole some inside =
    let p : gaps * days ≤ gaps * whole = mul-le-mul_left gaps inside in
    let l : gaps * days + whole / 2 < (gaps + 1) * whole = omega (arith, p, some) in
    let q : (gaps * days + whole / 2) / whole < gaps + 1 = (div-lt_iff_lt-mul some).1 l in
    omega (arith, q)
