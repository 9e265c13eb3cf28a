-- Which boundary comes first among those without an adjusted day.
use Rattle.std.proofs.Common.{◌≡◌, ◌⊎◌, inl, inr, ⊎_elim, ℕ, ◌<◌, ◌≤◌, ◌==◌, if◌then◌else◌, List, length, Option, Some}
use Rattle.std.proofs.Common.{None, false, arith, sym, ℤ, subst}
use Rattle.std.proofs.lemmas.Bool.{cases_lt}
use Rattle.std.proofs.lemmas.Bool.Decides.{nat_tests}
use Rattle.irs_terms.specs.Elements.{effective_date, termination_date, period_dates_adjustments, first_period_start_date}
use Rattle.irs_terms.specs.declared.adjustments.AdjustableDate.{AdjustableDate}
use Rattle.irs_terms.specs.declared.stream.Stream.{Stream}
use Rattle.irs_base.proofs.Firsts.{level_later, level_same, lt_false}
use Rattle.irs_periods.specs.Boundaries.{BoundaryDays, NoResult, NotAfter, boundary_index, last_of}
use Rattle.irs_periods.specs.Private.Spans.{FirstLaterNoResult, FirstNoResult, FirstNotAfter, HasResult, named_before}
use Rattle.irs_terms.specs.TermDates.{first_day_element, first_day_element_by}

-- the element by which a boundary is named, `start` being that of boundary 0
abbrev element : ℕ → ℕ → ℕ → ℕ
element start last i = if i == 0 then start else (if i == last then termination_date else period_dates_adjustments)

-- boundary j is named before boundary i: by the order of elements, and then of boundaries
abbrev Named : ℕ → ℕ → ℕ → ℕ → Type 0
Named start last j i =
    (element start last j < element start last i)
    ⊎ ((element start last j ≡ element start last i) × (boundary_index last j < boundary_index last i))

-- after boundary 0 the last one is named first
none_before_last : (start last j : ℕ) → 0 < j → 0 < last → Named start last j last → ⊥
none_before_last start last j later some (inl h) = grind (arith, nat_tests)
none_before_last start last j later some (inr h) = let below = h.1 in grind (arith, nat_tests)

-- and then the middle ones in their order
before_inner : (start last i j : ℕ) → 0 < j → 0 < i → i < last → Named start last j i → (j ≡ last) ⊎ (j < i)
before_inner start last i j later some inner (inl h) = grind (arith, nat_tests)
before_inner start last i j later some inner (inr h) = let below = h.1 in grind (arith, nat_tests)

-- the effective date is named before all
none_before_effective : (last j : ℕ) → Named effective_date last j 0 → ⊥
none_before_effective last j (inl h) = grind (arith, nat_tests)
none_before_effective last j (inr h) = let below = h.1 in grind (arith, nat_tests)

-- firstPeriodStartDate is named after all
start_behind : (last i : ℕ) → 0 < i → Named first_period_start_date last 0 i → ⊥
start_behind last i later (inl h) = grind (arith, nat_tests)
start_behind last i later (inr h) = let same = h.0 in grind (arith, nat_tests)

not_before_itself : (start last i : ℕ) → Named start last i i → ⊥
not_before_itself start last i (inl h) = omega (arith, h)
not_before_itself start last i (inr h) = omega (arith, h.1)

-- boundary 0, or another one
at_place : (P : ℕ → Type 0) (i : ℕ) → P 0 → (0 < i → P i) → P i
at_place P i zeroth later = elim (cases_lt 0 i) [
  | inl some ↦ later some
  | inr none ↦ let e : 0 ≡ i = omega (arith, none) in subst P e zeroth
]

-- what is not named before doesn't come before
unnamed : (s : Stream) (last j i : ℕ) → (Named (first_day_element s) last j i → ⊥) → named_before s last j i ≡ false
unnamed s last j i none =
    let start = first_day_element s in
    let of_j = element start last j in
    let of_i = element start last i in
    elim (cases_lt of_i of_j) [
      | inl later ↦ level_later of_j of_i _ later
      | inr rest ↦ elim (cases_lt of_j of_i) [
        | inl earlier ↦ absurd (none (inl earlier))
        | inr level ↦
            let same : of_j ≡ of_i = omega (arith, rest, level) in
            level_same of_j of_i _ same
            (lt_false (boundary_index last j) (boundary_index last i) (λ below. none (inr (same, below))))
      ]
    ]

module _ (s : Stream) (sets : BoundaryDays) (b : List ℤ) where
  -- boundary i has an adjusted day
  abbrev Has : ℕ → Type 0
  Has i = HasResult s sets b i

  -- where boundary j has no adjusted day it isn't named before boundary i
  abbrev NotBefore : ℕ → ℕ → Type 0
  NotBefore i j = NoResult s sets b j → named_before s (last_of b) j i ≡ false

  -- where the last boundary has no adjusted day, it is the first to be named after boundary 0
  pub first_last : 0 < last_of b → NoResult s sets b (last_of b) → FirstLaterNoResult s sets b (last_of b)
  first_last some misses = (
    (some, misses),
    λ j h. unnamed s (last_of b) j (last_of b)
        (λ named. none_before_last (first_day_element s) (last_of b) j h.0 some named),
  )

  -- an inner boundary is the first to be named where the last one and those before it have an adjusted day
  pub first_inner : (i : ℕ) → 0 < i → i < last_of b → NoResult s sets b i → Has (last_of b)
      → ((j : ℕ) → 1 ≤ j → j < i → Has j) → FirstLaterNoResult s sets b i
  first_inner i some inner misses at_last before = (
    (some, misses),
    λ j h. unnamed s (last_of b) j i (λ named. ⊎_elim
        (λ lastly. let at_end = subst (λ (k : ℕ). NoResult s sets b k) lastly h.1 in at_end.none at_last.0 at_last.1)
        (λ low. let r = before j (let later = h.0 in omega (arith, later)) low in h.1.none r.0 r.1)
        (before_inner (first_day_element s) (last_of b) i j h.0 some inner named)),
  )

  -- each boundary after boundary 0 has an adjusted day where the last one and the inner ones have
  pub each_later : Has (last_of b) → ((j : ℕ) → 1 ≤ j → j < last_of b → Has j) → (i : ℕ) → 0 < i → i < length b → Has i
  each_later at_last inner i some within = elim (cases_lt i (last_of b)) [
    | inl low ↦ inner i (omega (arith, some)) low
    | inr high ↦ let e : last_of b ≡ i = omega (arith, high, within) in subst Has e at_last
  ]

  -- where boundary 0 and each one after it has an adjusted day, each has one
  pub each_place : Has 0 → ((i : ℕ) → 0 < i → i < length b → Has i) → (i : ℕ) → i < length b → Has i
  each_place at_first later i within = at_place Has i at_first (λ some. later i some within)

  -- boundary 0 has an adjusted day
  pub first_behind : (i : ℕ) → Has 0 → FirstLaterNoResult s sets b i → FirstNoResult s sets b i
  first_behind i at_first h = (
    h.0.1,
    λ j. at_place (NotBefore i) j (λ zeroth. absurd (zeroth.none at_first.0 at_first.1))
        (λ some misses. h.1 j (some, misses)),
  )

  -- boundary 0 is named after the others
  pub first_before_start : (i : ℕ) (start : AdjustableDate) → s.first_start ≡ Some start → FirstLaterNoResult s sets b i
      → FirstNoResult s sets b i
  first_before_start i start given h =
      let behind = subst
      (λ (o : Option AdjustableDate). Named (first_day_element_by o) (last_of b) 0 i → ⊥) (sym given)
      (start_behind (last_of b) i h.0.0) in (
        h.0.1,
        λ j. at_place (NotBefore i) j (λ _. unnamed s (last_of b) 0 i behind)
            (λ some misses. h.1 j (some, misses)),
      )

  -- the others have adjusted days
  pub first_alone : NoResult s sets b 0 → ((i : ℕ) → 0 < i → i < length b → Has i) → FirstNoResult s sets b 0
  first_alone misses later = (
    misses,
    λ j. at_place (NotBefore 0) j
        (λ _. unnamed s (last_of b) 0 0 (not_before_itself (first_day_element s) (last_of b) 0))
        (λ some out. let r = later j some out.within in absurd (out.none r.0 r.1)),
  )

  -- boundary 0 is named before the others
  pub first_effective : s.first_start ≡ None → NoResult s sets b 0 → FirstNoResult s sets b 0
  first_effective none misses = (
    misses,
    λ j _. unnamed s (last_of b) j 0 (subst
        (λ (o : Option AdjustableDate). Named (first_day_element_by o) (last_of b) j 0 → ⊥) (sym none)
        (none_before_effective (last_of b) j)),
  )

-- the first day that isn't after the one before it
pub first_flat : (a : List ℤ) (i : ℕ) → NotAfter a i → ((j : ℕ) → j < i → NotAfter a j → ⊥) → FirstNotAfter a i
first_flat a i flat before = (flat, λ j h. lt_false j i (λ below. before j below h))
