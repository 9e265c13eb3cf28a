-- There is one list of adjusted boundaries, or none where a boundary has no adjusted day. They rise where none isn't
-- after the one before it.
use Rattle.std.proofs.Common.{◌≡◌, inl, inr, ℕ, zero, suc, ◌-◌, ◌<◌, ◌≤◌, List, [], ◌∷◌, length, arith, refl, sym, ◌∙◌}
use Rattle.std.proofs.Common.{ap₂, subst, ℤ, pos, ◌+ℤ◌, ◌≤ℤ◌, ◌<ℤ◌}
use Rattle.jiff_core.proofs.SignedLemmas.{signed_arith}
use Rattle.irs_base.specs.Days.{last_day, all_days}
use Rattle.irs_base.specs.Lists.{AreDays, Member, AllAfter, IsRising, day_at}
use Rattle.irs_terms.specs.declared.stream.Stream.{Stream}
use Rattle.irs_terms.specs.declared.results.Span.{Span}
use Rattle.irs_adjust.proofs.CodeLaws.{one_adjusts}
use Rattle.irs_terms.specs.TermDates.{first_day_of, termination_of}
use Rattle.irs_periods.specs.Boundaries.{Boundaries, BoundaryDays, AdjustedList, AdjustsAt, NotAfter, code_at}
use Rattle.irs_periods.specs.Boundaries.{boundary_days_at, last_of}
use Rattle.irs_periods.proofs.GridDays.{cases_ltz}

same_days : (xs ys : List ℤ) → length xs ≡ length ys → ((i : ℕ) → i < length xs → day_at xs i ≡ day_at ys i) → xs ≡ ys
same_days [] [] e h = refl
same_days [] (y ∷ ys) e h = absurd (omega (arith, e))
same_days (x ∷ xs) [] e h = absurd (omega (arith, e))
same_days (x ∷ xs) (y ∷ ys) e h =
    ap₂ ◌∷◌ (h zero (omega arith)) (same_days xs ys (omega (arith, e)) (λ i l. h (suc i) (omega (arith, l))))

-- boundaries have at most one list of adjusted days
pub one_adjusted : (s : Stream) (sets : BoundaryDays) (b x y : List ℤ) → AdjustedList s sets b x
    → AdjustedList s sets b y → x ≡ y
one_adjusted s sets b x y p q =
    same_days x y (p.same_length ∙ sym q.same_length) (λ i l.
    let within : i < length b = omega (arith, l, p.same_length) in
    one_adjusts (code_at s (last_of b) i) (boundary_days_at sets (last_of b) i) (day_at b i) (day_at x i) (day_at y i)
    (p.each i within) (q.each i within))

-- a list of days, one for each place
record Chosen (R : ℕ → ℤ → Type 0) (n : ℕ) : Type 0 where
  list : List ℤ
  same_length : length list ≡ n
  each : (i : ℕ) → i < n → R i (day_at list i)

choose : (R : ℕ → ℤ → Type 0) (n : ℕ) → ((i : ℕ) → i < n → (r : ℤ) × R i r) → Chosen R n
choose R zero h = record { list = []; same_length = refl; each = λ i l. absurd (omega (arith, l)) }
choose R (suc n) h =
    let first = h zero (omega arith) in
    let rest = choose (λ i r. R (suc i) r) n (λ i l. h (suc i) (omega (arith, l))) in
    record {
      list = first.0 ∷ rest.list;
      same_length = omega (arith, rest.same_length);
      each = each_of R n first.0 rest.list first.1 rest.each;
    }
  where
    each_of : (R : ℕ → ℤ → Type 0) (n : ℕ) (x : ℤ) (xs : List ℤ) → R zero x
        → ((i : ℕ) → i < n → R (suc i) (day_at xs i)) → (i : ℕ) → i < suc n → R i (day_at (x ∷ xs) i)
    each_of R n x xs here later zero l = here
    each_of R n x xs here later (suc i) l = later i (omega (arith, l))

-- where each boundary has an adjusted day there is the list of them
pub adjusted_exists : (s : Stream) (sets : BoundaryDays) (b : List ℤ)
    → ((i : ℕ) → i < length b → (r : ℤ) × AdjustsAt s sets (last_of b) i (day_at b i) r)
    → (a : List ℤ) × AdjustedList s sets b a
adjusted_exists s sets b h =
    let chosen = choose (λ i r. AdjustsAt s sets (last_of b) i (day_at b i) r) (length b) h in
    (chosen.list, record { same_length = chosen.same_length; each = chosen.each })

two_members : (x y : ℤ) (b : List ℤ) → x <ℤ y → Member x b → Member y b → 2 ≤ length b
two_members x y [] h mx my = absurd mx
two_members x y (z ∷ []) h (inl a) (inl b) = absurd (omega (arith, signed_arith, h, a, b))
two_members x y (z ∷ []) h (inl a) (inr none) = absurd none
two_members x y (z ∷ []) h (inr none) my = absurd none
two_members x y (z ∷ w ∷ ws) h mx my = omega arith

-- the term has two ends at least
pub two_boundaries : (s : Stream) (span : Span) (b : List ℤ) → first_day_of s <ℤ termination_of s → Boundaries s span b
    → 2 ≤ length b
two_boundaries s span b ends l =
    two_members (first_day_of s) (termination_of s) b ends (l.complete (first_day_of s) (inl refl))
    (l.complete (termination_of s) (inr (inl refl)))

room : (x : ℤ) (xs : List ℤ) → IsRising (x ∷ xs) → AreDays (x ∷ xs) → (x +ℤ pos (length xs)) ≤ℤ last_day
room x [] rising days = omega (arith, signed_arith, days.0)
room x (y ∷ ys) rising days =
    let more = room y ys rising.1 days.1 in
    omega (arith, signed_arith, more, rising.0.0)

-- there are no more of them than the range of dates has days
pub few_days : (xs : List ℤ) → IsRising xs → AreDays xs → length xs ≤ all_days
few_days [] rising days = omega arith
few_days (x ∷ xs) rising days = omega (arith, signed_arith, room x xs rising days, days.0)

after_trans : (x y : ℤ) (ys : List ℤ) → x <ℤ y → AllAfter y ys → AllAfter x ys
after_trans x y [] h after = tt
after_trans x y (z ∷ zs) h after = (omega (arith, signed_arith, h, after.0), after_trans x y zs h after.1)

later_place : (x : ℤ) (xs : List ℤ) (i : ℕ) → NotAfter xs i → NotAfter (x ∷ xs) (suc i)
later_place x xs zero h = absurd (omega (arith, h.some))
later_place x xs (suc i) h =
    let e : suc (suc i) - 1 ≡ suc i = omega arith in
    let k : suc i - 1 ≡ i = omega arith in
    record {
      some = omega arith;
      within = omega (arith, h.within);
      flat = rw e (subst (λ (n : ℕ). day_at xs (suc i) ≤ℤ day_at xs n) k h.flat);
    }

-- days of which none isn't after the one before it rise
pub rising_of : (xs : List ℤ) → ((i : ℕ) → NotAfter xs i → ⊥) → IsRising xs
rising_of [] h = tt
rising_of (x ∷ []) h = (tt, tt)
rising_of (x ∷ y ∷ ys) h =
    let rest = rising_of (y ∷ ys) (λ i flat. h (suc i) (later_place x (y ∷ ys) i flat)) in
    let first : x <ℤ y = before x y ys h in
    ((first, after_trans x y ys first rest.0), rest)
  where
    before : (x y : ℤ) (ys : List ℤ) → ((i : ℕ) → NotAfter (x ∷ y ∷ ys) i → ⊥) → x <ℤ y
    before x y ys h = elim (cases_ltz x y) [
      | inl lt ↦ lt
      | inr ge ↦ absurd (h 1 (record { some = omega arith; within = omega arith; flat = ge }))
    ]
