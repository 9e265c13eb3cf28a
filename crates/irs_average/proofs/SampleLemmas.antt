-- The observations of a period: there is one list of them, and their weights are the days of the period.
use Rattle.std.proofs.Common.{◌≡◌, ◌↔◌, inl, inr, ℕ, zero, suc, ◌+◌, ◌-◌, ◌*◌, ◌/◌, ◌<◌, ◌≤◌, List, [], ◌∷◌, ◌++◌}
use Rattle.std.proofs.Common.{length, length-append, get_or, All, Bool, true, false, Option, ℤ, pos, ◌+ℤ◌, ◌-ℤ◌, ◌≤ℤ◌}
use Rattle.std.proofs.Common.{◌<ℤ◌, refl, sym, subst, ap, ◌∙◌, arith}
use Rattle.std.specs.Prelude.{nat_lt, if◌then◌else◌, unsigned_abs}
use Rattle.std.proofs.lemmas.Bool.{cases_lt}
use Rattle.std.proofs.lemmas.Bool.Decides.{nat_tests}
use Rattle.std.proofs.lemmas.List.Elements.{All-push}
use Rattle.jiff_core.proofs.SignedLemmas.{signed_arith}
use Rattle.irs_base.specs.Lists.{EachNumbered}
use Rattle.irs_base.proofs.MemberLemmas.{numbered_push, numbered_there, one_numbered}
use Rattle.irs_calendar.specs.GoodDays.{DaySet}
use Rattle.irs_adjust.specs.Private.ConventionLaws.{one_prev}
use Rattle.irs_adjust.proofs.FoundDays.{decides_prev}
use Rattle.irs_overnight.specs.Private.Bounds.{IsSmall}
use Rattle.irs_overnight.specs.Observations.{RateLines, rate_by}
use Rattle.irs_overnight.specs.declared.observations.Observation.{Observation}
use Rattle.irs_average.specs.Averages.{sum_over, AreSamples, IsSample, LacksSample, step_day, step_end}
use Rattle.irs_average.specs.Private.Means.{ShareOut}
use Rattle.irs_average.proofs.StepCounts.{before_end, multiples_below, one_count}

-- ---- what is at a place

-- the element at a place of a numbered list has what its number says
pub numbered_read : {X : Type 0} (P : ℕ → X → Type 0) (n k : ℕ) (xs : List X) (d : X) → EachNumbered P n xs
    → k < length xs → P (n + k) (get_or xs k d)
numbered_read P n k [] d h low = absurd (omega (arith, low))
numbered_read P n zero (x ∷ xs) d h low = let same : n ≡ n + 0 = omega arith in subst (λ (m : ℕ). P m x) same h.0
numbered_read P n (suc k) (x ∷ xs) d h low =
    let same : n + 1 + k ≡ n + suc k = omega arith in
    subst (λ (m : ℕ). P m (get_or xs k d)) same (numbered_read P (n + 1) k xs d h.1 (omega (arith, low)))

-- of a list that is numbered from 0
read_at : {X : Type 0} (P : ℕ → X → Type 0) (k : ℕ) (xs : List X) (d : X) → EachNumbered P 0 xs → k < length xs
    → P k (get_or xs k d)
read_at P k xs d h low = let same : 0 + k ≡ k = omega arith in
    subst (λ (m : ℕ). P m (get_or xs k d)) same (numbered_read P 0 k xs d h low)

first_of : (os : List Observation) → 0 < length os → Observation
first_of [] some = absurd (omega (arith, some))
first_of (o ∷ os) some = o

-- ---- steps

-- the day of a step, or the end of the period after all of them
abbrev point : ℤ → ℤ → ℕ → ℕ → ℕ → ℤ
point s e step n k = if nat_lt k n then step_day s step k else e

lt_is : (k n : ℕ) → k < n → nat_lt k n ≡ true
lt_is k n h = grind (arith, nat_tests)

not_lt : (n : ℕ) → nat_lt n n ≡ false
not_lt n = grind (arith, nat_tests)

chosen : (b c : Bool) (x y : ℤ) → b ≡ c → (if b then x else y) ≡ (if c then x else y)
chosen b c x y e = ap (λ (t : Bool). if t then x else y) e

point_low : (s e : ℤ) (step n k : ℕ) → k < n → point s e step n k ≡ step_day s step k
point_low s e step n k h = chosen (nat_lt k n) true (step_day s step k) e (lt_is k n h)

point_end : (s e : ℤ) (step n : ℕ) → point s e step n n ≡ e
point_end s e step n = chosen (nat_lt n n) false (step_day s step n) e (not_lt n)

telescopes : (a b c w r d : ℤ) → w ≡ b -ℤ a → r ≡ c -ℤ b → d ≡ a → w +ℤ r ≡ c -ℤ d
telescopes a b c w r d p q t = omega (arith, signed_arith, p, q, t)

none_left : (e x : ℤ) → x ≡ e → pos 0 ≡ e -ℤ x
none_left e x h = omega (arith, signed_arith, h)

module _ (lines : RateLines) (set : DaySet) (s e : ℤ) (step n : ℕ) where
  -- the weights after a place are the days from there to the end
  weights_left : (m : ℕ) (os : List Observation) → EachNumbered (IsSample lines set s e step n) m os → m + length os ≡ n
      → sum_over (λ o. o.weight) os ≡ e -ℤ point s e step n m
  weights_left m [] h all =
      let same : m ≡ n = omega (arith, all) in
      none_left e (point s e step n m) (ap (point s e step n) same ∙ point_end s e step n)
  weights_left m (o ∷ os) h all =
      let rest = weights_left (m + 1) os h.1 (omega (arith, all)) in
      telescopes (step_day s step m) (point s e step n (m + 1)) e o.weight (sum_over (λ o. o.weight) os)
      (point s e step n m) h.0.weight rest (point_low s e step n m (omega (arith, all)))

  later_step : (k : ℕ) → step_day s step k ≤ℤ step_day s step (k + 1)
  later_step k =
      let more : k * step ≤ (k + 1) * step = omega arith in
      omega (arith, signed_arith, more)

  longer : (a b w : ℤ) → w ≡ b -ℤ a → a ≤ℤ b → pos 0 ≤ℤ w
  longer a b w is h = omega (arith, signed_arith, is, h)

  end_behind : (k : ℕ) → ((j : ℕ) → j < n ↔ step_day s step j <ℤ e) → k < n → step_day s step k ≤ℤ step_end s e step n k
  end_behind k many low = elim (cases_lt (k + 1) n) [
    | inl more ↦
        subst (λ (x : ℤ). step_day s step k ≤ℤ x)
        (sym (chosen (nat_lt (k + 1) n) true (step_day s step (k + 1)) e (lt_is (k + 1) n more))) (later_step k)
    | inr last ↦
        let same : k + 1 ≡ n = omega (arith, low, last) in
        let none : nat_lt (k + 1) n ≡ false = ap (λ (m : ℕ). nat_lt m n) same ∙ not_lt n in
        let before = (many k).0 low in
        subst (λ (x : ℤ). step_day s step k ≤ℤ x)
        (sym (chosen (nat_lt (k + 1) n) false (step_day s step (k + 1)) e none))
        (omega (arith, signed_arith, before))
  ]

  -- the observations of the first steps
  pub record Samples (k : ℕ) (os : List Observation) : Type 0 where
    pub many : length os ≡ k
    pub each : EachNumbered (IsSample lines set s e step n) 0 os
    pub small : All IsSmall os

  samples_more : (k : ℕ) (os : List Observation) (o : Observation) → Samples k os → IsSample lines set s e step n k o
      → IsSmall o → Samples (k + 1) (os ++ o ∷ [])
  samples_more k os o h is small = record {
    many = let many = h.many in let longer : length (os ++ o ∷ []) ≡ length os + 1 = simp length-append in
        omega (arith, many, longer);
    each = let many = h.many in numbered_push (IsSample lines set s e step n) 0 k os o h.each (omega (arith, many)) is;
    small = All-push IsSmall os o h.small small;
  }

  -- one observation more
  pub samples_pushed : (k : ℕ) (os pushed : List Observation) (o : Observation) → Samples k os
      → IsSample lines set s e step n k o → IsSmall o → pushed ≡ os ++ o ∷ [] → Samples (k + 1) pushed
  samples_pushed k os pushed o h is small e = subst (Samples (k + 1)) (sym e) (samples_more k os o h is small)

  -- the observations of all steps are those of the period
  pub samples_all : (os : List Observation) → ((j : ℕ) → j < n ↔ step_day s step j <ℤ e) → length os ≡ n
      → EachNumbered (IsSample lines set s e step n) 0 os → AreSamples lines set step s e os
  samples_all os counted many each = record {
    many = subst (λ (m : ℕ). (j : ℕ) → j < m ↔ step_day s step j <ℤ e) (sym many) counted;
    each = subst (λ (m : ℕ). EachNumbered (IsSample lines set s e step m) 0 os) (sym many) each;
  }

module _ (lines : RateLines) (set : DaySet) (step : ℕ) (s e : ℤ) where
  -- where there are observations none of them lacks a day
  pub lacks_none : (os : List Observation) → AreSamples lines set step s e os → LacksSample set step s e → ⊥
  lacks_none os are h =
      let low = (are.many h.count).1 h.before_end in
      let o = first_of os (omega (arith, low)) in
      let there = read_at (IsSample lines set s e step (length os)) h.count os o are.each low in
      h.none (get_or os h.count o).day there.previous

  -- the days of the period are shared out among them
  pub shares_out : (os : List Observation) → s <ℤ e → AreSamples lines set step s e os → ShareOut (e -ℤ s) os
  shares_out os order are =
      let n = length os in
      let first : step_day s step 0 ≡ s = omega (arith, signed_arith) in
      let some : 0 < n = (are.many 0).1 (subst (λ (x : ℤ). x <ℤ e) (sym first) order) in
      let start : point s e step n 0 ≡ s = point_low s e step n 0 some ∙ first in
      record {
        some = some;
        weights = λ k d low.
            let there = read_at (IsSample lines set s e step n) k os d are.each low in
            longer lines set s e step n (step_day s step k) (step_end s e step n k) (get_or os k d).weight there.weight
            (end_behind lines set s e step n k are.many low);
        whole = weights_left lines set s e step n 0 os are.each (omega arith) ∙ ap (λ (x : ℤ). e -ℤ x) start;
      }

  -- an observation made of its parts
  abbrev sample_by : ℤ → ℤ → Option ℤ → Observation
  sample_by d w r = record { day = d; weight = w; rate = r }

  one_sample : (n k : ℕ) (x y : Observation) → IsSample lines set s e step n k x
      → IsSample lines set s e step n k y → x ≡ y
  one_sample n k x y p q =
      let days = one_prev set (step_day s step k) x.day y.day p.previous q.previous in
      let weights = p.weight ∙ sym q.weight in
      let rates = p.rate ∙ ap (rate_by lines) days ∙ sym q.rate in
      λ i. sample_by (days i) (weights i) (rates i)

  -- there is one list
  pub one_samples : (os ps : List Observation) → AreSamples lines set step s e os → AreSamples lines set step s e ps
      → os ≡ ps
  one_samples os ps a b =
      let same : length os ≡ length ps =
      one_count (length os) (length ps) (λ k. step_day s step k <ℤ e) a.many b.many in
      one_numbered (IsSample lines set s e step (length ps))
      (λ k x y p q. one_sample (length ps) k x y p q) 0 os ps same
      (subst (λ (n : ℕ). EachNumbered (IsSample lines set s e step n) 0 os) same a.each) b.each

  -- where none lacks a day there are observations
  pub samples_there : s <ℤ e → 1 ≤ step → (LacksSample set step s e → ⊥)
      → (os : List Observation) × AreSamples lines set step s e os
  samples_there order wide kept =
      let days : ℕ = unsigned_abs (e -ℤ s) in
      let whole : s +ℤ pos days ≡ e = whole_days s e days order refl in
      let some : 1 ≤ days = some_days s e days order whole in
      let n : ℕ = (days - 1) / step + 1 in
      let counted : (k : ℕ) → k < n ↔ step_day s step k <ℤ e = λ k.
      let low = multiples_below days step k some wide in
      let end = before_end s e days (k * step) whole in
      (λ h. end.0 (low.0 h), λ h. low.1 (end.1 h)) in
      let there = numbered_there (IsSample lines set s e step n) n 0
      (λ k from to. elim (decides_prev set (step_day s step k)) [
        | inl found ↦ (
          sample_by found.0 (step_end s e step n k -ℤ step_day s step k) (rate_by lines found.0),
          record { previous = found.1; weight = refl; rate = refl },
        )
        | inr none ↦ absurd (kept (record { count = k; before_end = (counted k).0 (omega (arith, to)); none = none }))
      ]) in
      (there.0, samples_all lines set s e step n there.0 counted there.1 there.2)
    where
      whole_days : (s e : ℤ) (n : ℕ) → s <ℤ e → n ≡ unsigned_abs (e -ℤ s) → s +ℤ pos n ≡ e
      whole_days s e n order is = grind (arith, signed_arith, order, is)

      some_days : (s e : ℤ) (n : ℕ) → s <ℤ e → s +ℤ pos n ≡ e → 1 ≤ n
      some_days s e n order is = omega (arith, signed_arith, order, is)

-- ---- after the loop

module _ (lines : RateLines) (set : DaySet) (s e : ℤ) (step n : ℕ) where
  -- as many observations as steps are all of the period
  pub whole : (k : ℕ) (os : List Observation) → ((j : ℕ) → j < n ↔ step_day s step j <ℤ e) → n ≤ k → k ≤ n
      → Samples lines set s e step n k os → AreSamples lines set step s e os
  whole k os counted from to h = let many = h.many in
      samples_all lines set s e step n os counted (omega (arith, many, from, to)) h.each

-- a period with a step begins before it ends
pub in_order : (s e : ℤ) (step n : ℕ) → ((j : ℕ) → j < n ↔ step_day s step j <ℤ e) → 0 < n → s <ℤ e
in_order s e step n counted some =
    let first : step_day s step 0 ≡ s = omega (arith, signed_arith) in
    subst (λ (x : ℤ). x <ℤ e) first ((counted 0).0 some)
