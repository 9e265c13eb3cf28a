-- How large the rates of periods can be.
use Rattle.std.proofs.Common.{◌≡◌, ℕ, ◌+◌, ◌-◌, ◌*◌, ◌^◌, ◌≤◌, ℤ, pos, negsuc, ◌+ℤ◌, ◌*ℤ◌, ◌≤ℤ◌, neg_ℤ, unsigned_abs}
use Rattle.std.proofs.Common.{Option, Some, None, IfSome, arith, sym, ap, ◌∙◌, true, false, int_lt, if◌then◌else◌}
use Rattle.std.proofs.lemmas.Nat.{pow-add}
use Rattle.jiff_core.proofs.SignedLemmas.{signed_arith, product_within}
use Rattle.irs_base.specs.Limits.{rounded}
use Rattle.irs_base.proofs.RoundingLaws.{rounded_is, rounded_size}
use Rattle.irs_terms.specs.declared.amounts.Rounding.{Rounding}
use Rattle.irs_terms.specs.declared.amounts.FloatTerms.{FloatTerms}
use Rattle.irs_terms.specs.declared.codes.Treatment.{Treatment}
use Rattle.irs_terms.specs.declared.codes.Treatment.TheVariants.{AsIs, ZeroFloor}
use Rattle.irs_terms.specs.declared.amounts.Leg.{Leg}
use Rattle.irs_terms.specs.declared.amounts.Leg.TheVariants.{Fixed, Floating}
use Rattle.irs_terms.specs.declared.step_list.StepValues.{StepValues}
use Rattle.irs_terms.specs.Lawful.{IsLawfulValues, IsLawfulFloat, IsLawfulLeg, IsRate}
use Rattle.irs_compound.specs.PeriodRates.{value_in_force, rate_by_rounding, exact_base, treated, rates_of}
use Rattle.irs_compound.specs.PeriodRates.{fixed_rates_of, leg_rates, most_rounded_rate}
use Rattle.irs_compound.specs.Private.RateLaws.{in_force_is, in_force_within, most_exact_rate, ten_positive}
use Rattle.irs_compound.specs.Private.AmountLaws.{ten_above}

-- a value in force is one of those that there are
pub value_within : (Within : ℤ → Type 0) (values : StepValues) (d : ℤ) → IsLawfulValues Within values
    → Within (value_in_force values d)
value_within Within values d h = in_force_within Within values d (value_in_force values d) h (in_force_is values d)

-- the size of a number between two opposite ones
size_within : (z : ℤ) (n : ℕ) → neg_ℤ (pos n) ≤ℤ z → z ≤ℤ pos n → unsigned_abs z ≤ n
size_within (pos m) n h k = omega (arith, signed_arith, h, k)
size_within (negsuc m) n h k = omega (arith, signed_arith, h, k)

sum_within : (a b : ℤ) (m n : ℕ) → unsigned_abs a ≤ m → unsigned_abs b ≤ n → unsigned_abs (a +ℤ b) ≤ m + n
sum_within a b m n h k =
    size_within (a +ℤ b) (m + n) (omega (arith, signed_arith, h, k)) (omega (arith, signed_arith, h, k))

-- a rate of 110 in units of 10^-18 is one of 110 in units of 10^-9, at any number of places
rounded_rate_size : (rounding : Rounding) (exact : ℤ) → rounding.places ≤ 9 → unsigned_abs exact ≤ most_exact_rate
    → unsigned_abs (rate_by_rounding rounding exact) ≤ most_rounded_rate
rounded_rate_size rounding exact few small =
    let n = rounding.places in
    let whole = rounded rounding.dir exact (pos (10 ^ (18 - n))) in
    let e : 18 - n + (n + 1) ≡ 19 = omega (arith, few) in
    let p : 10 ^ (18 - n) * 10 ^ (n + 1) ≡ 10 ^ 19 = sym (pow-add 10 (18 - n) (n + 1)) ∙ ap (λ k. 10 ^ k) e in
    let h : unsigned_abs exact ≤ 10 ^ (18 - n) * (11 * 10 ^ (n + 1)) = omega (arith, small, p) in
    let w : unsigned_abs whole ≤ 11 * 10 ^ (n + 1) =
    rounded_size rounding.dir exact whole (10 ^ (18 - n)) (11 * 10 ^ (n + 1)) (ten_above (18 - n)) h
    (rounded_is rounding.dir exact (pos (10 ^ (18 - n))) (ten_positive (18 - n))) in
    let f : n + 1 + (9 - n) ≡ 10 = omega (arith, few) in
    let q : 10 ^ (n + 1) * 10 ^ (9 - n) ≡ 10 ^ 10 = sym (pow-add 10 (n + 1) (9 - n)) ∙ ap (λ j. 10 ^ j) f in
    let r = product_within whole (pos (10 ^ (9 - n))) (11 * 10 ^ (n + 1)) (10 ^ (9 - n)) w (omega arith) in
    omega (arith, r, q)

-- a multiplier of 10 times an observed rate of 10, plus a spread of 10
exact_size : (m o s : ℤ) → IsRate m → IsRate o → IsRate s → unsigned_abs (m *ℤ o +ℤ s *ℤ pos (10 ^ 9)) ≤ most_exact_rate
exact_size m o s h k l =
    let a = product_within m o (10 ^ 10) (10 ^ 10) h k in
    let b = product_within s (pos (10 ^ 9)) (10 ^ 10) (10 ^ 9) l (omega arith) in
    let c = sum_within (m *ℤ o) (s *ℤ pos (10 ^ 9)) (10 ^ 10 * 10 ^ 10) (10 ^ 10 * 10 ^ 9) a b in
    omega (arith, c)

-- a rate by its treatment isn't greater in size
treated_size : (treatment : Treatment) (rate : ℤ) → unsigned_abs rate ≤ most_rounded_rate
    → unsigned_abs (treated treatment rate) ≤ most_rounded_rate
treated_size AsIs rate small = small
treated_size ZeroFloor rate small =
    elim (int_lt rate (pos 0)) as (λ b. unsigned_abs (if b then pos 0 else rate) ≤ most_rounded_rate) [
      | true ↦ omega arith
      | false ↦ small
    ]

-- the rate that an observed one gives
pub floating_size : (f : FloatTerms) (start observed : ℤ) → IsLawfulFloat f → IsRate observed
    → unsigned_abs (rates_of f start observed).all_in ≤ most_rounded_rate
unfolding rates_of
floating_size f start observed h k =
    let exact = exact_base f start observed +ℤ value_in_force f.spread start *ℤ pos (10 ^ 9) in
    treated_size f.treatment (rate_by_rounding f.rounding exact) (rounded_rate_size f.rounding exact h.rounding
    (exact_size (value_in_force f.multiplier start) observed (value_in_force f.spread start)
    (value_within IsRate f.multiplier start h.multiplier) k (value_within IsRate f.spread start h.spread)))

-- the fixed rate in force
pub fixed_size : (values : StepValues) (start : ℤ) → IsLawfulValues IsRate values
    → IsRate (fixed_rates_of values start).all_in
unfolding fixed_rates_of
fixed_size values start h = value_within IsRate values start h

-- the rate of a period by its leg
pub rate_size : (leg : Leg) (start : ℤ) (observed : Option ℤ) → IsLawfulLeg leg → IfSome observed IsRate
    → IfSome (leg_rates leg start observed) (λ r. unsigned_abs r.all_in ≤ most_rounded_rate)
rate_size (Fixed values) start observed h k = let small = fixed_size values start h in omega (arith, small)
rate_size (Floating f) start None h k = tt
rate_size (Floating f) start (Some o) h k = floating_size f start o h k
