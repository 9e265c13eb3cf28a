-- Steps from the anchor on either side: how far they lead, and which day is next to a stub.
use Rattle.std.proofs.Common.{◌≡◌, inl, inr, ℕ, ◌+◌, ◌-◌, ◌<◌, ◌≤◌, arith, refl, subst, ℤ, pos, ◌+ℤ◌, ◌-ℤ◌, ◌≤ℤ◌, ◌<ℤ◌}
use Rattle.jiff_core.proofs.SignedLemmas.{signed_arith}
use Rattle.irs_base.specs.Days.{IsDay, all_days}
use Rattle.irs_periods.specs.declared.nearest.Way.{Way}
use Rattle.irs_periods.specs.declared.nearest.Way.TheVariants.{Back, Ahead}
use Rattle.irs_periods.specs.Spans.{FirstAfter, LastBefore}
use Rattle.irs_periods.specs.Private.Spans.{steps, Within, ShortEnd, LongEnd}
use Rattle.irs_periods.proofs.GridDays.{cases_ltz, grows, no_earlier}
use Rattle.irs_periods.proofs.NearestLemmas.{first_from, last_up_to, first_after, last_before}

-- the anchor is no step away
pub steps_none : (way : Way) → steps way 0 ≡ pos 0
steps_none Back = refl
steps_none Ahead = refl

module _ (f : ℤ → ℤ) (rises : (j k : ℤ) → j <ℤ k → f j <ℤ f k) where
  -- a grid day within the bound lies between the bound and the anchor
  pub within_is_day : (way : Way) (n : ℕ) (bound : ℤ) → IsDay (f (pos 0)) → IsDay bound
      → Within way bound (f (steps way n)) → IsDay (f (steps way n))
  within_is_day Back n bound zeroth b h =
      let le = no_earlier f rises (pos 0 -ℤ pos n) (pos 0) (omega (arith, signed_arith)) in
      (omega (arith, signed_arith, h, b), omega (arith, signed_arith, le, zeroth))
  within_is_day Ahead n bound zeroth b h =
      let le = no_earlier f rises (pos 0) (pos n) (omega (arith, signed_arith)) in
      (omega (arith, signed_arith, le, zeroth), omega (arith, signed_arith, h, b))

  -- as many steps as the range of dates has days lead past every bound
  pub too_many_steps : (way : Way) (n : ℕ) (bound : ℤ) → all_days ≤ n → IsDay (f (pos 0)) → IsDay bound
      → Within way bound (f (steps way n)) → ⊥
  too_many_steps Back n bound many zeroth b h =
      let e : (pos 0 -ℤ pos n) +ℤ pos n ≡ pos 0 = omega (arith, signed_arith) in
      let more = subst (λ (z : ℤ). (f (pos 0 -ℤ pos n) +ℤ pos n) ≤ℤ f z) e (grows f rises n (pos 0 -ℤ pos n)) in
      omega (arith, signed_arith, more, many, zeroth, b, h)
  too_many_steps Ahead n bound many zeroth b h =
      let e : pos 0 +ℤ pos n ≡ pos n = omega (arith, signed_arith) in
      let more = subst (λ (z : ℤ). (f (pos 0) +ℤ pos n) ≤ℤ f z) e (grows f rises n (pos 0)) in
      omega (arith, signed_arith, more, many, zeroth, b, h)

  module _ (on : ℤ → Type 0) (nth_is_on : (k : ℤ) → on (f k)) (misses_none : (d : ℤ) → on d → (k : ℤ) × (f k ≡ d)) where
    -- the farthest grid day within the bound ends the span before a short stub
    pub short_end : (way : Way) (n : ℕ) (bound : ℤ) → Within way bound (f (steps way n))
        → (Within way bound (f (steps way (n + 1))) → ⊥) → ShortEnd way on bound (f (steps way n))
    short_end Back n bound here past =
        let e : pos 0 -ℤ pos (n + 1) ≡ (pos 0 -ℤ pos n) -ℤ pos 1 = omega (arith, signed_arith) in
        let out = subst (λ (z : ℤ). bound ≤ℤ f z → ⊥) e past in
        first_from f rises on nth_is_on misses_none (pos 0 -ℤ pos n) bound here
        (below (f ((pos 0 -ℤ pos n) -ℤ pos 1)) bound out)
      where
        below : (x b : ℤ) → (b ≤ℤ x → ⊥) → x <ℤ b
        below x b h = elim (cases_ltz x b) [ inl lt ↦ lt | inr ge ↦ absurd (h ge) ]
    short_end Ahead n bound here past =
        let e : pos (n + 1) ≡ pos n +ℤ pos 1 = omega (arith, signed_arith) in
        let out = subst (λ (z : ℤ). f z ≤ℤ bound → ⊥) e past in
        last_up_to f rises on nth_is_on misses_none (pos n) bound here (above (f (pos n +ℤ pos 1)) bound out)
      where
        above : (x b : ℤ) → (x ≤ℤ b → ⊥) → b <ℤ x
        above x b h = elim (cases_ltz b x) [ inl lt ↦ lt | inr ge ↦ absurd (h ge) ]

    -- the bound is on the grid: there is no stub
    pub long_none : (way : Way) (anchor bound short : ℤ) → ShortEnd way on bound short → short ≡ bound
        → LongEnd way on anchor bound bound
    long_none Back anchor bound short is e = record { short = short; is_short = is; choice = inl (e, refl) }
    long_none Ahead anchor bound short is e = record { short = short; is_short = is; choice = inl (e, refl) }

    -- no whole period lies beside the stub: it is the whole term
    pub long_whole : (way : Way) (anchor bound : ℤ) → ShortEnd way on bound anchor → (anchor ≡ bound → ⊥)
        → LongEnd way on anchor bound anchor
    long_whole Back anchor bound is apart = record {
      short = anchor;
      is_short = is;
      choice = inr (apart, inr ((λ x next le. omega (arith, signed_arith, next.after, le)), refl));
    }
    long_whole Ahead anchor bound is apart = record {
      short = anchor;
      is_short = is;
      choice = inr (apart, inr ((λ x next le. omega (arith, signed_arith, next.before, le)), refl));
    }

    -- one step nearer to the anchor than the short stub
    pub long_nearer : (way : Way) (n : ℕ) (anchor bound : ℤ) → f (pos 0) ≡ anchor → 0 < n
        → ShortEnd way on bound (f (steps way n)) → (f (steps way n) ≡ bound → ⊥)
        → LongEnd way on anchor bound (f (steps way (n - 1)))
    long_nearer Back n anchor bound zeroth some is apart =
        let k : ℤ = pos 0 -ℤ pos n in
        let e : k +ℤ pos 1 ≡ pos 0 -ℤ pos (n - 1) = omega (arith, signed_arith, some) in
        let next = subst (λ (z : ℤ). FirstAfter on (f k) (f z)) e (first_after f rises on nth_is_on misses_none k) in
        let le = no_earlier f rises (pos 0 -ℤ pos (n - 1)) (pos 0) (omega (arith, signed_arith)) in
        record {
          short = f k;
          is_short = is;
          choice = inr (apart, inl (next, omega (arith, signed_arith, le, zeroth)));
        }
    long_nearer Ahead n anchor bound zeroth some is apart =
        let k : ℤ = pos n in
        let e : k -ℤ pos 1 ≡ pos (n - 1) = omega (arith, signed_arith, some) in
        let before = subst (λ (z : ℤ). LastBefore on (f k) (f z)) e (last_before f rises on nth_is_on misses_none k) in
        let le = no_earlier f rises (pos 0) (pos (n - 1)) (omega (arith, signed_arith)) in
        record {
          short = f k;
          is_short = is;
          choice = inr (apart, inl (before, omega (arith, signed_arith, le, zeroth)));
        }

  -- fewer steps stay within the bound
  pub within_nearer : (way : Way) (n : ℕ) (bound : ℤ) → Within way bound (f (steps way n))
      → Within way bound (f (steps way (n - 1)))
  within_nearer Back n bound h =
      let le = no_earlier f rises (pos 0 -ℤ pos n) (pos 0 -ℤ pos (n - 1)) (omega (arith, signed_arith)) in
      omega (arith, signed_arith, le, h)
  within_nearer Ahead n bound h =
      let le = no_earlier f rises (pos (n - 1)) (pos n) (omega (arith, signed_arith)) in
      omega (arith, signed_arith, le, h)
