-- What has run of a calculation period before each of its days has an observation period, where the whole has one.
use Rattle.std.proofs.Common.{◌≡◌, inl, inr, ℕ, zero, suc, ◌+◌, ◌<◌, ◌≤◌, Bool, true, false, ℤ, pos, ◌+ℤ◌, ◌-ℤ◌, ◌<ℤ◌}
use Rattle.std.proofs.Common.{refl, sym, ap, arith}
use Rattle.std.specs.Prelude.{if◌then◌else◌}
use Rattle.std.proofs.lemmas.Bool.{cases_lt}
use Rattle.jiff_core.proofs.SignedLemmas.{signed_arith}
use Rattle.irs_calendar.specs.GoodDays.{DaySet}
use Rattle.irs_adjust.specs.MovedDays.{MovesOn, good_days}
use Rattle.irs_adjust.specs.declared.ways.Way.TheVariants.{Back}
use Rattle.irs_observed.specs.Observations.{IsObservationPeriod, MovesBack, ObservedPeriod, Shifts, observed_period}
use Rattle.irs_terms.specs.declared.parameters.ObservationOffset.{ObservationOffset}
use Rattle.irs_terms.specs.declared.parameters.ObservationOffset.TheVariants.{Absent, Shift, Lookback, Lockout}
use Rattle.irs_observed.proofs.MemberLemmas.{distance}

module _ (set : DaySet) where
  -- 1 where the day passes the test
  abbrev counts : ℤ → ℕ
  counts x = if set.test x then 1 else 0

  -- before a later day there are no fewer business days
  more_days : (s d : ℤ) (k m n : ℕ) → s +ℤ pos k ≡ d → n ≡ k + m → good_days Back set s m ≤ good_days Back set d n
  more_days s d k zero n is many = omega arith
  more_days s d k (suc m) zero is many = absurd (omega (arith, many))
  more_days s d k (suc m) (suc n) is many =
      let rest = more_days s d k m n is (omega (arith, many)) in
      let day : s -ℤ pos (suc m) ≡ d -ℤ pos (suc n) = omega (arith, signed_arith, is, many) in
      let one : counts (s -ℤ pos (suc m)) ≡ counts (d -ℤ pos (suc n)) = ap counts day in
      omega (arith, rest, one)

  -- the n-th business day before d is among the m days before d
  record IsNth (d : ℤ) (n m j : ℕ) : Type 0 where
    low : j < m
    count : good_days Back set d (suc j) ≡ n
    passes : set.test (d -ℤ pos (suc j)) ≡ true

  nth_by : (d : ℤ) (n m : ℕ) (t : Bool) → set.test (d -ℤ pos (suc m)) ≡ t → good_days Back set d m < n
      → n ≤ good_days Back set d m + (if t then 1 else 0) → IsNth d n (suc m) m
  nth_by d n m true test less enough =
      let one : counts (d -ℤ pos (suc m)) ≡ 1 = ap (λ (b : Bool). if b then 1 else 0) test in
      record { low = omega arith; count = omega (arith, less, enough, one); passes = test }
  nth_by d n m false test less enough = absurd (omega (arith, less, enough))

  nth_there : (d : ℤ) (n m : ℕ) → 0 < n → n ≤ good_days Back set d m → (j : ℕ) × IsNth d n m j
  nth_there d n zero some enough = absurd (omega (arith, some, enough))
  nth_there d n (suc m) some enough = elim (cases_lt (good_days Back set d m) n) [
    | inl less ↦ (m, nth_by d n m (set.test (d -ℤ pos (suc m))) refl less enough)
    | inr more ↦
        let r = nth_there d n m some (omega (arith, more)) in
        let low = r.1.low in
        (r.0, record { low = omega (arith, low); count = r.1.count; passes = r.1.passes })
  ]

  moved_on : (n : ℕ) (s d e a b : ℤ) → 0 < n → s <ℤ d → d <ℤ e → MovesOn Back set s n a → MovesOn Back set e n b
      → (r : ℤ) × MovesOn Back set d n r
  moved_on n s d e a b some low high h k =
      let steps = distance s d (omega (arith, signed_arith, low)) in
      let is = steps.1 in
      let at = h.is in
      let count = h.count in
      let more = more_days s d steps.0 (suc h.span) (steps.0 + suc h.span) (sym is) refl in
      let nth = nth_there d n (steps.0 + suc h.span) some (omega (arith, count, more)) in
      let within = nth.1.low in
      let first = h.good.inside.from in
      let last = k.starts.to in (
        d -ℤ pos (suc nth.0),
        record {
          starts = record {
            from = omega (arith, signed_arith, first, at, low);
            to = omega (arith, signed_arith, high, last);
          };
          good = record {
            inside = record {
              from = omega (arith, signed_arith, first, at, is, within);
              to = omega (arith, signed_arith, high, last);
            };
            passes = nth.1.passes;
          };
          span = nth.0;
          is = refl;
          count = nth.1.count;
        },
      )

  moved_back_between : (n : ℕ) (s d e a b : ℤ) → s <ℤ d → d <ℤ e → MovesBack n set s a → MovesBack n set e b
      → (r : ℤ) × MovesBack n set d r
  moved_back_between zero s d e a b low high h k = (d, inl (refl, refl))
  moved_back_between (suc n) s d e a b low high (inl h) k = absurd (let e = h.0 in cc)
  moved_back_between (suc n) s d e a b low high (inr h) (inl k) = absurd (let e = k.0 in cc)
  moved_back_between (suc n) s d e a b low high (inr h) (inr k) =
      let r = moved_on (suc n) s d e a b (omega arith) low high h.1 k.1 in (r.0, inr (h.0, r.1))

  shifted_between : (offset : ObservationOffset) (s d e a b : ℤ) → s <ℤ d → d <ℤ e → Shifts offset set s a
      → Shifts offset set e b → (r : ℤ) × Shifts offset set d r
  shifted_between Absent s d e a b low high h k = (d, refl)
  shifted_between (Shift n) s d e a b low high h k = moved_back_between n s d e a b low high h k
  shifted_between (Lookback n) s d e a b low high h k = (d, refl)
  shifted_between (Lockout n) s d e a b low high h k = (d, refl)

-- up to each of its days a calculation period has an observation period, where the whole has one
pub period_between : (p : ObservedPeriod) (d a b : ℤ) → p.start <ℤ d → d <ℤ p.end → IsObservationPeriod p a b
    → (to : ℤ) × IsObservationPeriod (observed_period p.offset p.days p.start d) a to
period_between p d a b low high h =
    let r = shifted_between p.days p.offset p.start d p.end a b low high h.from h.to in
    (r.0, record { from = h.from; to = r.1 })
