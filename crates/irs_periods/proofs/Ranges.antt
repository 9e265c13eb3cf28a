-- The days of a range that pass a test which can be decided at each of them. They have a list, a first and a last.
use Rattle.std.proofs.Common.{◌≡◌, ◌⊎◌, inl, inr, ⊎_elim, ℕ, zero, suc, List, [], ◌∷◌, ◌++◌, ℤ, pos, negsuc, ◌+ℤ◌, ◌-ℤ◌}
use Rattle.std.proofs.Common.{◌≤ℤ◌, ◌<ℤ◌, refl, sym, subst, arith}
use Rattle.jiff_core.proofs.SignedLemmas.{signed_arith}
use Rattle.irs_base.specs.Lists.{Member, Lists}
use Rattle.irs_base.proofs.Rising.{member_old, member_new, member_cases, rising_push}
use Rattle.irs_periods.specs.Spans.{FirstFrom, FirstAfter, LastUpTo, LastBefore}
use Rattle.irs_periods.proofs.GridDays.{cases_ltz}
use Rattle.irs_periods.proofs.Assembled.{lists_same}
use Rattle.irs_base.specs.Private.Order.{IsDecided}

-- how many days a day lies after another
pub days_apart : (lo hi : ℤ) → lo ≤ℤ hi → (n : ℕ) × (hi ≡ lo +ℤ pos n)
days_apart lo hi le = by_difference (hi -ℤ lo) refl
  where
    by_difference : (z : ℤ) → hi -ℤ lo ≡ z → (n : ℕ) × (hi ≡ lo +ℤ pos n)
    by_difference (pos n) e = (n, omega (arith, signed_arith, e))
    by_difference (negsuc n) e = absurd (omega (arith, signed_arith, e, le))

module _ (P : ℤ → Type 0) (lo : ℤ) where
  -- the day is one of the n days from lo, and passes
  abbrev Within : ℕ → ℤ → Type 0
  Within n d = (lo ≤ℤ d) × (d <ℤ (lo +ℤ pos n)) × P d

  wider : (n : ℕ) (d : ℤ) → Within n d → Within (suc n) d
  wider n d w = (w.0, omega (arith, signed_arith, w.1), w.2)

  day_cases : (n : ℕ) (d : ℤ) → Within (suc n) d → Within n d ⊎ (d ≡ lo +ℤ pos n)
  day_cases n d w = elim (cases_ltz d (lo +ℤ pos n)) [
    | inl less ↦ inl (w.0, less, w.2)
    | inr more ↦ inr (omega (arith, signed_arith, more, w.1))
  ]

  push_day : (n : ℕ) (b : List ℤ) → P (lo +ℤ pos n) → Lists (Within n) b
      → Lists (Within (suc n)) (b ++ (lo +ℤ pos n) ∷ [])
  push_day n b on l =
      let day : ℤ = lo +ℤ pos n in
      let at_day : Within (suc n) day = (omega (arith, signed_arith), omega (arith, signed_arith), on) in
      record {
        rising = rising_push day b l.rising (λ d m. (l.sound d m).1);
        sound = λ d m. ⊎_elim (λ old. wider n d (l.sound d old)) (λ new. subst (Within (suc n)) (sym new) at_day)
            (member_cases d day b m);
        complete = λ d w. ⊎_elim (λ below. member_old d day b (l.complete d below))
            (λ same. subst (λ (z : ℤ). Member z (b ++ day ∷ [])) (sym same) (member_new day b)) (day_cases n d w);
      }

  pass_day : (n : ℕ) (b : List ℤ) → (P (lo +ℤ pos n) → ⊥) → Lists (Within n) b → Lists (Within (suc n)) b
  pass_day n b off l = record {
    rising = l.rising;
    sound = λ d m. wider n d (l.sound d m);
    complete = λ d w. ⊎_elim (λ below. l.complete d below) (λ same. absurd (off (subst P same w.2))) (day_cases n d w);
  }

  listed_days : (n : ℕ) → ((d : ℤ) → lo ≤ℤ d → d <ℤ (lo +ℤ pos n) → IsDecided (P d)) → (b : List ℤ) × Lists (Within n) b
  listed_days zero decides = (
    [],
    record {
      rising = tt;
      sound = λ d m. absurd m;
      complete =
          λ d w. absurd (omega (arith, signed_arith, w.0, w.1));
    },
  )
  listed_days (suc n) decides =
      let before : (b : List ℤ) × Lists (Within n) b =
      listed_days n (λ d low high. decides d low (omega (arith, signed_arith, high))) in
      elim (decides (lo +ℤ pos n) (omega (arith, signed_arith)) (omega (arith, signed_arith))) [
        | inl on ↦ (before.0 ++ (lo +ℤ pos n) ∷ [], push_day n before.0 on before.1)
        | inr off ↦ (before.0, pass_day n before.0 off before.1)
      ]

  first_days : (n : ℕ) → ((d : ℤ) → lo ≤ℤ d → d <ℤ (lo +ℤ pos n) → IsDecided (P d))
      → ((r : ℤ) × FirstFrom P lo r × (r <ℤ (lo +ℤ pos n))) ⊎ ((x : ℤ) → P x → lo ≤ℤ x → x <ℤ (lo +ℤ pos n) → ⊥)
  first_days zero decides = inr (λ x on low high. omega (arith, signed_arith, low, high))
  first_days (suc n) decides =
      let day : ℤ = lo +ℤ pos n in
      elim (first_days n (λ d low high. decides d low (omega (arith, signed_arith, high)))) [
        | inl found ↦ inl (found.0, found.1, omega (arith, signed_arith, found.2))
        | inr none ↦ elim (decides (lo +ℤ pos n) (omega (arith, signed_arith)) (omega (arith, signed_arith))) [
          | inl on ↦ inl (
            lo +ℤ pos n,
            record {
              is_on = on;
              after = omega (arith, signed_arith);
              least = λ x on_x low. elim (cases_ltz x (lo +ℤ pos n)) [
                | inl less ↦
                    absurd (none x on_x low less)
                | inr more ↦ more
              ];
            },
            omega (arith, signed_arith),
          )
          | inr off ↦ inr (λ x on_x low high. ⊎_elim (λ below. none x on_x low below.1)
              (λ same. off (subst P same on_x)) (day_cases n x (low, high, on_x)))
        ]
      ]

module _ (P : ℤ → Type 0) (hi : ℤ) where
  last_days : (n : ℕ) → ((d : ℤ) → (hi -ℤ pos n) <ℤ d → d ≤ℤ hi → IsDecided (P d))
      → ((r : ℤ) × LastUpTo P hi r × ((hi -ℤ pos n) <ℤ r)) ⊎ ((x : ℤ) → P x → x ≤ℤ hi → (hi -ℤ pos n) <ℤ x → ⊥)
  last_days zero decides = inr (λ x on high low. omega (arith, signed_arith, low, high))
  last_days (suc n) decides = elim (last_days n (λ d low high. decides d (omega (arith, signed_arith, low)) high)) [
    | inl found ↦ inl (found.0, found.1, omega (arith, signed_arith, found.2))
    | inr none ↦ elim (decides (hi -ℤ pos n) (omega (arith, signed_arith)) (omega (arith, signed_arith))) [
      | inl on ↦ inl (
        hi -ℤ pos n,
        record {
          is_on = on;
          before = omega (arith, signed_arith);
          greatest = λ x on_x high. elim (cases_ltz (hi -ℤ pos n) x) [
            | inl more ↦
                absurd (none x on_x high more)
            | inr less ↦ less
          ];
        },
        omega (arith, signed_arith),
      )
      | inr off ↦ inr (λ x on_x high low. elim (cases_ltz (hi -ℤ pos n) x) [
        | inl more ↦ none x on_x high more
        | inr less ↦ let same : x ≡ hi -ℤ pos n = omega (arith, signed_arith, low, less) in off (subst P same on_x)
      ])
    ]
  ]

module _ (P : ℤ → Type 0) (lo hi : ℤ) (decides : (d : ℤ) → lo ≤ℤ d → d ≤ℤ hi → IsDecided (P d)) where
  -- the list of the days from lo to hi that pass
  pub listed_between : (b : List ℤ) × Lists (λ d. (lo ≤ℤ d) × (d ≤ℤ hi) × P d) b
  listed_between = elim (cases_ltz hi lo) [
    | inl empty ↦ (
      [],
      record {
        rising = tt;
        sound = λ d m. absurd m;
        complete =
            λ d w. absurd (omega (arith, signed_arith, w.0, w.1, empty));
      },
    )
    | inr some ↦
        let n = days_apart lo hi some in
        let found = listed_days P lo (suc n.0)
        (λ d low high. decides d low (omega (arith, signed_arith, high, n.1))) in (
          found.0,
          lists_same (Within P lo (suc n.0)) (λ d. (lo ≤ℤ d) × (d ≤ℤ hi) × P d) found.0
              (λ d w. (w.0, omega (arith, signed_arith, w.1, n.1), w.2))
              (λ d w. (w.0, omega (arith, signed_arith, w.1, n.1), w.2)) found.1,
        )
  ]

  -- the first day from lo on that passes is one up to hi, or no day from lo to hi passes
  pub first_between : ((r : ℤ) × FirstFrom P lo r × (r ≤ℤ hi)) ⊎ ((x : ℤ) → P x → lo ≤ℤ x → x ≤ℤ hi → ⊥)
  first_between = elim (cases_ltz hi lo) [
    | inl empty ↦ inr (λ x on low high. omega (arith, signed_arith, low, high, empty))
    | inr some ↦
        let n = days_apart lo hi some in
        elim (first_days P lo (suc n.0) (λ d low high. decides d low (omega (arith, signed_arith, high, n.1)))) [
          | inl found ↦ inl (found.0, found.1, omega (arith, signed_arith, found.2, n.1))
          | inr none ↦ inr (λ x on low high. none x on low (omega (arith, signed_arith, high, n.1)))
        ]
  ]

  -- the last day up to hi that passes is one from lo on, or no day from lo to hi passes
  pub last_between : ((r : ℤ) × LastUpTo P hi r × (lo ≤ℤ r)) ⊎ ((x : ℤ) → P x → x ≤ℤ hi → lo ≤ℤ x → ⊥)
  last_between = elim (cases_ltz hi lo) [
    | inl empty ↦ inr (λ x on high low. omega (arith, signed_arith, low, high, empty))
    | inr some ↦
        let n = days_apart lo hi some in
        elim (last_days P hi (suc n.0) (λ d low high. decides d (omega (arith, signed_arith, low, n.1)) high)) [
          | inl found ↦ inl (found.0, found.1, omega (arith, signed_arith, found.2, n.1))
          | inr none ↦ inr (λ x on high low. none x on high (omega (arith, signed_arith, low, n.1)))
        ]
  ]

-- the same for the first day after d that passes
pub after_between : (P : ℤ → Type 0) (d hi : ℤ) → ((x : ℤ) → d <ℤ x → x ≤ℤ hi → IsDecided (P x))
    → ((r : ℤ) × FirstAfter P d r × (r ≤ℤ hi)) ⊎ ((x : ℤ) → P x → d <ℤ x → x ≤ℤ hi → ⊥)
after_between P d hi decides =
    elim (first_between P (d +ℤ pos 1) hi (λ x low high. decides x (omega (arith, signed_arith, low)) high)) [
      | inl found ↦ inl (
        found.0,
        record {
          is_on = found.1.is_on;
          after = omega (arith, signed_arith, found.1.after);
          least = λ x on later. found.1.least x on (omega (arith, signed_arith, later));
        },
        found.2,
      )
      | inr none ↦ inr (λ x on later high. none x on (omega (arith, signed_arith, later)) high)
    ]

-- and for the last day before d
pub before_between : (P : ℤ → Type 0) (lo d : ℤ) → ((x : ℤ) → lo ≤ℤ x → x <ℤ d → IsDecided (P x))
    → ((r : ℤ) × LastBefore P d r × (lo ≤ℤ r)) ⊎ ((x : ℤ) → P x → x <ℤ d → lo ≤ℤ x → ⊥)
before_between P lo d decides =
    elim (last_between P lo (d -ℤ pos 1) (λ x low high. decides x low (omega (arith, signed_arith, high)))) [
      | inl found ↦ inl (
        found.0,
        record {
          is_on = found.1.is_on;
          before = omega (arith, signed_arith, found.1.before);
          greatest = λ x on earlier. found.1.greatest x on (omega (arith, signed_arith, earlier));
        },
        found.2,
      )
      | inr none ↦ inr (λ x on earlier low. none x on (omega (arith, signed_arith, earlier)) low)
    ]
