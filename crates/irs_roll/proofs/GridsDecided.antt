-- Whether a day lies on a grid is decided: it does, or it doesn't.
use Rattle.std.proofs.Common.{◌≡◌, inl, inr, ℕ, ◌*◌, ◌<◌, ◌≤◌, ℤ, pos, ◌-ℤ◌, ◌*ℤ◌, arith, refl, sym, subst}
use Rattle.std.specs.Int.{int_div_euclid}
use Rattle.irs_base.specs.Days.{IsDay, InMonth, day_in_month}
use Rattle.irs_base.proofs.MonthLemmas.{has_month, same_month}
use Rattle.irs_base.specs.Private.Order.{IsDecided}
use Rattle.irs_base.proofs.Decided.{decides_same}
use Rattle.irs_terms.specs.declared.codes.RollCode.{RollCode}
use Rattle.irs_terms.specs.declared.codes.RollCode.TheVariants.{Eom, Dom, Imm, OnWeekday, NoRoll}
use Rattle.irs_terms.specs.declared.frequency.Frequency.{Frequency}
use Rattle.irs_terms.specs.declared.frequency.Unit.{Unit as FrequencyUnit}
use Rattle.irs_terms.specs.declared.frequency.Unit.TheVariants.{D, W, M, Y, T}
use Rattle.irs_terms.specs.Lawful.{IsLawfulFrequency, IsLawfulRoll}
use Rattle.irs_roll.specs.Rolls.{last_day_of, third_wednesday, IsMultiple, OnMonths, IsRollDay, OnGridBy, OnGrid}
use Rattle.irs_roll.specs.Private.Laws.{last_day-is, last_day_only, numbered-is, numbered_only, third_wednesday-is}
use Rattle.irs_roll.specs.Private.Laws.{third_wednesday_only, no_whole_steps}

-- a number is a whole multiple of the step, or its quotient leaves a rest
pub decides_multiple : (step : ℕ) (z : ℤ) → 0 < step → IsDecided (IsMultiple step z)
decides_multiple step z some =
    let q : ℤ = int_div_euclid z (pos step) in
    elim (decides_same (q *ℤ pos step) z) [
      | inl even ↦ inl (record { times = q; is = sym even })
      | inr rest ↦ inr (no_whole_steps z q step some refl rest)
    ]

-- grids of months, for any one day that each month has
module _ (rolls : ℤ → ℤ → Type 0) (day : ℤ → ℤ) (is : (m : ℤ) → rolls m (day m)) (only : (m d : ℤ) → rolls m d
    → d ≡ day m) where
  -- the day of a grid is the roll day of its month
  on_roll : (step : ℕ) (anchor d month : ℤ) → InMonth d month → OnMonths rolls step anchor d → d ≡ day month
  on_roll step anchor d month here h =
      only month d (subst (λ (m : ℤ). rolls m d) (same_month d h.on.month month h.on.of_day here) h.on.rolls)

  -- its month lies a whole multiple of the step from that of the anchor
  on_apart : (step : ℕ) (anchor d start month : ℤ) → InMonth anchor start → InMonth d month
      → OnMonths rolls step anchor d → IsMultiple step (month -ℤ start)
  on_apart step anchor d start month begins here h =
      let at_start =
      subst (λ (s : ℤ). IsMultiple step (h.on.month -ℤ s))
      (same_month anchor h.start start h.of_anchor begins) h.on.apart in
      subst (λ (m : ℤ). IsMultiple step (m -ℤ start)) (same_month d h.on.month month h.on.of_day here) at_start

  on_there : (step : ℕ) (anchor d start month : ℤ) → InMonth anchor start → InMonth d month → d ≡ day month
      → IsMultiple step (month -ℤ start) → OnMonths rolls step anchor d
  on_there step anchor d start month begins here rolled apart = record {
    start = start;
    of_anchor = begins;
    on = record {
      month = month;
      of_day = here;
      rolls = subst (λ (x : ℤ). rolls month x) (sym rolled) (is month);
      apart = apart;
    };
  }

  decides_in : (step : ℕ) (anchor d start month : ℤ) → 0 < step → InMonth anchor start → InMonth d month
      → IsDecided (OnMonths rolls step anchor d)
  decides_in step anchor d start month some begins here = elim (decides_same d (day month)) [
    | inr other ↦ inr (λ h. other (on_roll step anchor d month here h))
    | inl rolled ↦ elim (decides_multiple step (month -ℤ start) some) [
      | inl apart ↦ inl (on_there step anchor d start month begins here rolled apart)
      | inr uneven ↦ inr (λ h. uneven (on_apart step anchor d start month begins here h))
    ]
  ]

  -- whether a day is on a grid of months can be decided
  pub decides_on_months : (step : ℕ) (anchor d : ℤ) → 0 < step → IsDay anchor → IsDay d
      → IsDecided (OnMonths rolls step anchor d)
  decides_on_months step anchor d some from day =
      let start = has_month anchor from in
      let month = has_month d day in
      decides_in step anchor d start.0 month.0 some start.1 month.1

-- months by each of the roll codes; a code without a roll day of months has no day on its grid
decides_by_roll : (roll : RollCode) (step : ℕ) (anchor d : ℤ) → IsLawfulRoll roll → 0 < step → IsDay anchor → IsDay d
    → IsDecided (OnMonths (IsRollDay roll) step anchor d)
decides_by_roll Eom step anchor d lawful some from day =
    decides_on_months (IsRollDay Eom) last_day_of last_day-is last_day_only step anchor d some from day
decides_by_roll (Dom n) step anchor d lawful some from day =
    decides_on_months (IsRollDay (Dom n)) (day_in_month n) (λ m. numbered-is n m lawful.0)
    (numbered_only n) step anchor d some from day
decides_by_roll Imm step anchor d lawful some from day =
    decides_on_months (IsRollDay Imm) third_wednesday third_wednesday-is third_wednesday_only step anchor d some
    from day
decides_by_roll (OnWeekday name) step anchor d lawful some from day = inr (λ h. h.on.rolls)
decides_by_roll NoRoll step anchor d lawful some from day = inr (λ h. h.on.rolls)

decides_by_unit : (unit : FrequencyUnit) (count : ℕ) (roll : RollCode) (anchor d : ℤ) → 1 ≤ count → IsLawfulRoll roll
    → IsDay anchor → IsDay d → IsDecided (OnGridBy unit count roll anchor d)
decides_by_unit D count roll anchor d some lawful from day = decides_multiple count (d -ℤ anchor) (omega (arith, some))
decides_by_unit W count roll anchor d some lawful from day =
    decides_multiple (7 * count) (d -ℤ anchor) (omega (arith, some))
decides_by_unit M count roll anchor d some lawful from day =
    decides_by_roll roll count anchor d lawful (omega (arith, some)) from day
decides_by_unit Y count roll anchor d some lawful from day =
    decides_by_roll roll (12 * count) anchor d lawful (omega (arith, some)) from day
decides_by_unit T count roll anchor d some lawful from day = inr (λ h. h)

-- a day in range is on the grid of a lawful frequency and roll, or it isn't
pub decides_on_grid : (freq : Frequency) (roll : RollCode) (anchor d : ℤ) → IsLawfulFrequency freq → IsLawfulRoll roll
    → IsDay anchor → IsDay d → IsDecided (OnGrid freq roll anchor d)
decides_on_grid freq roll anchor d lawful_freq lawful_roll from day =
    decides_by_unit freq.unit freq.count roll anchor d lawful_freq.0 lawful_roll from day
