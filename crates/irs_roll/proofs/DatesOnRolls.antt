-- A date is the roll day of its month by its place there.
use Rattle.std.proofs.Common.{◌≡◌, inl, inr, ℕ, ◌<◌, ◌≤◌, min, arith, sym, ◌∙◌, ap, subst, ℤ, pos, ◌+ℤ◌, ◌-ℤ◌}
use Rattle.std.proofs.lemmas.Bool.{cases_lt}
use Rattle.jiff_core.proofs.SignedLemmas.{signed_arith}
use Rattle.irs_base.specs.Days.{weekday_at, InMonth, dim, month_start, day_in_month}
use Rattle.irs_base.proofs.MonthLemmas.{same_month}
use Rattle.irs_roll.specs.Rolls.{IsMultiple, MonthsTo, OnMonths, OnRollDay, IsLastDay, IsNumbered, IsThirdWednesday}
use Rattle.irs_roll.specs.Private.Laws.{last_day-is, last_day_only, numbered-is, numbered_only, rolls_in}

place_day : (n place : ℕ) (d m : ℤ) → d +ℤ pos 1 ≡ month_start m +ℤ pos place → place ≡ min n (dim m)
    → d ≡ day_in_month n m
place_day n place d m at is = omega (arith, signed_arith, at, is)

day_place : (n place : ℕ) (d m : ℤ) → d +ℤ pos 1 ≡ month_start m +ℤ pos place → d ≡ day_in_month n m
    → place ≡ min n (dim m)
day_place n place d m at is = omega (arith, signed_arith, at, is)

-- the day with a number

-- a day of that place in its month is the day with the number, or the last one of a shorter month
pub numbered_on : (n place : ℕ) (d m : ℤ) → 0 < n → InMonth d m → d +ℤ pos 1 ≡ month_start m +ℤ pos place
    → place ≡ min n (dim m) → OnRollDay (IsNumbered n) d
numbered_on n place d m h here at is = record {
  month = m;
  of_day = here;
  rolls = subst (IsNumbered n m) (sym (place_day n place d m at is)) (numbered-is n m h);
}

-- the day with a number has that place in its month, or the last one of a shorter month
pub numbered_at : (n place : ℕ) (d m : ℤ) → InMonth d m → d +ℤ pos 1 ≡ month_start m +ℤ pos place
    → OnRollDay (IsNumbered n) d → place ≡ min n (dim m)
numbered_at n place d m here at on =
    day_place n place d m at (numbered_only n m d (rolls_in (IsNumbered n) d m on here))

-- the last day

-- a day at the last place of its month is its last day
pub last_on : (place : ℕ) (d m : ℤ) → InMonth d m → d +ℤ pos 1 ≡ month_start m +ℤ pos place
    → place ≡ min 31 (dim m) → OnRollDay IsLastDay d
last_on place d m here at is = record {
  month = m;
  of_day = here;
  rolls = subst (IsLastDay m) (sym (place_day 31 place d m at is)) (last_day-is m);
}

-- the last day of a month is at its last place
pub last_at : (place : ℕ) (d m : ℤ) → InMonth d m → d +ℤ pos 1 ≡ month_start m +ℤ pos place
    → OnRollDay IsLastDay d → place ≡ min 31 (dim m)
last_at place d m here at on = day_place 31 place d m at (last_day_only m d (rolls_in IsLastDay d m on here))

-- the third Wednesday

-- a Wednesday from the 15th to the 21st is the third of its month
pub third_on : (place : ℕ) (d m : ℤ) → InMonth d m → d +ℤ pos 1 ≡ month_start m +ℤ pos place
    → ((15 ≤ place) × (place ≤ 21)) × (weekday_at d ≡ 2) → OnRollDay IsThirdWednesday d
third_on place d m here at is = record {
  month = m;
  of_day = here;
  rolls = record {
    wednesday = is.1;
    in_month = here;
    two_before = record {
      from = omega (arith, signed_arith, at, is.0);
      to = omega (arith, signed_arith, here.to);
    };
    no_third = λ h. omega (arith, signed_arith, at, is.0, h.from);
  };
}

below_22 : (place : ℕ) (d m : ℤ) → d +ℤ pos 1 ≡ month_start m +ℤ pos place → IsThirdWednesday m d → place ≤ 21
below_22 place d m at h = elim (cases_lt 21 place) [
  | inl past ↦ absurd (h.no_third (record {
    from = omega (arith, signed_arith, at, past);
    to = omega (arith, signed_arith, h.in_month.to);
  }))
  | inr up_to ↦ omega (arith, up_to)
]

-- the third Wednesday of a month lies from the 15th to the 21st
pub third_at : (place : ℕ) (d m : ℤ) → InMonth d m → d +ℤ pos 1 ≡ month_start m +ℤ pos place
    → OnRollDay IsThirdWednesday d → ((15 ≤ place) × (place ≤ 21)) × (weekday_at d ≡ 2)
third_at place d m here at on =
    let is = rolls_in IsThirdWednesday d m on here in
    ((omega (arith, signed_arith, at, is.two_before.from), below_22 place d m at is), is.wednesday)

-- the roll day of a month that lies whole steps from the anchor's

-- a roll day in a month that is a whole multiple of the step away is on the grid
pub both_on : (rolls : ℤ → ℤ → Type 0) (step : ℕ) (anchor d month apart : ℤ) → InMonth d month
    → MonthsTo anchor month apart → IsMultiple step apart → OnRollDay rolls d → OnMonths rolls step anchor d
both_on rolls step anchor d month apart here to whole on = record {
  start = to.start;
  of_anchor = to.of_anchor;
  on = record {
    month = month;
    of_day = here;
    rolls = rolls_in rolls d month on here;
    apart = subst (IsMultiple step) to.is whole;
  };
}

-- a day on the grid lies in a month that is a whole multiple of the step away
pub whole_of : (rolls : ℤ → ℤ → Type 0) (step : ℕ) (anchor d month apart : ℤ) → InMonth d month
    → MonthsTo anchor month apart → OnMonths rolls step anchor d → IsMultiple step apart
whole_of rolls step anchor d month apart here to h =
    let same = same_month d h.on.month month h.on.of_day here in
    let start = same_month anchor h.start to.start h.of_anchor to.of_anchor in
    subst (IsMultiple step) (ap (λ (m : ℤ). m -ℤ h.start) same ∙ ap (λ (s : ℤ). month -ℤ s) start ∙ sym to.is)
    h.on.apart

-- a day on the grid is the roll day of its month
pub rolls_of : (rolls : ℤ → ℤ → Type 0) (step : ℕ) (anchor d : ℤ) → OnMonths rolls step anchor d → OnRollDay rolls d
rolls_of rolls step anchor d h = record { month = h.on.month; of_day = h.on.of_day; rolls = h.on.rolls }
