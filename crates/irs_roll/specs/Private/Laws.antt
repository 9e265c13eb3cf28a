-- Private: no public contract rests on this file.
-- The laws of a grid and of roll days, with proofs: those of the traits, and those of private functions.
use Rattle.std.proofs.Common.{◌≡◌, ◌⊎◌, inl, inr, ℕ, ◌+◌, ◌<◌, arith, rules, Option, Some, None, IfSome, IfNone, IsTrue}
use Rattle.std.proofs.Common.{is_some, ◌↔◌, ◌^◌, neg_ℤ, FitsSigned, w64, ℤ, pos, ◌+ℤ◌, ◌*ℤ◌, ◌≤ℤ◌, ◌<ℤ◌, sym, ◌∙◌, ap}
use Rattle.std.proofs.Common.{subst, w32, ◌-ℤ◌, ◌*◌, ◌≤◌, mul-le-mul, ◌-◌, ◌%◌, refl}
use Rattle.jiff_core.proofs.SignedLemmas.{signed_arith, int_div_euclid-parts}
use Rattle.jiff_core.specs.Calendar.{IsBetween}
use Rattle.std.specs.Int.{int_div_euclid}
use borrow.Author.Differences.{up, down}
use Rattle.irs_base.specs.Days.{IsDay, first_month, last_month, InMonth, day_in_month, weekday_at, dim, month_start}
use Rattle.irs_base.proofs.MonthLemmas.{same_month, month_range, day_in_month-is_day, month_start-later, dim_bounds}
use Rattle.irs_base.proofs.MonthLemmas.{day_in_month-in_month}
use Rattle.irs_roll.specs.Rolls.{IsMultiple, kth, OnMonthsFrom, OnRollDay, third_wednesday, OnDays, OnMonths, IsLastDay}
use Rattle.irs_roll.specs.Rolls.{IsNumbered, IsThirdWednesday, last_day_of}
use Rattle.std.proofs.lemmas.Bool.{cases_lt}
use Rattle.jiff_core.proofs.CalendarLemmas.{weekday_number-add, weekday_number_bound}

-- ---- whole multiples of a step, and the days of a grid of days

-- of two numbers one is less, or they are equal
cases_ltz : (a b : ℤ) → (a <ℤ b) ⊎ ((b <ℤ a) ⊎ (a ≡ b))
cases_ltz a b = grind (arith, signed_arith)

-- more steps reach at least as far
pub mul_at_most : (s m n : ℕ) → m ≤ n → m * s ≤ n * s
mul_at_most s m n h = let same : s ≤ s = omega arith in mul-le-mul h same

-- multiplying by a positive step keeps a difference
mul_more : (s a b c d : ℕ) → 0 < s → a + d < c + b → a * s + d * s < c * s + b * s
mul_more s a b c d h k =
    let more : a + d + 1 ≤ c + b = omega arith in
    omega (arith, mul_at_most s (a + d + 1) (c + b) more)

-- more steps lead further
pub kth_rises : (start : ℤ) (s : ℕ) (j k : ℤ) → 0 < s → j <ℤ k → kth start s j <ℤ kth start s k
kth_rises start s j k h below =
    omega (arith, signed_arith, mul_more s (up j) (down j) (up k) (down k) h (omega (arith, signed_arith)))

-- a whole number of steps from the anchor leads to a day of its grid
pub OnDays-kth : (step : ℕ) (anchor k : ℤ) → OnDays step anchor (kth anchor step k)
OnDays-kth step anchor k = record { times = k; is = omega (arith, signed_arith) }

-- each day of the grid is a whole number of steps from the anchor
pub kth-OnDays : (step : ℕ) (anchor d : ℤ) → OnDays step anchor d → (k : ℤ) × (kth anchor step k ≡ d)
kth-OnDays step anchor d h = (h.times, omega (arith, signed_arith, h.is))

-- a number of steps that doesn't fit leads out of range
pub too_far : (s : ℕ) (a k : ℤ) → IsDay a → (FitsSigned w64 (k *ℤ pos s) → ⊥) → IsDay (kth a s k) → ⊥
too_far s a k here wide r = wide (omega (arith, signed_arith, here, r))

-- dividing by the step

-- between two neighbours among the multiples there is no other
no_multiple_between : (s : ℕ) (q t a : ℤ) → 0 < s → (q *ℤ pos s) <ℤ a → a <ℤ (q *ℤ pos s +ℤ pos s) → a ≡ t *ℤ pos s → ⊥
no_multiple_between s q t a h low high e = elim (cases_ltz t (q +ℤ pos 1)) [
  | inl below ↦
      omega (arith, signed_arith, e, mul_at_most s (up t + down q) (up q + down t) (omega (arith, signed_arith)))
  | inr rest ↦
      omega (
        arith,
        signed_arith,
        e,
        mul_at_most s (up q + down t + 1) (up t + down q)
            (elim rest [ inl above ↦ omega (arith, signed_arith) | inr same ↦ omega (arith, signed_arith, same) ]),
      )
]

-- the last multiple at or below a number is less than a step away from it
steps_close : (a q : ℤ) (s : ℕ) → 0 < s → q ≡ int_div_euclid a (pos s)
    → ((q *ℤ pos s) ≤ℤ a) × (a <ℤ (q *ℤ pos s +ℤ pos s))
steps_close a q s h e =
    let parts = int_div_euclid-parts a s h in
    (rw e (omega (arith, signed_arith, parts)), rw e (omega (arith, signed_arith, parts)))

-- the last multiple of the step at or below a number of 40 bits fits 64 bits
pub steps_fit : (a q : ℤ) (s : ℕ) → 0 < s → q ≡ int_div_euclid a (pos s)
    → IsBetween (neg_ℤ (pos 1_099_511_627_776)) (pos 1_099_511_627_776) a → s < 2 ^ 32 → FitsSigned w64 (q *ℤ pos s)
steps_fit a q s h e near small = omega (arith, signed_arith, steps_close a q s h e, near)

-- where the quotient leaves a remainder, the number is no whole multiple of the step
pub no_whole_steps : (a q : ℤ) (s : ℕ) → 0 < s → q ≡ int_div_euclid a (pos s) → (q *ℤ pos s ≡ a → ⊥)
    → IsMultiple s a → ⊥
no_whole_steps a q s h e apart multiple =
    let close = steps_close a q s h e in
    elim (cases_ltz (q *ℤ pos s) a) [
      | inl below ↦ no_multiple_between s q multiple.times a h below close.1 multiple.is
      | inr rest ↦ elim rest [ inl above ↦ omega (arith, signed_arith, close.0) | inr same ↦ apart same ]
    ]

-- whether a day has a number
pub on_by_index : (o : Option ℤ) (P : ℤ → Type 0) (Q : Type 0) → IfSome o P → IfNone o (Q → ⊥) → ((k : ℤ) → P k → Q)
    → IsTrue (is_some o) ↔ Q
on_by_index None P Q some none on = (λ t. absurd (search rules), λ q. absurd (none q))
on_by_index (Some k) P Q some none on = (λ t. on k some, λ q. search rules)

-- what follows from the absence of a value holds where there is none
pub none_then : {X : Type 0} (o : Option X) (P Q : Type 0) → IfNone o P → (P → Q) → IfNone o Q
none_then None P Q p f = f p
none_then (Some x) P Q p f = tt

-- ---- grids of months, for any one day that each month has

module _ (day : ℤ → ℤ) (stays : (m : ℤ) → InMonth (day m) m) where
  -- a later month has a later roll day
  pub roll_rises : (j k : ℤ) → j <ℤ k → day j <ℤ day k
  roll_rises j k below =
      let a = stays j in
      let b = stays k in
      omega (arith, signed_arith, a.to, b.from, month_start-later j k below)

-- the month that lies a number of steps from the start
pub kth_month : (s : ℕ) (start month k : ℤ) → month -ℤ start ≡ k *ℤ pos s → kth start s k ≡ month
kth_month s start month k apart = omega (arith, signed_arith, apart)

module _ (rolls : ℤ → ℤ → Type 0) (day : ℤ → ℤ) (is : (m : ℤ) → rolls m (day m)) (only : (m d : ℤ) → rolls m d
    → d ≡ day m) (stays : (m : ℤ) → InMonth (day m) m) where
  -- the roll day of the month after k steps is on the grid of months from the start
  pub from_kth : (step : ℕ) (start k : ℤ) → OnMonthsFrom rolls step start (day (kth start step k))
  from_kth step start k = record {
    month = kth start step k;
    of_day = stays (kth start step k);
    rolls = is (kth start step k);
    apart = record { times = k; is = omega (arith, signed_arith) };
  }

  -- the roll day of the month after k steps is on the grid from the anchor
  pub roll_is_on : (step : ℕ) (anchor start k : ℤ) → InMonth anchor start
      → OnMonths rolls step anchor (day (kth start step k))
  roll_is_on step anchor start k begins = record { start = start; of_anchor = begins; on = from_kth step start k }

  -- the anchor has one month
  pub from_start : (step : ℕ) (anchor start d : ℤ) → InMonth anchor start → OnMonths rolls step anchor d
      → OnMonthsFrom rolls step start d
  from_start step anchor start d begins h =
      let same = same_month anchor h.start start h.of_anchor begins in
      subst (λ (s : ℤ). OnMonthsFrom rolls step s d) same h.on

  -- each day on the grid of months from the start is the roll day after a number of steps
  pub kth-from : (step : ℕ) (start d : ℤ) → OnMonthsFrom rolls step start d → (k : ℤ) × (day (kth start step k) ≡ d)
  kth-from step start d h =
      (h.apart.times, ap day (kth_month step start h.month h.apart.times h.apart.is) ∙ sym (only h.month d h.rolls))

  -- each day on the grid from the anchor is the roll day after a number of steps
  pub roll_misses_none : (step : ℕ) (anchor start d : ℤ) → InMonth anchor start → OnMonths rolls step anchor d
      → (k : ℤ) × (day (kth start step k) ≡ d)
  roll_misses_none step anchor start d begins h = kth-from step start d (from_start step anchor start d begins h)

module _ (day : ℤ → ℤ) (stays : (m : ℤ) → InMonth (day m) m) where
  roll_range : (m : ℤ) → IsDay (day m) → (pos first_month ≤ℤ m) × (m ≤ℤ pos last_month)
  roll_range m r = month_range m (day m) r (stays m)

  -- steps that 64 bits don't hold lead to no day in the range of dates
  pub roll_far_steps : (s : ℕ) (a k : ℤ) → FitsSigned w32 a → (FitsSigned w64 (k *ℤ pos s) → ⊥)
      → IsDay (day (kth a s k)) → ⊥
  roll_far_steps s a k here wide r = wide (omega (arith, signed_arith, here, roll_range (kth a s k) r))

  -- a month that 64 bits don't hold has no roll day in the range of dates
  pub roll_far : (m : ℤ) → (FitsSigned w64 m → ⊥) → IsDay (day m) → ⊥
  roll_far m wide r = wide (omega (arith, signed_arith, roll_range m r))

module _ (rolls : ℤ → ℤ → Type 0) (day : ℤ → ℤ) (is : (m : ℤ) → rolls m (day m)) (only : (m d : ℤ) → rolls m d
    → d ≡ day m) (stays : (m : ℤ) → InMonth (day m) m) where
  -- a roll day in a month that is k steps away is the k-th day of the grid
  pub roll_at : (s : ℕ) (start month d k : ℤ) → month -ℤ start ≡ k *ℤ pos s → day month ≡ d → day (kth start s k) ≡ d
  roll_at s start month d k apart rolled = ap day (kth_month s start month k apart) ∙ rolled

  -- a day on the grid is the roll day of the month in which it lies
  pub rolls_on : (s : ℕ) (start d month : ℤ) → InMonth d month → OnMonthsFrom rolls s start d → day month ≡ d
  rolls_on s start d month here h = ap day (same_month d month h.month here h.of_day) ∙ sym (only h.month d h.rolls)

  -- a month whose roll day is out of range has no day on the grid
  pub roll_off_range : (s : ℕ) (start d month : ℤ) → InMonth d month → IsDay d → (IsDay (day month) → ⊥)
      → OnMonthsFrom rolls s start d → ⊥
  roll_off_range s start d month here in_range out h =
      out (subst IsDay (sym (rolls_on s start d month here h)) in_range)

  -- a month that is no whole number of steps away has no day on the grid
  pub roll_off_steps : (s : ℕ) (start d month : ℤ) → InMonth d month → (IsMultiple s (month -ℤ start) → ⊥)
      → OnMonthsFrom rolls s start d → ⊥
  roll_off_steps s start d month here out h =
      let same = same_month d month h.month here h.of_day in
      out (subst (λ (m : ℤ). IsMultiple s (m -ℤ start)) (sym same) h.apart)

-- the roll day of a month is the roll day of every month in which it lies
pub rolls_in : (rolls : ℤ → ℤ → Type 0) (d m : ℤ) → OnRollDay rolls d → InMonth d m → rolls m d
rolls_in rolls d m h here = subst (λ (k : ℤ). rolls k d) (same_month d h.month m h.of_day here) h.rolls

-- ---- each month has one last day, one day with a number and one third Wednesday

-- the last day

-- the last day of a month lies in that month
last_day-stays : (m : ℤ) → InMonth (last_day_of m) m
last_day-stays m = day_in_month-in_month 31 m (omega arith)

-- each month has a last day
pub last_day-is : (m : ℤ) → IsLastDay m (last_day_of m)
last_day-is m = record {
  in_month = last_day-stays m;
  none_after = λ after. omega (arith, signed_arith, after.to, dim_bounds m);
}

-- the day before the next month
last_day_ends : (m d : ℤ) → IsLastDay m d → d +ℤ pos 1 ≡ month_start m +ℤ pos (dim m)
last_day_ends m d h = elim (cases_ltz (d +ℤ pos 1) (month_start m +ℤ pos (dim m))) [
  | inl before ↦ absurd (h.none_after (record { from = omega (arith, signed_arith, h.in_month.from); to = before }))
  | inr rest ↦ elim rest [
    | inl past ↦ absurd (omega (arith, signed_arith, past, h.in_month.to))
    | inr e ↦ e
  ]
]

-- a month has one last day
pub last_day_only : (m d : ℤ) → IsLastDay m d → d ≡ last_day_of m
last_day_only m d h = omega (arith, signed_arith, last_day_ends m d h, dim_bounds m)

-- the last day of a month lies in it
pub last_day-in_month : (m : ℤ) → InMonth (last_day_of m) m
last_day-in_month m = last_day-stays m

-- the day with a number

-- in a month shorter than the number, the last day is the numbered day
numbered_short : (n : ℕ) (m d : ℤ) → dim m < n → IsLastDay m d → d ≡ day_in_month n m
numbered_short n m d short h = omega (arith, signed_arith, last_day_ends m d h, short)

-- in a month shorter than the number, the numbered day is the last day
short_last : (n : ℕ) (m : ℤ) → 0 < n → dim m < n → IsLastDay m (day_in_month n m)
short_last n m h short = record {
  in_month = day_in_month-in_month n m h;
  none_after = λ after. omega (arith, signed_arith, after.to, short);
}

-- each month has a day for each number from 1
pub numbered-is : (n : ℕ) (m : ℤ) → 0 < n → IsNumbered n m (day_in_month n m)
numbered-is n m h = elim (cases_lt (dim m) n) [
  | inl short ↦ inr (short, short_last n m h short)
  | inr long ↦ inl (omega (arith, long), omega (arith, signed_arith, long))
]

-- a month has one day for a number
pub numbered_only : (n : ℕ) (m d : ℤ) → IsNumbered n m d → d ≡ day_in_month n m
numbered_only n m d h = elim h [
  | inl long ↦ omega (arith, signed_arith, long.0, long.1)
  | inr short ↦ numbered_short n m d short.0 short.1
]

-- the third Wednesday

-- the third Wednesday is on the 15th or later
from_15th : (m : ℤ) → (month_start m +ℤ pos 14) ≤ℤ third_wednesday m
from_15th m = omega (arith, signed_arith, dim_bounds m)

-- the third Wednesday is on the 21st or earlier
to_21st : (m : ℤ) → third_wednesday m ≤ℤ (month_start m +ℤ pos 20)
to_21st m = omega (arith, signed_arith, dim_bounds m)

-- the third Wednesday of a month lies in it
pub third_wednesday-in_month : (m : ℤ) → InMonth (third_wednesday m) m
third_wednesday-in_month m = record {
  from = omega (arith, signed_arith, from_15th m);
  to = omega (arith, signed_arith, to_21st m, dim_bounds m);
}

-- the third Wednesday is a Wednesday
third_wednesday-weekday : (m : ℤ) → weekday_at (third_wednesday m) ≡ 2
third_wednesday-weekday m =
    let first : ℤ = day_in_month 15 m in
    let add = weekday_number-add first (third_wednesday m) ((9 - weekday_at first) % 7) refl in
    omega (arith, add, weekday_number_bound first)

-- each month has a third Wednesday
pub third_wednesday-is : (m : ℤ) → IsThirdWednesday m (third_wednesday m)
third_wednesday-is m = record {
  wednesday = third_wednesday-weekday m;
  in_month = third_wednesday-in_month m;
  two_before =
      record {
        from = omega (arith, signed_arith, from_15th m);
        to =
            omega (arith, signed_arith, to_21st m, dim_bounds m);
      };
  no_third = λ h. omega (arith, signed_arith, to_21st m, h.from);
}

-- any third Wednesday of a month is on the 21st or earlier
third_by_21st : (m d : ℤ) → IsThirdWednesday m d → d ≤ℤ (month_start m +ℤ pos 20)
third_by_21st m d h = elim (cases_ltz (month_start m +ℤ pos 20) d) [
  | inl past ↦
      absurd (h.no_third (record {
        from = omega (arith, signed_arith, past);
        to =
            omega (arith, signed_arith, h.in_month.to);
      }))
  | inr rest ↦ elim rest [ inl before ↦ omega (arith, signed_arith, before) | inr e ↦ omega (arith, signed_arith, e) ]
]

-- a month has one third Wednesday
pub third_wednesday_only : (m d : ℤ) → IsThirdWednesday m d → d ≡ third_wednesday m
third_wednesday_only m d h =
    let first : ℤ = day_in_month 15 m in
    let j : ℕ = up d + down first - (down d + up first) in
    let low : (month_start m +ℤ pos 14) ≤ℤ d = omega (arith, signed_arith, h.two_before.from) in
    let high = third_by_21st m d h in
    let place : d ≡ first +ℤ pos j = omega (arith, signed_arith, low, dim_bounds m) in
    let within : j < 7 = omega (arith, signed_arith, low, high, dim_bounds m) in
    let add = weekday_number-add first d j place in
    let same : j ≡ (9 - weekday_at first) % 7 = omega (arith, add, weekday_number_bound first, within, h.wednesday) in
    place ∙ ap (λ (i : ℕ). first +ℤ pos i) same

-- a third Wednesday in range follows a 15th in range
pub third_wednesday_range : (m : ℤ) → IsDay (third_wednesday m) → IsDay (day_in_month 15 m)
third_wednesday_range m r =
    let range = month_range m (third_wednesday m) r (third_wednesday-in_month m) in
    day_in_month-is_day 15 m (omega arith) range.0 range.1

-- ---- the laws of a grid for each of the three roll days

module _ (step : ℕ) (anchor start : ℤ) (begins : InMonth anchor start) where
  -- a step from the anchor's month leads to a day of the grid, by the number of a day
  pub number_is_on : (n : ℕ) → 0 < n → (k : ℤ) → OnMonths (IsNumbered n) step anchor (day_in_month n (kth start step k))
  number_is_on n some k =
      roll_is_on (IsNumbered n) (day_in_month n) (λ m. numbered-is n m some) (numbered_only n)
      (λ m. day_in_month-in_month n m some) step anchor start k begins

  -- each day of that grid is a number of steps from the anchor's month
  pub number_misses_none : (n : ℕ) → 0 < n → (d : ℤ) → OnMonths (IsNumbered n) step anchor d
      → (k : ℤ) × (day_in_month n (kth start step k) ≡ d)
  number_misses_none n some d h =
      roll_misses_none (IsNumbered n) (day_in_month n) (λ m. numbered-is n m some) (numbered_only n)
      (λ m. day_in_month-in_month n m some) step anchor start d begins h

  -- a step from the anchor's month leads to a day of the grid, by the last day of the month
  pub end_is_on : (k : ℤ) → OnMonths IsLastDay step anchor (last_day_of (kth start step k))
  end_is_on k = roll_is_on IsLastDay last_day_of last_day-is last_day_only last_day-in_month step anchor start k begins

  -- each day of that grid is a number of steps from the anchor's month
  pub end_misses_none : (d : ℤ) → OnMonths IsLastDay step anchor d → (k : ℤ) × (last_day_of (kth start step k) ≡ d)
  end_misses_none d h =
      roll_misses_none IsLastDay last_day_of last_day-is last_day_only last_day-in_month step anchor start d begins h

  -- a step from the anchor's month leads to a day of the grid, by the third Wednesday
  pub wednesday_is_on : (k : ℤ) → OnMonths IsThirdWednesday step anchor (third_wednesday (kth start step k))
  wednesday_is_on k =
      roll_is_on IsThirdWednesday third_wednesday third_wednesday-is third_wednesday_only third_wednesday-in_month step
      anchor start k begins

  -- each day of that grid is a number of steps from the anchor's month
  pub wednesday_misses_none : (d : ℤ) → OnMonths IsThirdWednesday step anchor d
      → (k : ℤ) × (third_wednesday (kth start step k) ≡ d)
  wednesday_misses_none d h =
      roll_misses_none IsThirdWednesday third_wednesday third_wednesday-is third_wednesday_only third_wednesday-in_month
      step anchor start d begins h

module _ (step : ℕ) (start : ℤ) (some_step : 0 < step) (j k : ℤ) (later : j <ℤ k) where
  -- a later step gives a later day, by the number of a day
  pub number_rises : (n : ℕ) → 0 < n → day_in_month n (kth start step j) <ℤ day_in_month n (kth start step k)
  number_rises n some =
      roll_rises (day_in_month n) (λ m. day_in_month-in_month n m some) (kth start step j) (kth start step k)
      (kth_rises start step j k some_step later)

  -- a later step gives a later day, by the last day of the month
  pub end_rises : last_day_of (kth start step j) <ℤ last_day_of (kth start step k)
  end_rises = roll_rises last_day_of last_day-in_month (kth start step j) (kth start step k)
      (kth_rises start step j k some_step later)

  -- a later step gives a later day, by the third Wednesday
  pub wednesday_rises : third_wednesday (kth start step j) <ℤ third_wednesday (kth start step k)
  wednesday_rises =
      roll_rises third_wednesday third_wednesday-in_month (kth start step j) (kth start step k)
      (kth_rises start step j k some_step later)
