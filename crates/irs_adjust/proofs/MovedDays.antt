-- The day to which an offset moves a day is found, or there is none.
use Rattle.std.proofs.Common.{◌≡◌, ◌⊎◌, inl, inr, ℕ, zero, suc, ◌<◌, ◌≤◌, ℤ, pos, negsuc, ◌+ℤ◌, ◌-ℤ◌, arith, refl, sym}
use Rattle.std.proofs.Common.{subst}
use Rattle.irs_base.specs.Days.{IsDay, first_day, last_day}
use Rattle.irs_terms.specs.declared.codes.DayKind.{DayKind}
use Rattle.irs_terms.specs.declared.codes.DayKind.TheVariants.{Business, Calendar, Unsaid}
use Rattle.irs_terms.specs.declared.adjustments.Offset.{Offset}
use Rattle.irs_calendar.specs.GoodDays.{DaySet, InCover, IsGood}
use Rattle.irs_adjust.specs.declared.ways.Way.{Way}
use Rattle.irs_adjust.specs.declared.ways.Way.TheVariants.{Ahead, Back}
use Rattle.irs_adjust.specs.MovedDays.{MovesOn, MovesBusiness, MovesCalendar, MovesDays, Moves}
use Rattle.irs_adjust.specs.Private.MovedDays.{IsNextOn}
use Rattle.irs_adjust.proofs.WayLemmas.{Reached, reached_none, reached_more, moved, none_moved}
use Rattle.irs_adjust.proofs.FoundDays.{InRange, IsFound, decides_le, decides_in_cover, decides_next, decides_prev}
use Rattle.irs_base.specs.Private.Order.{IsDecided}
use Rattle.irs_base.proofs.Decided.{decides_same}

decides_next_on : (way : Way) (s : DaySet) (x : ℤ) → IsFound (IsNextOn way s x)
decides_next_on Ahead s x = decides_next s (x +ℤ pos 1)
decides_next_on Back s x = decides_prev s (x -ℤ pos 1)

next_on_good : (way : Way) (s : DaySet) (x y : ℤ) → IsNextOn way s x y → IsGood s y
next_on_good Ahead s x y next = next.good
next_on_good Back s x y prev = prev.good

-- the n-th business day on that side is reached, or there are fewer than n
abbrev Walked : Way → DaySet → ℤ → ℕ → Type 0
Walked way s d n =
    ((x : ℤ) × Reached way s d n x × (0 < n → IsGood s x))
    ⊎ ((more : ℕ) → n ≤ more → (r : ℤ) → MovesOn way s d more r → ⊥)

-- one business day more
walk_on : (way : Way) (s : DaySet) (d : ℤ) (n : ℕ) (x : ℤ) → Reached way s d n x → IsFound (IsNextOn way s x)
    → Walked way s d (suc n)
walk_on way s d n x reached (inl found) =
    inl (found.0, reached_more way s d n x found.0 reached found.1, λ some. next_on_good way s x found.0 found.1)
walk_on way s d n x reached (inr none) =
    inr (λ more beyond r m. none_moved way s d n more x (omega (arith, beyond)) reached none r m)

walk : (way : Way) (s : DaySet) (d : ℤ) (n : ℕ) → InCover s d → Walked way s d n
walk way s d zero inside = inl (d, reached_none way s d inside, λ some. absurd (omega (arith, some)))
walk way s d (suc n) inside = elim (walk way s d n inside) [
  | inl at ↦ walk_on way s d n at.0 at.1 (decides_next_on way s at.0)
  | inr none ↦ inr (λ more beyond r m. none more (omega (arith, beyond)) r m)
]

decides_moves_on : (way : Way) (s : DaySet) (d : ℤ) (n : ℕ) → 0 < n → IsFound (MovesOn way s d n)
decides_moves_on way s d n some = elim (decides_in_cover s d) [
  | inr outside ↦ inr (λ r m. outside m.starts)
  | inl inside ↦ elim (walk way s d n inside) [
    | inl at ↦ inl (at.0, moved way s d n at.0 some at.1 (at.2 some))
    | inr none ↦ inr (none n (omega arith))
  ]
]

decides_business : (n : ℤ) (s : DaySet) (d : ℤ) → (n ≡ pos 0 → ⊥) → IsFound (MovesBusiness n s d)
decides_business (pos zero) s d some = absurd (some refl)
decides_business (pos (suc n)) s d some = decides_moves_on Ahead s d (suc n) (omega arith)
decides_business (negsuc n) s d some = decides_moves_on Back s d (suc n) (omega arith)

-- whether a day is in the range of dates can be decided
pub decides_day : (d : ℤ) → IsDecided (IsDay d)
decides_day d = elim (decides_le first_day d) [
  | inr before ↦ inr (λ day. before day.0)
  | inl from ↦ elim (decides_le d last_day) [
    | inr past ↦ inr (λ day. past day.1)
    | inl to ↦ inl (from, to)
  ]
]

decides_calendar : (n d : ℤ) → IsFound (MovesCalendar n d)
decides_calendar n d = elim (decides_day (d +ℤ n)) [
  | inl range ↦ inl (d +ℤ n, record { is = refl; range = range })
  | inr outside ↦ inr (λ r m. outside (subst IsDay m.is m.range))
]

decides_days : (kind : DayKind) (n : ℤ) (s : DaySet) (d : ℤ) → (n ≡ pos 0 → ⊥) → IsFound (MovesDays kind n s d)
decides_days Business n s d some = decides_business n s d some
decides_days Calendar n s d some = decides_calendar n d
decides_days Unsaid n s d some = inr (λ r m. m)

-- a day has the day to which the offset moves it, or none
pub decides_moves : (off : Offset) (s : DaySet) (d : ℤ) → IsFound (Moves off s d)
decides_moves off s d = elim (decides_same off.days (pos 0)) [
  | inl nothing ↦ inl (d, inl (nothing, refl))
  | inr some ↦ elim (decides_days off.kind off.days s d some) [
    | inl found ↦ inl (found.0, inr (some, found.1))
    | inr none ↦ inr (λ r m. elim m [ inl stays ↦ some stays.0 | inr moves ↦ none r moves.1 ])
  ]
]

business_day : (n : ℤ) (s : DaySet) (d r : ℤ) → InRange s → MovesBusiness n s d r → IsDay r
business_day (pos n) s d r range m = range r m.good.inside
business_day (negsuc n) s d r range m = range r m.good.inside

days_day : (kind : DayKind) (n : ℤ) (s : DaySet) (d r : ℤ) → InRange s → MovesDays kind n s d r → IsDay r
days_day Business n s d r range m = business_day n s d r range m
days_day Calendar n s d r range m = m.range
days_day Unsaid n s d r range m = absurd m

-- a day to which an offset moves is a day in range
pub moves_day : (off : Offset) (s : DaySet) (d r : ℤ) → IsDay d → InRange s → Moves off s d r → IsDay r
moves_day off s d r day range (inl stays) = subst IsDay (sym stays.1) day
moves_day off s d r day range (inr moves) = days_day off.kind off.days s d r range moves.1
