-- An anchor that the roll fits is on its own grid, and whether the roll fits it is decided.
use Rattle.std.proofs.Common.{◌≡◌, inl, inr, ℕ, ◌*◌, Bool, true, false, Option, Some, None, IfSome, ℤ, pos, ◌-ℤ◌, refl}
use Rattle.std.proofs.Common.{arith}
use Rattle.std.proofs.lemmas.Bool.{cases_lt}
use Rattle.jiff_core.proofs.SignedLemmas.{signed_arith}
use Rattle.irs_base.specs.Days.{place_in_week, IsDay, weekday_at}
use Rattle.irs_terms.specs.Lawful.{IsLawfulFrequency, IsLawfulRoll, IsLawfulStream}
use Rattle.irs_terms.specs.declared.codes.RollCode.{RollCode}
use Rattle.irs_terms.specs.declared.codes.RollCode.TheVariants.{Eom, Dom, Imm, OnWeekday, NoRoll}
use Rattle.irs_terms.specs.declared.codes.StubKind.{StubKind}
use Rattle.irs_terms.specs.declared.codes.StubKind.TheVariants.{ShortInitial, LongInitial, ShortFinal, LongFinal}
use Rattle.irs_terms.specs.declared.frequency.Frequency.{Frequency}
use Rattle.irs_terms.specs.declared.frequency.Unit.{Unit as FrequencyUnit}
use Rattle.irs_terms.specs.declared.frequency.Unit.TheVariants.{D, W, M, Y, T}
use Rattle.irs_terms.specs.declared.stream.Stream.{Stream}
use Rattle.irs_roll.specs.Rolls.{IsMultiple, OnMonths, OnRollDay, Fits, FitsBy, FitsWeek, IsRollDay, OnGrid, OnGridBy}
use Rattle.irs_periods.specs.Spans.{period_anchor_by, anchor_of, is_term, stub_anchor}
use Rattle.irs_terms.specs.TermDates.{first_day_of, IsWholeTerm, termination_of}
use Rattle.irs_base.specs.Private.Order.{IsDecided}
use Rattle.irs_roll.proofs.GridsDecided.{decides_on_grid}
use Rattle.irs_terms.proofs.FirstDays.{first_day_is_day}

-- an anchor that the roll fits is on its own grid

no_multiple : (step : ℕ) (z : ℤ) → z ≡ pos 0 → IsMultiple step z
no_multiple step z e = record { times = pos 0; is = omega (arith, signed_arith, e) }

own_month : (is_roll : ℤ → ℤ → Type 0) (step : ℕ) (a : ℤ) → OnRollDay is_roll a → OnMonths is_roll step a a
own_month is_roll step a h = record {
  start = h.month;
  of_anchor = h.of_day;
  on = record {
    month = h.month;
    of_day = h.of_day;
    rolls = h.rolls;
    apart =
        no_multiple step (h.month -ℤ h.month) (omega (arith, signed_arith));
  };
}

own_roll_day : (is_roll : ℤ → ℤ → Type 0) (step : ℕ) (a : ℤ) → OnMonths is_roll step a a → OnRollDay is_roll a
own_roll_day is_roll step a h = record { month = h.on.month; of_day = h.on.of_day; rolls = h.on.rolls }

own_grid_by : (unit : FrequencyUnit) (count : ℕ) (roll : RollCode) (a : ℤ) → (unit ≡ T → ⊥) → FitsBy unit roll a
    → OnGridBy unit count roll a a
own_grid_by D count roll a timed fits = no_multiple count (a -ℤ a) (omega (arith, signed_arith))
own_grid_by W count roll a timed fits = no_multiple (7 * count) (a -ℤ a) (omega (arith, signed_arith))
own_grid_by M count roll a timed fits = own_month (IsRollDay roll) count a fits
own_grid_by Y count roll a timed fits = own_month (IsRollDay roll) (12 * count) a fits
own_grid_by T count roll a timed fits = absurd (timed refl)

-- an anchor that the roll fits is on its own grid
pub own_grid : (freq : Frequency) (roll : RollCode) (a : ℤ) → (IsWholeTerm freq → ⊥) → Fits roll freq a
    → OnGrid freq roll a a
own_grid freq roll a timed fits = own_grid_by freq.unit freq.count roll a timed fits

decides_number : (m n : ℕ) → IsDecided (m ≡ n)
decides_number m n = elim (cases_lt m n) [
  | inl below ↦ inr (λ e. omega (arith, below, e))
  | inr rest ↦ elim (cases_lt n m) [
    | inl above ↦ inr (λ e. omega (arith, above, e))
    | inr level ↦ inl (omega (arith, rest, level))
  ]
]

-- in weeks the weekday decides
decides_fits_week : (roll : RollCode) (a : ℤ) → IsDecided (FitsWeek roll a)
decides_fits_week Eom a = inr (λ h. h)
decides_fits_week (Dom number) a = inr (λ h. h)
decides_fits_week Imm a = inr (λ h. h)
decides_fits_week (OnWeekday name) a = decides_number (place_in_week name) (weekday_at a)
decides_fits_week NoRoll a = inl tt

-- in months and years the anchor's own place on the grid decides
decides_roll_day : (is_roll : ℤ → ℤ → Type 0) (step : ℕ) (a : ℤ) → IsDecided (OnMonths is_roll step a a)
    → IsDecided (OnRollDay is_roll a)
decides_roll_day is_roll step a (inl on) = inl (own_roll_day is_roll step a on)
decides_roll_day is_roll step a (inr off) = inr (λ h. off (own_month is_roll step a h))

decides_fits_by : (unit : FrequencyUnit) (count : ℕ) (roll : RollCode) (a : ℤ)
    → IsDecided (OnGridBy unit count roll a a) → IsDecided (FitsBy unit roll a)
decides_fits_by D count roll a on = inl tt
decides_fits_by W count roll a on = decides_fits_week roll a
decides_fits_by M count roll a on = decides_roll_day (IsRollDay roll) count a on
decides_fits_by Y count roll a on = decides_roll_day (IsRollDay roll) (12 * count) a on
decides_fits_by T count roll a on = inl tt

-- the roll fits the anchor, or it doesn't
pub decides_fits : (freq : Frequency) (roll : RollCode) (a : ℤ) → IsLawfulFrequency freq → IsLawfulRoll roll → IsDay a
    → IsDecided (Fits roll freq a)
decides_fits freq roll a lawful_freq lawful_roll day =
    decides_fits_by freq.unit freq.count roll a (decides_on_grid freq roll a a lawful_freq lawful_roll day day)

-- the frequency is the term, or it isn't
pub decides_term : (unit : FrequencyUnit) → IsDecided (unit ≡ T)
decides_term D = inr (λ e. cc)
decides_term W = inr (λ e. cc)
decides_term M = inr (λ e. cc)
decides_term Y = inr (λ e. cc)
decides_term T = inl refl

-- the anchor is a day

stub_anchor_day : (stub : Option StubKind) (e t : ℤ) → IsDay e → IsDay t → IsDay (stub_anchor stub e t)
stub_anchor_day None e t first last = first
stub_anchor_day (Some ShortInitial) e t first last = last
stub_anchor_day (Some LongInitial) e t first last = last
stub_anchor_day (Some ShortFinal) e t first last = first
stub_anchor_day (Some LongFinal) e t first last = first

anchor_by_day : (term : Bool) (f l : Option ℤ) (stub : Option StubKind) (e t : ℤ) → IfSome f IsDay → IsDay e → IsDay t
    → IsDay (period_anchor_by term f l stub e t)
anchor_by_day true f l stub e t given first last = first
anchor_by_day false None None stub e t given first last = stub_anchor_day stub e t first last
anchor_by_day false None (Some l) stub e t given first last = first
anchor_by_day false (Some f) l stub e t given first last = given

-- the anchor of a stream is a day in range
pub anchor_day : (s : Stream) → IsLawfulStream s → IsDay (anchor_of s)
anchor_day s lawful =
    anchor_by_day (is_term s.freq.unit) s.first_regular s.last_regular s.stub (first_day_of s)
    (termination_of s) lawful.first_regular (first_day_is_day s lawful) lawful.termination.0
