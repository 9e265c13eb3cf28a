-- Business days, the next and the previous one, and business days as runs.
use Rattle.std.specs.Prelude.{◌≡◌, Bool, ℤ, ◌≤ℤ◌, ◌<ℤ◌, IsTrue, ℕ, ◌<◌, ◌&&◌, List, pos, ◌+ℤ◌, slice_get, Some, [], ◌∷◌}
use Rattle.std.specs.List.{list_any}
use Rattle.std.specs.Ordering.{int_cmp, is_le}
use Rattle.irs_base.specs.Days.{first_day, last_day}
use Rattle.irs_calendar.specs.declared.runs.Run.{Run}
use Rattle.irs_calendar.specs.declared.runs.Stored.{Stored}
use Rattle.irs_calendar.specs.declared.runs.Stored.TheVariants.{One, Many}

-- ---- business days, and the next and the previous one
-- Days are numbers counted from 1970-01-01.

-- a cover, and a test of its days; what the test says of a day outside the cover doesn't count
pub record DaySet : Type 0 where
  pub first : ℤ
  pub last : ℤ
  pub test : ℤ → Bool

-- the day lies in the cover
pub record InCover (s : DaySet) (d : ℤ) : Type 0 where
  pub from : s.first ≤ℤ d
  pub to : d ≤ℤ s.last

-- the day lies in the cover and passes the test
pub record IsGood (s : DaySet) (d : ℤ) : Type 0 where
  pub inside : InCover s d
  pub passes : IsTrue (s.test d)

-- r is the first business day at or after d, and all days from d to r lie in the cover
pub record Next (s : DaySet) (d r : ℤ) : Type 0 where
  pub starts : InCover s d
  pub after : d ≤ℤ r
  pub good : IsGood s r
  pub none_before : (x : ℤ) → d ≤ℤ x → x <ℤ r → IsGood s x → ⊥

-- r is the last business day at or before d, and all days from r to d lie in the cover
pub record Prev (s : DaySet) (d r : ℤ) : Type 0 where
  pub starts : InCover s d
  pub before : r ≤ℤ d
  pub good : IsGood s r
  pub none_after : (x : ℤ) → r <ℤ x → x ≤ℤ d → IsGood s x → ⊥

-- the whole range of dates, and every day of it a business day
pub record IsWhole (s : DaySet) : Type 0 where
  pub first : s.first ≡ first_day
  pub last : s.last ≡ last_day
  pub every : (d : ℤ) → InCover s d → IsGood s d

-- the sets have one cover, and say the same of each day of it
pub record SameDays (s t : DaySet) : Type 0 where
  pub first : s.first ≡ t.first
  pub last : s.last ≡ t.last
  pub test : (d : ℤ) → InCover s d → s.test d ≡ t.test d

-- ---- business days as runs

-- a cover, and runs of days in it
pub record CoveredRuns : Type 0 where
  pub first : ℤ
  pub last : ℤ
  pub runs : List Run

-- the runs rise from first to last, with at least one day between two of them
pub record AreRuns (c : CoveredRuns) : Type 0 where
  pub filled : (i : ℕ) (r : Run) → slice_get c.runs i ≡ Some r → r.first ≤ℤ r.last
  pub from : (i : ℕ) (r : Run) → slice_get c.runs i ≡ Some r → c.first ≤ℤ r.first
  pub to : (i : ℕ) (r : Run) → slice_get c.runs i ≡ Some r → r.last ≤ℤ c.last
  pub apart : (i j : ℕ) (r s : Run) → i < j → slice_get c.runs i ≡ Some r → slice_get c.runs j ≡ Some s
      → (r.last +ℤ pos 1) <ℤ s.first

-- the day lies in the run
abbrev pub holds_day : ℤ → Run → Bool
holds_day d r = is_le (int_cmp r.first d) && is_le (int_cmp d r.last)

-- the days of the runs are the business days
abbrev pub set_of_runs : CoveredRuns → DaySet
set_of_runs c = record { first = c.first; last = c.last; test = λ d. list_any (holds_day d) c.runs }

-- ---- how runs are kept

-- the runs that are kept
abbrev pub runs_in : Stored → List Run
runs_in (One r) = r ∷ []
runs_in (Many v) = v.items
