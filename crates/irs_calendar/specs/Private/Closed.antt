-- Private: no public contract rests on this file.
-- Of private functions: days that are closed, and runs of business days.
use Rattle.std.specs.Prelude.{◌≡◌, ℕ, ◌*◌, ◌^◌, ◌<◌, ◌≤◌, ◌/◌, ◌%◌, ◌==◌, ◌||◌, Bool, true, false, List, length, ℤ, pos}
use Rattle.std.specs.Prelude.{◌+ℤ◌, slice_index_or, ◌+◌, ◌-◌, not, if◌then◌else◌, IsTrue, ◌↔◌, slice_get, Some}
use Rattle.std.specs.List.{list_any}
use Rattle.std.specs.Int.{bit_at}
use Rattle.std.specs.Ordering.{int_cmp, is_le, is_lt}
use Rattle.irs_base.specs.Days.{weekday_at}
use Rattle.irs_calendar.specs.declared.sections.Section.{Section}
use Rattle.irs_calendar.specs.Rising.{is_listed}
use Rattle.irs_calendar.specs.declared.weekends.Weekend.{Weekend}
use Rattle.irs_calendar.specs.declared.weekends.Week.{Week}
use Rattle.irs_calendar.specs.GoodDays.{InCover, IsGood, CoveredRuns, AreRuns, set_of_runs}
use Rattle.irs_calendar.specs.declared.runs.Run.{Run}
use Rattle.irs_calendar.specs.declared.search.End.{End}
use Rattle.irs_calendar.specs.declared.search.End.TheVariants.{First, Last}

-- ---- days that are closed, and the next holiday

-- the day is a holiday of one of these centres
abbrev pub any_listed : List Section → ℤ → Bool
any_listed ss d = list_any (λ s. is_listed d s.holidays) ss

-- the bit of day k is set
abbrev pub is_marked : List ℕ → ℕ → Bool
is_marked marks k = bit_at (slice_index_or marks (k / 64) 0) (k % 64) == 1

-- below a limit the closed days are marked too, besides the earlier marks; days are counted from first
abbrev pub IsClosed : ℤ → ℕ → (ℤ → Bool) → List ℕ → List ℕ → Type 0
IsClosed first limit closed old new =
    (k : ℕ) → k < limit → is_marked new k ≡ (is_marked old k || closed (first +ℤ pos k))

-- n is the first bit that is set from k on, or all 64 are passed
pub record IsNextBit (word k n : ℕ) : Type 0 where
  pub after : k ≤ n
  pub within : n ≤ 64
  pub clear : (i : ℕ) → k ≤ i → i < n → bit_at word i ≡ 0
  pub found : n < 64 → bit_at word n ≡ 1

-- h is the first place from k on where the test holds, if there is one below the limit
pub record IsNext (test : ℕ → Bool) (k h limit : ℕ) : Type 0 where
  pub after : k ≤ h
  pub within : h ≤ limit
  pub clear : (i : ℕ) → k ≤ i → i < h → test i ≡ false
  pub found : h < limit → test h ≡ true

-- n lies after k, and all bits from k up to it are set
pub record AreSet (word k n : ℕ) : Type 0 where
  pub later : k < n
  pub within : n ≤ 64
  pub set : (i : ℕ) → k ≤ i → i < n → bit_at word i ≡ 1

-- n lies after e, and not beyond a bound that e is below; below the limit the test holds from e up to n
pub record AreHeld (test : ℕ → Bool) (e n bound limit : ℕ) : Type 0 where
  pub later : e < n
  pub within : e < bound → n ≤ bound
  pub held : e < bound → (i : ℕ) → e ≤ i → i < n → i < limit → test i ≡ true

-- the first limit days are marked where they are closed
pub record AreMarks (first : ℤ) (limit : ℕ) (closed : ℤ → Bool) (marks : List ℕ) : Type 0 where
  pub room : limit ≤ 64 * length marks
  pub few : length marks < 2 ^ 20
  pub same : (k : ℕ) → k < limit → is_marked marks k ≡ closed (first +ℤ pos k)

-- ---- days of the week that are closed, and how long they stay so
-- Monday is 0 and Sunday 6.

-- the weekday is on the weekend list of some section
abbrev pub off_on : List Section → ℕ → Bool
off_on ss p = list_any (λ s. slice_index_or s.weekend p false) ss

-- the day is on the weekend list of one of these centres
abbrev pub any_off : List Section → ℤ → Bool
any_off ss d = off_on ss (weekday_at d)

-- n days from the weekday on are all closed, or are all open, and the day after them isn't; at most a week
pub record IsStretch (off : ℕ → Bool) (closed : Bool) (p n : ℕ) : Type 0 where
  pub few : n ≤ 7
  pub same : (i : ℕ) → i < n → off ((p + i) % 7) ≡ closed
  pub ends : n < 7 → off ((p + n) % 7) ≡ not closed

-- from each weekday on: how long it stays closed
abbrev pub AreShut : (ℕ → Bool) → List ℕ → Type 0
AreShut off shut = (p : ℕ) → p < 7 → IsStretch off true p (slice_index_or shut p 0)

-- how far away the next closed weekday then is, after open ones
abbrev pub AreNext : (ℕ → Bool) → List ℕ → List ℕ → Type 0
AreNext off shut next =
    (p : ℕ) → p < 7 → (slice_index_or shut p 0 ≤ slice_index_or next p 0)
    × IsStretch off false ((p + slice_index_or shut p 0) % 7) (slice_index_or next p 0 - slice_index_or shut p 0)

-- and which one that is
abbrev pub ArePlaces : List ℕ → List ℕ → Type 0
ArePlaces next places = (p : ℕ) → p < 7 → slice_index_or places p 0 ≡ (p + slice_index_or next p 0) % 7

-- how long each day of the week stays closed, by the days that are off
pub record IsWeek (off : ℕ → Bool) (week : Week) : Type 0 where
  pub shut : AreShut off week.shut
  pub next : AreNext off week.shut week.next
  pub places : ArePlaces week.next week.places

-- the first closed weekday from day k on, unless it lies beyond the limit; days are counted from first
pub record IsWeekend (ss : List Section) (first : ℤ) (limit k : ℕ) (w : Weekend) : Type 0 where
  pub in_week : w.place < 7
  pub after : k ≤ w.day
  pub clear : (i : ℕ) → k ≤ i → i < w.day → i < limit → any_off ss (first +ℤ pos i) ≡ false
  pub place : w.day ≤ limit → w.place ≡ (weekday_at first + w.day) % 7
  pub closed : w.day ≤ limit → off_on ss w.place ≡ true

-- the day after those that are closed from day e on, which is the weekend's, or a holiday and the holidays end before n
abbrev pub day_after : Week → Weekend → ℕ → ℕ → ℕ
day_after week w e n = if e == w.day then e + slice_index_or week.shut w.place 0 else n

-- the weekend after that
abbrev pub weekend_after : Week → Weekend → ℕ → Weekend
weekend_after week w e =
    if e == w.day then record {
      day = e + slice_index_or week.next w.place 0;
      place =
          slice_index_or week.places w.place 0;
    } else w

-- ---- runs that say which days pass a test

-- the business days are the days of the cover that pass the test
pub record Represents (test : ℤ → Bool) (c : CoveredRuns) : Type 0 where
  pub are : AreRuns c
  pub good : (d : ℤ) → IsGood (set_of_runs c) d ↔ (InCover (set_of_runs c) d × IsTrue (test d))

-- ---- a test that splits a list of runs in two

-- the run begins at or before the day, or ends before it
abbrev pub begins_or_ends_before : End → ℤ → Run → Bool
begins_or_ends_before First d r = is_le (int_cmp r.first d)
begins_or_ends_before Last d r = is_lt (int_cmp r.last d)

-- what passes the test comes first
abbrev pub IsDownward : (Run → Bool) → List Run → Type 0
IsDownward p runs =
    (i j : ℕ) (r s : Run) → i < j → slice_get runs i ≡ Some r → slice_get runs j ≡ Some s → p s ≡ true → p r ≡ true

-- the first n pass the test, and no other does
pub record Splits (p : Run → Bool) (runs : List Run) (n : ℕ) : Type 0 where
  pub within : n ≤ length runs
  pub below : (i : ℕ) (r : Run) → i < n → slice_get runs i ≡ Some r → p r ≡ true
  pub above : (i : ℕ) (r : Run) → n ≤ i → slice_get runs i ≡ Some r → p r ≡ false

-- ---- the invariant of the binary search

-- the place lies between low and high, and few steps were taken
pub record Halves (p : Run → Bool) (runs : List Run) (before steps low high : ℕ) : Type 0 where
  pub order : low ≤ high
  pub within : high ≤ length runs
  pub below : (i : ℕ) (r : Run) → i < low → slice_get runs i ≡ Some r → p r ≡ true
  pub above : (i : ℕ) (r : Run) → high ≤ i → slice_get runs i ≡ Some r → p r ≡ false
  pub rises : before ≤ steps
  pub cost : 2 ^ (steps - before) ≤ 2 * length runs + 1
  pub left : low < high → 2 ^ (steps - before) * (high - low) ≤ length runs
