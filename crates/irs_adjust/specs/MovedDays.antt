-- Business day conventions, offsets, and a day that an offset moves and a convention adjusts.
use Rattle.std.specs.Prelude.{◌≡◌, ◌⊎◌, ℤ, ℕ, zero, suc, ◌+◌, pos, ◌+ℤ◌, ◌-ℤ◌, if◌then◌else◌, negsuc}
use Rattle.irs_base.specs.Days.{weekday_at, InMonth, IsDay}
use Rattle.irs_terms.specs.declared.codes.ConvCode.{ConvCode}
use Rattle.irs_terms.specs.declared.codes.ConvCode.TheVariants.{Following, ModFollowing, Preceding, ModPreceding}
use Rattle.irs_terms.specs.declared.codes.ConvCode.TheVariants.{Nearest, Unadjusted}
use Rattle.irs_terms.specs.declared.codes.DayKind.{DayKind}
use Rattle.irs_terms.specs.declared.codes.DayKind.TheVariants.{Business, Calendar, Unsaid}
use Rattle.irs_terms.specs.declared.adjustments.Offset.{Offset}
use Rattle.irs_calendar.specs.GoodDays.{DaySet, InCover, IsGood, Next, Prev}
use Rattle.irs_adjust.specs.declared.ways.Way.{Way}
use Rattle.irs_adjust.specs.declared.ways.Way.TheVariants.{Ahead, Back}

-- ---- what each business day convention gives for a day

-- both days lie in one calendar month
pub record SameMonth (a b : ℤ) : Type 0 where
  pub month : ℤ
  pub of_first : InMonth a month
  pub of_second : InMonth b month

-- MODFOLLOWING: the following day where it lies in the month of d, else the preceding one
pub record ModFollows (s : DaySet) (d r : ℤ) : Type 0 where
  pub following : ℤ
  pub next : Next s d following
  pub choice : (SameMonth d following × (r ≡ following)) ⊎ ((SameMonth d following → ⊥) × Prev s d r)

-- MODPRECEDING: the preceding day where it lies in the month of d, else the following one
pub record ModPrecedes (s : DaySet) (d r : ℤ) : Type 0 where
  pub preceding : ℤ
  pub prev : Prev s d preceding
  pub choice : (SameMonth d preceding × (r ≡ preceding)) ⊎ ((SameMonth d preceding → ⊥) × Next s d r)

-- Sunday or Monday
abbrev pub IsSundayOrMonday : ℤ → Type 0
IsSundayOrMonday d = (weekday_at d ≡ 6) ⊎ (weekday_at d ≡ 0)

-- NEAREST: a business day stays; of the others a Sunday or a Monday goes on, and any other day goes back
pub record GoesNearest (s : DaySet) (d r : ℤ) : Type 0 where
  pub inside : InCover s d
  pub choice : (IsGood s d × (r ≡ d))
      ⊎ ((IsGood s d → ⊥) × ((IsSundayOrMonday d × Next s d r) ⊎ ((IsSundayOrMonday d → ⊥) × Prev s d r)))

-- ---- the relation of each convention's code

-- r is d adjusted by the convention of that code
abbrev pub Adjusts : ConvCode → DaySet → ℤ → ℤ → Type 0
Adjusts Following s d r = Next s d r
Adjusts ModFollowing s d r = ModFollows s d r
Adjusts Preceding s d r = Prev s d r
Adjusts ModPreceding s d r = ModPrecedes s d r
Adjusts Nearest s d r = GoesNearest s d r
Adjusts Unadjusted s d r = r ≡ d

-- ---- business days that are counted on one side of a day

-- the day that lies n days after d, or before it
abbrev pub away : Way → ℤ → ℕ → ℤ
away Ahead d n = d +ℤ pos n
away Back d n = d -ℤ pos n

-- how many of the n days next to d on that side are business days, d left out
abbrev pub good_days : Way → DaySet → ℤ → ℕ → ℕ
good_days way s d zero = 0
good_days way s d (suc n) = good_days way s d n + (if s.test (away way d (suc n)) then 1 else 0)

-- d and r lie in the cover, and r is a business day on that side of d. Of the days from d, left out, to r exactly n are
-- business days
pub record MovesOn (way : Way) (s : DaySet) (d : ℤ) (n : ℕ) (r : ℤ) : Type 0 where
  pub starts : InCover s d
  pub good : IsGood s r
  pub span : ℕ
  pub is : r ≡ away way d (suc span)
  pub count : good_days way s d (suc span) ≡ n

-- ---- what an offset makes of a day

-- r is the n-th business day after d, or before it where n is negative
abbrev pub MovesBusiness : ℤ → DaySet → ℤ → ℤ → Type 0
MovesBusiness (pos n) s d r = MovesOn Ahead s d n r
MovesBusiness (negsuc n) s d r = MovesOn Back s d (suc n) r

-- r is the day n days on, in the range of dates
pub record MovesCalendar (n d r : ℤ) : Type 0 where
  pub is : r ≡ d +ℤ n
  pub range : IsDay r

-- r is d moved by n days of that kind
abbrev pub MovesDays : DayKind → ℤ → DaySet → ℤ → ℤ → Type 0
MovesDays Business n s d r = MovesBusiness n s d r
MovesDays Calendar n s d r = MovesCalendar n d r
MovesDays Unsaid n s d r = ⊥

-- r is d moved by the offset: an offset of 0 leaves the day, whatever its kind
abbrev pub Moves : Offset → DaySet → ℤ → ℤ → Type 0
Moves off s d r = ((off.days ≡ pos 0) × (r ≡ d)) ⊎ ((off.days ≡ pos 0 → ⊥) × MovesDays off.kind off.days s d r)

-- ---- a day that an offset moves and a convention then adjusts, and how that may fail: K33 and K38 of payment dates
-- and fixing dates

-- r is the start moved by the offset, and then adjusted by the convention
pub record MovesAndAdjusts (offset : Offset) (code : ConvCode) (set : DaySet) (start r : ℤ) : Type 0 where
  pub moved : ℤ
  pub moves : Moves offset set start moved
  pub adjusts : Adjusts code set moved r

-- the offset moves the start to no day
abbrev pub MovesNowhere : Offset → DaySet → ℤ → Type 0
MovesNowhere offset set start = (x : ℤ) → Moves offset set start x → ⊥

-- the offset moves the start to a day that has no adjusted day
pub record MovesOff (offset : Offset) (code : ConvCode) (set : DaySet) (start : ℤ) : Type 0 where
  pub moved : ℤ
  pub moves : Moves offset set start moved
  pub none : (r : ℤ) → Adjusts code set moved r → ⊥

-- the Business offset or the adjustment has no result, as K33 has it
abbrev pub LacksResult : Offset → ConvCode → DaySet → ℤ → Type 0
LacksResult offset code set start =
    ((offset.kind ≡ Business) × MovesNowhere offset set start) ⊎ MovesOff offset code set start

-- the Calendar offset leaves the range of dates, as K38 has it
abbrev pub LeavesRange : Offset → DaySet → ℤ → Type 0
LeavesRange offset set start = (offset.kind ≡ Calendar) × MovesNowhere offset set start
