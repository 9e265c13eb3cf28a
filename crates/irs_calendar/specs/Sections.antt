-- The sections of calendar files, by their centres, and the business days of a list of centres.
use Rattle.std.specs.Prelude.{◌≡◌, ℕ, Bool, List, ℤ, slice_get, Some, false, not, ◌&&◌, [], ◌∷◌, Option, map}
use Rattle.std.specs.Prelude.{slice_index_or, None, Vec, ◌+◌, ◌≤ℤ◌, ◌↔◌, if◌then◌else◌}
use Rattle.std.specs.List.{list_any, list_all, find}
use Rattle.std.specs.Ordering.{nat_cmp, int_cmp, is_lt}
use Rattle.std.specs.Str.{bytes_eq}
use Rattle.std.specs.Global.{Global}
use Rattle.std.specs.Cmp.Lexicographic.{slice_cmp}
use Rattle.std.specs.BTreeMap.{BTreeMap, get_by}
use Rattle.irs_base.specs.Days.{weekday_at, first_day, last_day, IsDay}
use Rattle.irs_calendar.specs.declared.sections.Section.{Section}
use Rattle.irs_calendar.specs.GoodDays.{DaySet, InCover}
use Rattle.irs_calendar.specs.Rising.{is_listed}

-- ---- the sections of calendar files: what each says of its centre

-- the names of the sections, in their order
abbrev pub center_names : List Section → List (List ℕ)
center_names ss = map (λ s. s.name) ss

-- a section has that name
abbrev pub is_named : List ℕ → List Section → Bool
is_named name ss = list_any (λ s. bytes_eq s.name name) ss

-- the section with that name
abbrev pub section_named : List Section → List ℕ → Option Section
section_named ss name = find (λ s. bytes_eq s.name name) ss

-- no two have the same name: each name differs from those after it
abbrev pub AreDistinct : List Section → Type 0
AreDistinct [] = Unit {0}
AreDistinct (s ∷ ss) = (is_named s.name ss ≡ false) × AreDistinct ss

-- the day's weekday isn't on the section's weekend list, and the day isn't on its holiday list
abbrev pub is_open : Section → ℤ → Bool
is_open s d = not (slice_index_or s.weekend (weekday_at d) false) && not (is_listed d s.holidays)

-- the day is on no list of any of the sections
abbrev pub all_open : List Section → ℤ → Bool
all_open ss d = list_all (λ s. is_open s d) ss

-- ---- where the sections of a list are, by the names of their centres

-- the place that is kept for the name
abbrev pub place_for_name : BTreeMap (Vec ℕ Global) ℕ → List ℕ → Option ℕ
place_for_name places name = get_by (λ k. slice_cmp nat_cmp name k.items) places

-- a place that is kept has a section of that name, and a name with no place has no section
pub record IsIndex (places : BTreeMap (Vec ℕ Global) ℕ) (ss : List Section) : Type 0 where
  pub found : (name : List ℕ) (i : ℕ) → place_for_name places name ≡ Some i
      → (s : Section) × (slice_get ss i ≡ Some s) × (s.name ≡ name)
  pub missing : (name : List ℕ) → place_for_name places name ≡ None → is_named name ss ≡ false

-- ---- the business days of a list of centres

-- the later of two days
abbrev pub later_day : ℤ → ℤ → ℤ
later_day a b = if is_lt (int_cmp a b) then b else a

-- the earlier of two days
abbrev pub earlier_day : ℤ → ℤ → ℤ
earlier_day a b = if is_lt (int_cmp b a) then b else a

-- the latest of a day and the first days of the covers
abbrev pub latest_first : ℤ → List Section → ℤ
latest_first d [] = d
latest_first d (s ∷ ss) = latest_first (later_day d s.first) ss

-- the earliest of a day and the last days of the covers
abbrev pub earliest_last : ℤ → List Section → ℤ
earliest_last d [] = d
earliest_last d (s ∷ ss) = earliest_last (earlier_day d s.last) ss

-- the cover is what the covers have in common; its business days are those that all sections leave open
abbrev pub set_of_sections : List Section → DaySet
set_of_sections ss = record { first = latest_first first_day ss; last = earliest_last last_day ss; test = all_open ss }

-- the sections with one that was found in front
abbrev pub with_found : Option Section → List Section → List Section
with_found None rest = rest
with_found (Some s) rest = s ∷ rest

-- the sections that have these names, in the order of the names
abbrev pub sections_named : List Section → List (List ℕ) → List Section
sections_named ss [] = []
sections_named ss (n ∷ ns) = with_found (section_named ss n) (sections_named ss ns)

-- the business days of the centres with these names
abbrev pub day_set_of : List Section → List (List ℕ) → DaySet
day_set_of ss names = set_of_sections (sections_named ss names)

-- the position of the first name, counted from k on, that no section has
abbrev pub first_missing : List Section → ℕ → List (List ℕ) → Option ℕ
first_missing ss k [] = None
first_missing ss k (n ∷ ns) = if is_named n ss then first_missing ss (k + 1) ns else Some k

-- the day lies in the cover of each of the sections
abbrev pub AllCover : List Section → ℤ → Type 0
AllCover [] d = Unit {0}
AllCover (s ∷ ss) d = (s.first ≤ℤ d) × (d ≤ℤ s.last) × AllCover ss d

-- the set's cover is the intersection of those of the sections, in the range of dates
abbrev pub CoversCommon : List Section → DaySet → Type 0
CoversCommon ss set = (d : ℤ) → InCover set d ↔ (IsDay d × AllCover ss d)
