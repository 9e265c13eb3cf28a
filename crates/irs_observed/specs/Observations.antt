-- The observations of a calculation period, and why it may have none.
use Rattle.std.specs.Prelude.{◌≡◌, ℕ, ℤ, pos, neg_ℤ, ◌⊎◌, List, ◌<ℤ◌, ◌≤ℤ◌, slice_index_or, ◌+◌, ◌-◌, ◌<◌, min, [], ◌∷◌}
use Rattle.std.specs.Prelude.{length, ◌+ℤ◌, ◌≤◌, Bool, true, false}
use Rattle.irs_base.specs.Lists.{Lists, EachNumbered, Every, day_at}
use Rattle.irs_base.specs.Days.{all_days}
use Rattle.irs_terms.specs.declared.adjustments.Offset.{Offset}
use Rattle.irs_terms.specs.declared.codes.DayKind.TheVariants.{Business}
use Rattle.irs_terms.specs.declared.parameters.ObservationOffset.{ObservationOffset}
use Rattle.irs_terms.specs.declared.parameters.ObservationOffset.TheVariants.{Absent, Shift, Lookback, Lockout}
use Rattle.irs_calendar.specs.GoodDays.{DaySet, InCover, IsGood, Prev}
use Rattle.irs_adjust.specs.MovedDays.{Moves}
use Rattle.irs_observed.specs.declared.observation.Observation.{Observation}
use Rattle.irs_observed.specs.declared.observation.NoObservations.{NoObservations}
use Rattle.irs_observed.specs.declared.observation.NoObservations.TheVariants.{FewMembers, NoDay}

-- ---- the observation period of a calculation period, and which days its daily rates are observed on

-- n applicable business days back
abbrev pub back : ℕ → Offset
back n = record { days = neg_ℤ (pos n); kind = Business }

-- r is d moved back by n applicable business days
abbrev pub MovesBack : ℕ → DaySet → ℤ → ℤ → Type 0
MovesBack n set d r = Moves (back n) set d r

-- r is the end of the observation period for the end d of the calculation period: only an observation shift moves it
abbrev pub Shifts : ObservationOffset → DaySet → ℤ → ℤ → Type 0
Shifts Absent set d r = r ≡ d
Shifts (Shift n) set d r = MovesBack n set d r
Shifts (Lookback n) set d r = r ≡ d
Shifts (Lockout n) set d r = r ≡ d

-- a calculation period from its adjusted start to its adjusted end, the applicable business days, and the offset
-- of its observations
pub record ObservedPeriod : Type 0 where
  pub offset : ObservationOffset
  pub days : DaySet
  pub start : ℤ
  pub end : ℤ

-- a calculation period of these
abbrev pub observed_period : ObservationOffset → DaySet → ℤ → ℤ → ObservedPeriod
observed_period offset days start end = record { offset = offset; days = days; start = start; end = end }

-- its observation period goes from a, included, to b, excluded
pub record IsObservationPeriod (p : ObservedPeriod) (a b : ℤ) : Type 0 where
  pub from : Shifts p.offset p.days p.start a
  pub to : Shifts p.offset p.days p.end b

-- ---- the members of an observation period: the days from which a daily rate applies

-- the members from a, included, to b, excluded: the day a, business day or not, and each later business day
abbrev pub IsPeriodMember : DaySet → ℤ → ℤ → ℤ → Type 0
IsPeriodMember set a b d = (a ≤ℤ d) × (d <ℤ b) × ((d ≡ a) ⊎ IsGood set d)

-- these days in order
abbrev pub AreMembers : DaySet → ℤ → ℤ → List ℤ → Type 0
AreMembers set a b u = Lists (IsPeriodMember set a b) u

-- the member at a place, counted from 0, or the end b after the last
abbrev pub member_or_end : List ℤ → ℤ → ℕ → ℤ
member_or_end u b k = slice_index_or u k b

-- a day from a to the day before b lies outside the cover
pub record LeavesCover (set : DaySet) (a b : ℤ) : Type 0 where
  pub day : ℤ
  pub from : a ≤ℤ day
  pub to : day <ℤ b
  pub outside : InCover set day → ⊥

-- ---- the observations of a calculation period: each member with its weight and its observation day

-- o is the observation day of the member d: the last business day at or before d. A lookback moves it back
abbrev pub ObservesOn : ObservationOffset → DaySet → ℤ → ℤ → Type 0
ObservesOn Absent set d o = Prev set d o
ObservesOn (Shift n) set d o = Prev set d o
ObservesOn (Lookback n) set d o = (q : ℤ) × Prev set d q × MovesBack n set q o
ObservesOn (Lockout n) set d o = Prev set d o

-- the number of last members without an observation day of their own
abbrev pub lockout_days : ObservationOffset → ℕ
lockout_days Absent = 0
lockout_days (Shift n) = 0
lockout_days (Lookback n) = 0
lockout_days (Lockout n) = n

-- the place of the member whose observation day the member at place k of `count` takes. It is its own place,
-- but for all members of a lockout that of the member before them
abbrev pub place_observed : ObservationOffset → ℕ → ℕ → ℕ
place_observed offset count k = min k (count - 1 - lockout_days offset)

-- o is the observation of the member at place k of u. Its weight is the number of days to the next member,
-- or to the end b after the last
pub record IsObservation (offset : ObservationOffset) (set : DaySet) (u : List ℤ) (b : ℤ) (k : ℕ) (o : Observation)
    : Type 0 where
  pub day : o.day ≡ day_at u k
  pub weight : o.day +ℤ pos o.weight ≡ member_or_end u b (k + 1)
  pub observed : ObservesOn offset set (day_at u (place_observed offset (length u) k)) o.observed

-- one observation for each member
pub record AreObserved (offset : ObservationOffset) (set : DaySet) (u : List ℤ) (b : ℤ) (os : List Observation)
    : Type 0 where
  pub many : length os ≡ length u
  pub each : EachNumbered (IsObservation offset set u b) 0 os

-- the observations of a calculation period
pub record AreObservations (p : ObservedPeriod) (os : List Observation) : Type 0 where
  pub from : ℤ
  pub to : ℤ
  pub period : IsObservationPeriod p from to
  pub members : List ℤ
  pub are_members : AreMembers p.days from to members
  pub observed : AreObserved p.offset p.days members to os

-- the sum of the weights
abbrev pub total_weight : List Observation → ℕ
total_weight [] = 0
total_weight (o ∷ os) = o.weight + total_weight os

-- the weights are above 0, and there is one, and together they are fewer days than there are
pub record HasWeights (os : List Observation) : Type 0 where
  pub each : Every (λ o. 0 < o.weight) os
  pub some : 0 < total_weight os
  pub few : total_weight os < all_days

-- the weights add up to the days of the observation period
abbrev pub AddsUp : ObservedPeriod → List Observation → Type 0
AddsUp p os = (a b : ℤ) → IsObservationPeriod p a b → a +ℤ pos (total_weight os) ≡ b

-- ---- why a calculation period has no observations

-- the observation period lies in the cover, and has no more members than the lockout has days; without a lockout,
-- it has none
pub record HasFewMembers (p : ObservedPeriod) : Type 0 where
  pub from : ℤ
  pub to : ℤ
  pub period : IsObservationPeriod p from to
  pub covered : LeavesCover p.days from to → ⊥
  pub members : List ℤ
  pub are_members : AreMembers p.days from to members
  pub few : length members ≤ lockout_days p.offset

-- a day of the observation period lies outside the cover
pub record IsUncovered (p : ObservedPeriod) : Type 0 where
  pub from : ℤ
  pub to : ℤ
  pub period : IsObservationPeriod p from to
  pub leaves : LeavesCover p.days from to

-- a member has no observation day
pub record IsUnobserved (p : ObservedPeriod) : Type 0 where
  pub from : ℤ
  pub to : ℤ
  pub period : IsObservationPeriod p from to
  pub member : ℤ
  pub is_member : IsPeriodMember p.days from to member
  pub none : (o : ℤ) → ObservesOn p.offset p.days member o → ⊥

-- a day has no result: an end of the observation period, a day of it in the cover, or an observation day
pub data LacksObservedDay (p : ObservedPeriod) : Type 0 where
  no_period : ((a b : ℤ) → IsObservationPeriod p a b → ⊥) → LacksObservedDay p
  uncovered : IsUncovered p → LacksObservedDay p
  unobserved : IsUnobserved p → LacksObservedDay p

-- the period has no observations for this reason
abbrev pub LacksObservations : ObservedPeriod → NoObservations → Type 0
LacksObservations p FewMembers = HasFewMembers p
LacksObservations p NoDay = LacksObservedDay p

-- too few members are reported before a day without a result
abbrev pub reported_before : NoObservations → NoObservations → Bool
reported_before FewMembers FewMembers = false
reported_before FewMembers NoDay = true
reported_before NoDay FewMembers = false
reported_before NoDay NoDay = false
