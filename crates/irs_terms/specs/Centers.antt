-- What the terms of a stream refer to: the centres of its business days, and its elements by reference.
use Rattle.std.specs.Prelude.{ℕ, Bool, true, false, not, ◌&&◌, ◌||◌, List, Option, Some, None, pos, if◌then◌else◌}
use Rattle.std.specs.Prelude.{IfSome, ◌≡◌, ◌⊎◌}
use Rattle.std.specs.Ordering.{int_eq}
use Rattle.irs_terms.specs.declared.codes.ConvCode.{ConvCode}
use Rattle.irs_terms.specs.declared.codes.ConvCode.TheVariants.{Unadjusted}
use Rattle.irs_terms.specs.declared.codes.DayKind.{DayKind}
use Rattle.irs_terms.specs.declared.codes.DayKind.TheVariants.{Business, Unsaid}
use Rattle.irs_terms.specs.declared.adjustments.Offset.{Offset}
use Rattle.irs_terms.specs.declared.adjustments.Centers.{Centers}
use Rattle.irs_terms.specs.declared.adjustments.Centers.TheVariants.{Listed, Absent as NoCenters, Dangling as NoList}
use Rattle.irs_terms.specs.declared.adjustments.Adjustments.{Adjustments}
use Rattle.irs_terms.specs.declared.dates.FixTerms.{FixTerms}
use Rattle.irs_terms.specs.declared.dates.ResetTerms.{ResetTerms}
use Rattle.irs_terms.specs.declared.adjustments.AdjustableDate.{AdjustableDate}
use Rattle.irs_terms.specs.declared.stream.Stream.{Stream}
use Rattle.irs_terms.specs.declared.codes.RefState.{RefState}
use Rattle.irs_terms.specs.declared.codes.RefState.TheVariants.{Dangling as NoTarget}

-- ---- the centres an element of a stream takes its business days from
-- It lists them or has them by reference. There are none where it needs no days.

-- the names of the centres that an element lists, or has by its reference
abbrev pub listed_names : Centers → Option (List (List ℕ))
listed_names (Listed names) = Some names
listed_names _ = None

-- an adjustment needs days where its convention isn't NONE
abbrev pub adjusts_days : ConvCode → Bool
adjusts_days Unadjusted = false
adjusts_days _ = true

-- the offset counts business days
abbrev pub is_business : DayKind → Bool
is_business Business = true
is_business _ = false

-- an offset needs days where it is a Business offset other than 0
abbrev pub counts_days : Offset → Bool
counts_days offset = is_business offset.kind && not (int_eq offset.days (pos 0))

-- the names of the centres that an element needs; none where it needs no days
abbrev pub names_for : Bool → Centers → Option (List (List ℕ))
names_for needed centers = if needed then listed_names centers else None

-- the centres that adjustments need: none where they need no days
abbrev pub names_by : Adjustments → Option (List (List ℕ))
names_by adj = names_for (adjusts_days adj.code) adj.centers

-- payment dates and fixing dates also need days for their offset
abbrev pub names_with : Offset → Adjustments → Option (List (List ℕ))
names_with offset adj = names_for (adjusts_days adj.code || counts_days offset) adj.centers

-- the centres that reset dates ask
abbrev pub reset_names : Option ResetTerms → Option (List (List ℕ))
reset_names None = None
reset_names (Some terms) = names_by terms.adj

-- the centres that terms of fixing dates ask, where there are any
abbrev pub fixing_names_of : Option FixTerms → Option (List (List ℕ))
fixing_names_of None = None
fixing_names_of (Some fixing) = names_with fixing.offset fixing.adj

-- the centres that fixing dates ask
abbrev pub fixing_names : Option ResetTerms → Option (List (List ℕ))
fixing_names None = None
fixing_names (Some terms) = fixing_names_of terms.fixing

-- ---- that an element that needs days has centres

-- there is a list of centres, or a reference to one
abbrev pub HasCenters : Centers → Type 0
HasCenters NoCenters = ⊥
HasCenters _ = Unit {0}

-- where days are needed there are centres
abbrev pub HasCentersFor : Bool → Centers → Type 0
HasCentersFor true centers = HasCenters centers
HasCentersFor false centers = Unit {0}

-- for the convention of the adjustments
abbrev pub HasCentersBy : Adjustments → Type 0
HasCentersBy adj = HasCentersFor (adjusts_days adj.code) adj.centers

-- for the convention or for the offset, as payment dates and fixing dates need days
abbrev pub HasCentersWith : Offset → Adjustments → Type 0
HasCentersWith offset adj = HasCentersFor (adjusts_days adj.code || counts_days offset) adj.centers

-- for a date that may be given
abbrev pub StartHasCenters : Option AdjustableDate → Type 0
StartHasCenters start = IfSome start (λ date. HasCentersBy date.adj)

-- for fixing dates, where there are any
abbrev pub FixingHasCenters : Option FixTerms → Type 0
FixingHasCenters fixing = IfSome fixing (λ terms. HasCentersWith terms.offset terms.adj)

-- ---- that an offset says which days it counts (FpML dayType)

-- the offset is 0, or its kind of days is said
abbrev pub IsSaid : Offset → Type 0
IsSaid offset = (offset.days ≡ pos 0) ⊎ (offset.kind ≡ Unsaid → ⊥)

-- that of fixing dates, where there are any
abbrev pub IsSaidFixing : Option FixTerms → Type 0
IsSaidFixing fixing = IfSome fixing (λ terms. IsSaid terms.offset)

-- that of a stream's fixing dates
abbrev pub IsSaidReset : Stream → Type 0
IsSaidReset s = IfSome s.reset (λ t. IsSaidFixing t.fixing)

-- ---- that the references of a stream name what they refer to (FpML calculationPeriodDatesReference, dateRelativeTo,
-- businessCentersReference)

-- a reference that is given names its target
abbrev pub NamesTarget : RefState → Type 0
NamesTarget NoTarget = ⊥
NamesTarget _ = Unit {0}

-- a businessCentersReference that is given names exactly one list of centres
abbrev pub NamesOneList : Centers → Type 0
NamesOneList NoList = ⊥
NamesOneList _ = Unit {0}

-- that of a date that may be given
abbrev pub StartNamesOneList : Option AdjustableDate → Type 0
StartNamesOneList start = IfSome start (λ date. NamesOneList date.adj.centers)

-- that of fixing dates, where there are any
abbrev pub FixingNamesOneList : Option FixTerms → Type 0
FixingNamesOneList fixing = IfSome fixing (λ terms. NamesOneList terms.adj.centers)
