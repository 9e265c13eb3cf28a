-- The boundaries of a stream's calculation periods, unadjusted and adjusted, and what the calls answer.
use Rattle.std.specs.Prelude.{◌≡◌, ◌⊎◌, ◌+◌, ◌-◌, ◌<◌, List, length, ℤ, ◌<ℤ◌, ◌≤ℤ◌, ℕ, ◌==◌, if◌then◌else◌}
use Rattle.irs_base.specs.Limits.{most_periods}
use Rattle.irs_base.specs.Lists.{Lists, day_at, IsRising}
use Rattle.irs_terms.specs.Elements.{calculation_period_frequency, calculation_period_dates, termination_date}
use Rattle.irs_terms.specs.Elements.{period_dates_adjustments}
use Rattle.irs_terms.specs.declared.places.Fault.{Fault}
use Rattle.irs_base.specs.Outcomes.{Spec, unless_broken}
use Rattle.irs_terms.specs.Faults.{fault_at, comes_before}
use Rattle.irs_terms.specs.declared.places.Rule.TheVariants.{K32, K33, K34}
use Rattle.irs_terms.specs.declared.stream.Stream.{Stream}
use Rattle.irs_terms.specs.declared.results.Span.{Span}
use Rattle.irs_terms.specs.TermDates.{first_day_of, termination_of, first_date_of, first_day_element}
use Rattle.irs_terms.specs.declared.codes.ConvCode.{ConvCode}
use Rattle.irs_calendar.specs.GoodDays.{DaySet}
use Rattle.irs_adjust.specs.MovedDays.{Adjusts}
use Rattle.irs_roll.specs.Rolls.{OnGrid}
use Rattle.irs_periods.specs.Spans.{BreaksSpan, SpanKept, Regular}

-- ---- the unadjusted boundaries of a stream's calculation periods (2006 ISDA Definitions, 4.13 and 4.10)

-- the day lies from first to last and is on the grid
abbrev pub OnSpan : (ℤ → Type 0) → ℤ → ℤ → ℤ → Type 0
OnSpan on first last d = (first ≤ℤ d) × (d ≤ℤ last) × on d

-- the day is the start of the first period, the termination date, or a grid day of the regular span
abbrev pub IsBoundaryBy : (ℤ → Type 0) → ℤ → ℤ → ℤ → ℤ → ℤ → Type 0
IsBoundaryBy on begin termination first last d = (d ≡ begin) ⊎ ((d ≡ termination) ⊎ OnSpan on first last d)

-- the same for a stream and its span; the grid of the term has no day
abbrev pub IsBoundary : Stream → Span → ℤ → Type 0
IsBoundary s span d =
    IsBoundaryBy (OnGrid s.freq s.roll span.anchor) (first_day_of s) (termination_of s) span.first span.last d

-- the boundaries in order: the strictly rising list that has exactly these days
abbrev pub Boundaries : Stream → Span → List ℤ → Type 0
Boundaries s span b = Lists (IsBoundary s span) b

-- where the regular periods begin. With no initial stub the span's first day is boundary 0, and after an initial stub
-- it is boundary 1
pub record RegularStart (s : Stream) (span : Span) (b : List ℤ) : Type 0 where
  pub not_before : first_day_of s ≤ℤ span.first
  pub no_stub : first_day_of s ≡ span.first → day_at b 0 ≡ span.first
  pub behind_stub : first_day_of s <ℤ span.first → day_at b 1 ≡ span.first

-- where the regular periods end. With no final stub the span's last day is the last boundary, and before a final stub
-- it is the last but one
pub record RegularEnd (s : Stream) (span : Span) (b : List ℤ) : Type 0 where
  pub not_after : span.last ≤ℤ termination_of s
  pub no_stub : span.last ≡ termination_of s → day_at b (length b - 1) ≡ span.last
  pub before_stub : span.last <ℤ termination_of s → day_at b (length b - 2) ≡ span.last

-- K32: there are more boundaries than the most periods have
pub record TooManyPeriods (s : Stream) (span : Span) : Type 0 where
  pub list : List ℤ
  pub lists : Boundaries s span list
  pub many : most_periods + 1 < length list

-- the rule that the number of periods breaks: K32 at the frequency
abbrev pub too_many_periods : Fault
too_many_periods = fault_at K32 calculation_period_frequency 0

-- the fault is K32, which is broken
abbrev pub BreaksPeriods : Stream → Span → Fault → Type 0
BreaksPeriods s span f = TooManyPeriods s span × (f ≡ too_many_periods)

-- ---- the adjusted boundaries of a stream, and the rules that they keep: each boundary has an adjusted day (K33), and
-- the adjusted days rise (K34)

-- the business days by which the first, the last and every other boundary are adjusted
pub record BoundaryDays : Type 0 where
  pub start : DaySet
  pub end : DaySet
  pub middle : DaySet

-- the same of three sets of business days, `days` being what each says
abbrev pub boundary_days_by : {G : Type 0} → (G → DaySet) → G → G → G → BoundaryDays
boundary_days_by days start end middle = record { start = days start; end = days end; middle = days middle }

-- the number of the last boundary
abbrev pub last_of : List ℤ → ℕ
last_of b = length b - 1

-- boundary 0 is adjusted as firstPeriodStartDate where that is given, else as the effective date. The last one is
-- adjusted as the termination date, and the others by the period adjustments
abbrev pub code_at : Stream → ℕ → ℕ → ConvCode
code_at s last i =
    if i == 0 then (first_date_of s).adj.code else (if i == last then s.termination.adj.code else s.period_adj.code)

-- the business days of boundary i: those of the first, of the last, or of the others
abbrev pub boundary_days_at : BoundaryDays → ℕ → ℕ → DaySet
boundary_days_at sets last i = if i == 0 then sets.start else (if i == last then sets.end else sets.middle)

-- r is the boundary d, with the number i, adjusted
abbrev pub AdjustsAt : Stream → BoundaryDays → ℕ → ℕ → ℤ → ℤ → Type 0
AdjustsAt s sets last i d r = Adjusts (code_at s last i) (boundary_days_at sets last i) d r

-- a is as long as b, and each day of a is the boundary at its place adjusted
pub record AdjustedList (s : Stream) (sets : BoundaryDays) (b a : List ℤ) : Type 0 where
  pub same_length : length a ≡ length b
  pub each : (i : ℕ) → i < length b → AdjustsAt s sets (last_of b) i (day_at b i) (day_at a i)

-- K33: the boundary with the number i has no adjusted day
pub record NoResult (s : Stream) (sets : BoundaryDays) (b : List ℤ) (i : ℕ) : Type 0 where
  pub within : i < length b
  pub none : (r : ℤ) → AdjustsAt s sets (last_of b) i (day_at b i) r → ⊥

-- K34: the day with the number i isn't after the one before it
pub record NotAfter (a : List ℤ) (i : ℕ) : Type 0 where
  pub some : 0 < i
  pub within : i < length a
  pub flat : day_at a i ≤ℤ day_at a (i - 1)

-- the element and the index by which a boundary is named
abbrev pub boundary_element : Stream → ℕ → ℕ → ℕ
boundary_element s last i =
    if i == 0 then first_day_element s else (if i == last then termination_date else period_dates_adjustments)

-- the index that a fault names: none for the first and the last boundary
abbrev pub boundary_index : ℕ → ℕ → ℕ
boundary_index last i = if i == 0 then 0 else (if i == last then 0 else i)

-- K33 at boundary i
abbrev pub no_result_at : Stream → ℕ → ℕ → Fault
no_result_at s last i = fault_at K33 (boundary_element s last i) (boundary_index last i)

-- K34 at boundary i
abbrev pub not_after_at : ℕ → Fault
not_after_at i = fault_at K34 calculation_period_dates i

-- K33 at a boundary without an adjusted day
pub record MissesResult (s : Stream) (sets : BoundaryDays) (b : List ℤ) (f : Fault) : Type 0 where
  pub number : ℕ
  pub misses : NoResult s sets b number
  pub is : f ≡ no_result_at s (last_of b) number

-- K34 at an adjusted day that isn't after the one before it
pub record DoesNotRise (s : Stream) (sets : BoundaryDays) (b : List ℤ) (f : Fault) : Type 0 where
  pub list : List ℤ
  pub adjusted : AdjustedList s sets b list
  pub number : ℕ
  pub flat : NotAfter list number
  pub is : f ≡ not_after_at number

-- the rules that the adjusted boundaries break
abbrev pub BreaksAdjusted : Stream → BoundaryDays → List ℤ → Fault → Type 0
BreaksAdjusted s sets b f = MissesResult s sets b f ⊎ DoesNotRise s sets b f

-- ---- what the calls of this crate answer, and what they refuse

-- the span is the stream's regular one, the roll fits its anchor, and its last day is on the grid
pub record IsRegularSpan (s : Stream) (span : Span) : Type 0 where
  pub regular : Regular s span
  pub kept : SpanKept s span

-- the days are the boundaries adjusted, and they rise
pub record AreAdjusted (s : Stream) (sets : BoundaryDays) (b a : List ℤ) : Type 0 where
  pub adjusted : AdjustedList s sets b a
  pub rising : IsRising a

-- the regular span of a stream, or the first of K30 and K31 that is broken
abbrev pub regular_span_of : Stream → Spec Span Fault
regular_span_of s = unless_broken comes_before (BreaksSpan s) (IsRegularSpan s)

-- the stream has a regular span, which breaks neither K30 nor K31
abbrev pub HasSpan : Stream → Type 0
HasSpan s = (span : Span) × (regular_span_of s).Answers span

-- the boundaries over a span, or K32
abbrev pub boundaries_of : Stream → Span → Spec (List ℤ) Fault
boundaries_of s span = unless_broken comes_before (BreaksPeriods s span) (Boundaries s span)

-- the boundaries adjusted, or the first K33, or else the first K34
abbrev pub adjusted_of : Stream → BoundaryDays → List ℤ → Spec (List ℤ) Fault
adjusted_of s sets b = unless_broken comes_before (BreaksAdjusted s sets b) (AreAdjusted s sets b)
