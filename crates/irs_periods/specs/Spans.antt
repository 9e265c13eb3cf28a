-- The regular span of a stream between its stubs, and its rules.
use Rattle.std.specs.Prelude.{◌≡◌, ◌⊎◌, ℤ, ◌≤ℤ◌, ◌<ℤ◌, Bool, true, false, Option, Some, None, ℕ, unwrap_or}
use Rattle.irs_terms.specs.declared.places.Rule.TheVariants.{K30, K31}
use Rattle.irs_terms.specs.declared.places.Fault.{Fault}
use Rattle.irs_terms.specs.Faults.{fault_at}
use Rattle.irs_terms.specs.Elements.{termination_date, first_regular_period_start_date, last_regular_period_end_date}
use Rattle.irs_terms.specs.declared.codes.StubKind.{StubKind}
use Rattle.irs_terms.specs.declared.codes.StubKind.TheVariants.{ShortInitial, LongInitial, ShortFinal, LongFinal}
use Rattle.irs_terms.specs.declared.frequency.Unit.{Unit as FrequencyUnit}
use Rattle.irs_terms.specs.declared.frequency.Unit.TheVariants.{T}
use Rattle.irs_terms.specs.declared.stream.Stream.{Stream}
use Rattle.irs_terms.specs.declared.results.Span.{Span}
use Rattle.irs_terms.specs.TermDates.{first_day_of, termination_of, IsWholeTerm, first_day_element}
use Rattle.irs_roll.specs.Rolls.{OnGrid, Fits}

-- ---- the nearest days of a grid on one side of a day, and the ends of the regular span next to a stub
-- A grid is the test that its days meet.

-- r is the first day of the grid at or after d
pub record FirstFrom (on : ℤ → Type 0) (d r : ℤ) : Type 0 where
  pub is_on : on r
  pub after : d ≤ℤ r
  pub least : (x : ℤ) → on x → d ≤ℤ x → r ≤ℤ x

-- r is the first day of the grid after d
pub record FirstAfter (on : ℤ → Type 0) (d r : ℤ) : Type 0 where
  pub is_on : on r
  pub after : d <ℤ r
  pub least : (x : ℤ) → on x → d <ℤ x → r ≤ℤ x

-- r is the last day of the grid at or before d
pub record LastUpTo (on : ℤ → Type 0) (d r : ℤ) : Type 0 where
  pub is_on : on r
  pub before : r ≤ℤ d
  pub greatest : (x : ℤ) → on x → x ≤ℤ d → x ≤ℤ r

-- r is the last day of the grid before d
pub record LastBefore (on : ℤ → Type 0) (d r : ℤ) : Type 0 where
  pub is_on : on r
  pub before : r <ℤ d
  pub greatest : (x : ℤ) → on x → x <ℤ d → x ≤ℤ r

-- r is the first day of the regular span after a long initial stub of the term from e to t. That is the first grid day
-- at or after e if it is e. Else it is the next grid day if that isn't after t, or else t
pub record LongFirst (on : ℤ → Type 0) (e t r : ℤ) : Type 0 where
  pub short : ℤ
  pub is_short : FirstFrom on e short
  pub choice : ((short ≡ e) × (r ≡ e))
      ⊎ ((short ≡ e → ⊥) × ((FirstAfter on short r × (r ≤ℤ t))
      ⊎ (((x : ℤ) → FirstAfter on short x → x ≤ℤ t → ⊥) × (r ≡ t))))

-- r is the last day of the regular span before a long final stub of the term from e to t. That is the last grid day at
-- or before t if it is t. Else it is the grid day before if that isn't before e, or else e
pub record LongLast (on : ℤ → Type 0) (e t r : ℤ) : Type 0 where
  pub short : ℤ
  pub is_short : LastUpTo on t short
  pub choice : ((short ≡ t) × (r ≡ t))
      ⊎ ((short ≡ t → ⊥) × ((LastBefore on short r × (e ≤ℤ r))
      ⊎ (((x : ℤ) → LastBefore on short x → e ≤ℤ x → ⊥) × (r ≡ e))))

-- ---- the regular span of a stream, and the anchor of its grid
-- The span is the part of the term that regular periods fill. It runs from the end of an initial stub to the start of a
-- final one.

-- the unit is the term
abbrev pub is_term : FrequencyUnit → Bool
is_term T = true
is_term _ = false

-- the anchor by the stub type alone: the termination date for an initial stub, else the first day
abbrev pub stub_anchor : Option StubKind → ℤ → ℤ → ℤ
stub_anchor (Some ShortInitial) e t = t
stub_anchor (Some LongInitial) e t = t
stub_anchor _ e t = e

-- where a regular date is given the anchor is the first one, or the first day; the stub type isn't used then
abbrev pub given_anchor : Option ℤ → Option ℤ → Option StubKind → ℤ → ℤ → ℤ
given_anchor None None stub e t = stub_anchor stub e t
given_anchor None (Some last) stub e t = e
given_anchor (Some first) last stub e t = first

-- the anchor of a stream whose frequency isn't the whole term
abbrev pub given_anchor_of : Stream → ℤ
given_anchor_of s = given_anchor s.first_regular s.last_regular s.stub (first_day_of s) (termination_of s)

-- for the term the anchor is the first day
abbrev pub period_anchor_by : Bool → Option ℤ → Option ℤ → Option StubKind → ℤ → ℤ → ℤ
period_anchor_by true first last stub e t = e
period_anchor_by false first last stub e t = given_anchor first last stub e t

-- the anchor of a stream's grid
abbrev pub anchor_of : Stream → ℤ
anchor_of s = period_anchor_by (is_term s.freq.unit) s.first_regular s.last_regular s.stub (first_day_of s) (termination_of s)

-- the span's first and last day by the stub type alone
abbrev pub StubSpan : Option StubKind → (ℤ → Type 0) → ℤ → ℤ → ℤ → ℤ → Type 0
StubSpan None on e t first last = (first ≡ e) × (last ≡ t)
StubSpan (Some ShortInitial) on e t first last = FirstFrom on e first × (last ≡ t)
StubSpan (Some LongInitial) on e t first last = LongFirst on e t first × (last ≡ t)
StubSpan (Some ShortFinal) on e t first last = (first ≡ e) × LastUpTo on t last
StubSpan (Some LongFinal) on e t first last = (first ≡ e) × LongLast on e t last

-- where a regular date is given, the span goes from the first one to the last one. A missing one is the end of the term
-- on that side. The stub type isn't used then
abbrev pub GivenSpan : Option ℤ → Option ℤ → Option StubKind → (ℤ → Type 0) → ℤ → ℤ → ℤ → ℤ → Type 0
GivenSpan None None stub on e t first last = StubSpan stub on e t first last
GivenSpan None (Some l) stub on e t first last = (first ≡ e) × (last ≡ l)
GivenSpan (Some f) l stub on e t first last = (first ≡ f) × (last ≡ unwrap_or l t)

-- for the term the span is the whole term
abbrev pub SpanBy : Bool → Option ℤ → Option ℤ → Option StubKind → (ℤ → Type 0) → ℤ → ℤ → ℤ → ℤ → Type 0
SpanBy true f l stub on e t first last = (first ≡ e) × (last ≡ t)
SpanBy false f l stub on e t first last = GivenSpan f l stub on e t first last

-- the regular span of a stream, and the anchor of its grid
pub record Regular (s : Stream) (span : Span) : Type 0 where
  pub anchored : span.anchor ≡ anchor_of s
  pub spans : SpanBy (is_term s.freq.unit) s.first_regular s.last_regular s.stub (OnGrid s.freq s.roll span.anchor)
      (first_day_of s) (termination_of s) span.first span.last

-- ---- the rules of a stream's span: that the roll fits the anchor (K30), and that the last regular day is on the grid
-- (K31)

-- the element of the anchor by the stub type alone, `start` being that of the first day
abbrev pub stub_anchor_element : ℕ → Option StubKind → ℕ
stub_anchor_element start (Some ShortInitial) = termination_date
stub_anchor_element start (Some LongInitial) = termination_date
stub_anchor_element start _ = start

-- the element of the anchor: where the first regular date is given that one, also where it is the first day
abbrev pub anchor_element_by : ℕ → Option ℤ → Option ℤ → Option StubKind → ℕ
anchor_element_by start None None stub = stub_anchor_element start stub
anchor_element_by start None (Some last) stub = start
anchor_element_by start (Some first) last stub = first_regular_period_start_date

-- the element whose day is the anchor
abbrev pub anchor_element : Stream → ℕ
anchor_element s = anchor_element_by (first_day_element s) s.first_regular s.last_regular s.stub

-- the element of the span's last day
abbrev pub last_element_by : Option ℤ → ℕ
last_element_by None = termination_date
last_element_by (Some last) = last_regular_period_end_date

-- the element whose day is the last regular one
abbrev pub last_element : Stream → ℕ
last_element s = last_element_by s.last_regular

-- K30: the frequency isn't the term, and the roll doesn't fit the anchor
pub record RollMisfits (s : Stream) : Type 0 where
  pub timed : IsWholeTerm s.freq → ⊥
  pub misfits : Fits s.roll s.freq (anchor_of s) → ⊥

-- K31: the frequency isn't the term, and the last day of the regular span isn't on the grid
pub record LastOffGrid (s : Stream) : Type 0 where
  pub timed : IsWholeTerm s.freq → ⊥
  pub span : Span
  pub regular : Regular s span
  pub off : OnGrid s.freq s.roll span.anchor span.last → ⊥

-- the rules that the span breaks: K30 at the element of its anchor, K31 at that of its last day
abbrev pub roll_misfits : Stream → Fault
roll_misfits s = fault_at K30 (anchor_element s) 0

-- K31
abbrev pub last_off_grid : Stream → Fault
last_off_grid s = fault_at K31 (last_element s) 0

-- the fault is K30 or K31, which is broken
abbrev pub BreaksSpan : Stream → Fault → Type 0
BreaksSpan s f = (RollMisfits s × (f ≡ roll_misfits s)) ⊎ (LastOffGrid s × (f ≡ last_off_grid s))

-- neither is broken: unless the frequency is the term, the roll fits the anchor, and the last day is on the grid
pub record SpanKept (s : Stream) (span : Span) : Type 0 where
  pub fits : (IsWholeTerm s.freq → ⊥) → Fits s.roll s.freq span.anchor
  pub on_last : (IsWholeTerm s.freq → ⊥) → OnGrid s.freq s.roll span.anchor span.last
