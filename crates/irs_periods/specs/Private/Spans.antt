-- Private: no public contract rests on this file.
-- Of private functions: the ends of the term, the days of a grid, and adjusted boundaries.
use Rattle.std.specs.Prelude.{ℤ, ℕ, pos, ◌-ℤ◌, ◌≤ℤ◌, zero, suc, ◌+◌, List, [], ◌∷◌, ◌++◌, ◌+ℤ◌, if◌then◌else◌, Bool}
use Rattle.std.specs.Prelude.{nat_lt, ◌<◌, length}
use Rattle.std.proofs.Common.{is_lt, int_cmp}
use Rattle.irs_base.specs.Outcomes.{First}
use Rattle.irs_terms.specs.Faults.{comes_before}
use Rattle.irs_base.specs.Lists.{day_at}
use Rattle.irs_terms.specs.declared.stream.Stream.{Stream}
use Rattle.irs_terms.specs.TermDates.{first_day_of, termination_of}
use Rattle.irs_terms.specs.declared.results.Span.{Span}
use Rattle.irs_periods.specs.Spans.{GivenSpan, FirstFrom, LastUpTo, LongFirst, LongLast}
use Rattle.irs_periods.specs.declared.nearest.Way.{Way}
use Rattle.irs_periods.specs.declared.nearest.Way.TheVariants.{Back, Ahead}
use Rattle.irs_periods.specs.Boundaries.{BoundaryDays, last_of, AdjustsAt, NoResult, NotAfter, no_result_at}

-- ---- the regular span of a stream, and the anchor of its grid
-- The span is the part of the term that regular periods fill. It runs from the end of an initial stub to the start of a
-- final one.

-- the first and the last regular day of such a stream, by its grid days
abbrev pub GivenSpanOf : Stream → (ℤ → Type 0) → ℤ → ℤ → Type 0
GivenSpanOf s on first last =
    GivenSpan s.first_regular s.last_regular s.stub on (first_day_of s) (termination_of s) first last

-- ---- the two ends of the term at which a stub may be: back from the anchor to the start, or ahead to the end

-- the number of the grid day that lies n steps from the anchor
abbrev pub steps : Way → ℕ → ℤ
steps Back n = pos 0 -ℤ pos n
steps Ahead n = pos n

-- the day doesn't pass the bound
abbrev pub Within : Way → ℤ → ℤ → Type 0
Within Back bound d = bound ≤ℤ d
Within Ahead bound d = d ≤ℤ bound

-- the end of the regular span before a short stub that reaches to the bound
abbrev pub ShortEnd : Way → (ℤ → Type 0) → ℤ → ℤ → Type 0
ShortEnd Back on bound r = FirstFrom on bound r
ShortEnd Ahead on bound r = LastUpTo on bound r

-- the end of the regular span before a long stub, the anchor being the other end of the term
abbrev pub LongEnd : Way → (ℤ → Type 0) → ℤ → ℤ → ℤ → Type 0
LongEnd Back on anchor bound r = LongFirst on bound anchor r
LongEnd Ahead on anchor bound r = LongLast on anchor bound r

-- ---- days of a grid in the order of their numbers, as lists

-- the n days of the grid f from the number `start` on
abbrev pub days_from : (ℤ → ℤ) → ℤ → ℕ → List ℤ
days_from f start zero = []
days_from f start (suc n) = days_from f start n ++ f (start +ℤ pos n) ∷ []

-- the day alone where a comes before b, else no day
abbrev pub where_before : ℤ → ℤ → ℤ → List ℤ
where_before a b d = if is_lt (int_cmp a b) then d ∷ [] else []

-- the start of the first period where it comes before the regular span, then the n + 1 grid days of the span. The
-- termination date follows where it comes after the span
abbrev pub all_boundaries : (ℤ → ℤ) → ℤ → ℕ → ℤ → ℤ → ℤ → ℤ → List ℤ
all_boundaries f start n begin termination first last =
    (where_before begin first begin ++ days_from f start (n + 1)) ++ where_before last termination termination

-- the same for a stream and its span
abbrev pub boundaries_on : (ℤ → ℤ) → ℤ → ℕ → Stream → Span → List ℤ
boundaries_on f start n s span = all_boundaries f start n (first_day_of s) (termination_of s) span.first span.last

-- ---- the adjusted boundaries of a stream, and the rules that they keep: each boundary has an adjusted day (K33), and
-- the adjusted days rise (K34)

-- the boundary with the number i has an adjusted day, and each boundary has one
abbrev pub HasResult : Stream → BoundaryDays → List ℤ → ℕ → Type 0
HasResult s sets b i = (r : ℤ) × AdjustsAt s sets (last_of b) i (day_at b i) r

-- each boundary has an adjusted day
abbrev pub EachHasResult : Stream → BoundaryDays → List ℤ → Type 0
EachHasResult s sets b = (i : ℕ) → i < length b → HasResult s sets b i

-- each boundary after boundary 0 has one
abbrev pub EachLaterHasResult : Stream → BoundaryDays → List ℤ → Type 0
EachLaterHasResult s sets b = (i : ℕ) → 0 < i → i < length b → HasResult s sets b i

-- boundary j is named before boundary i
abbrev pub named_before : Stream → ℕ → ℕ → ℕ → Bool
named_before s last j i = comes_before (no_result_at s last j) (no_result_at s last i)

-- the first boundary, in the order of the names, that has no adjusted day
abbrev pub FirstNoResult : Stream → BoundaryDays → List ℤ → ℕ → Type 0
FirstNoResult s sets b = First (named_before s (last_of b)) (NoResult s sets b)

-- the same among the boundaries after boundary 0
abbrev pub LaterNoResult : Stream → BoundaryDays → List ℤ → ℕ → Type 0
LaterNoResult s sets b i = (0 < i) × NoResult s sets b i

-- the first boundary without an adjusted day, in the order in which elements are named
abbrev pub FirstLaterNoResult : Stream → BoundaryDays → List ℤ → ℕ → Type 0
FirstLaterNoResult s sets b = First (named_before s (last_of b)) (LaterNoResult s sets b)

-- the first day that isn't after the one before it
abbrev pub FirstNotAfter : List ℤ → ℕ → Type 0
FirstNotAfter a = First nat_lt (NotAfter a)
