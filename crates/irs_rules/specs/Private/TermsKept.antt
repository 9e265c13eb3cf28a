-- Private: no public contract rests on this file.
-- Of private functions: the rules that a stream keeps, and their order.
use Rattle.std.specs.Prelude.{◌≡◌, None, Bool, Option, ℕ, List, Some, slice_get}
use Rattle.irs_terms.specs.declared.places.Fault.{Fault}
use Rattle.irs_base.specs.Outcomes.{IsFirst}
use Rattle.irs_terms.specs.Faults.{in_stream, is_before_in}
use Rattle.irs_terms.specs.declared.stream.Stream.{Stream}
use Rattle.irs_terms.specs.declared.stream_list.Swap.{Swap}
use Rattle.irs_calendar.specs.declared.sections.Section.{Section}
use Rattle.irs_rules.specs.TermsRules.{TermsKept}

-- ---- K13 to K16
-- The dates of the term are in order, and frequencies suit each other and the roll. Regular payment dates are where
-- they may be.

-- the frequency counts once, and no regular date is given: what the term needs as the calculation frequency
abbrev pub IsTermAlone : Stream → Type 0
IsTermAlone s = (s.freq.count ≡ 1) × (s.first_regular ≡ None) × (s.last_regular ≡ None)

-- ---- the order of the rules that one stream breaks

-- in one stream, whichever it is: the lower rule, then the earlier element, then the lower index
abbrev pub is_before_here : Fault → Fault → Bool
is_before_here f g = is_before_in (in_stream 1 f) (in_stream 1 g)

-- the first rule of those that a stream breaks, and None where it breaks none
abbrev pub IsFirstHere : (Fault → Type 0) → Option Fault → Type 0
IsFirstHere Broken a = IsFirst is_before_here Broken a

-- ---- what a stream keeps that breaks no rule of the terms (K10 to K21, K47)

-- each stream of the swap keeps what its terms keep
abbrev pub AllKept : Swap → List Section → Type 0
AllKept swap cal = (i : ℕ) (s : Stream) → slice_get swap.streams i ≡ Some s → TermsKept cal s
