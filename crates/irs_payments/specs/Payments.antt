-- The payments of a stream, and what the calls answer.
use Rattle.std.specs.Prelude.{ℤ, ◌≡◌, ◌⊎◌, Bool, List, ◌∷◌, Option, Some, None, IfSome, if◌then◌else◌, ◌≤ℤ◌, ◌<ℤ◌, ◌↔◌}
use Rattle.std.specs.Prelude.{ℕ, ◌+◌, ◌-◌, ◌<◌, ◌≤◌, length}
use Rattle.irs_base.specs.Lists.{Member, Lists, day_at, CoverNumbers, EachNumbered}
use Rattle.irs_terms.specs.Elements.{first_payment_date, last_regular_payment_date, payment_dates}
use Rattle.irs_terms.specs.declared.places.Rule.TheVariants.{K35, K33, K38}
use Rattle.irs_terms.specs.declared.places.Fault.{Fault}
use Rattle.irs_base.specs.Outcomes.{Spec, unbroken, unless_broken}
use Rattle.irs_terms.specs.Faults.{fault_at, comes_before}
use Rattle.irs_terms.specs.declared.dates.PayTerms.{PayTerms}
use Rattle.irs_terms.specs.TermDates.{first_day_of, same_length}
use Rattle.irs_terms.specs.declared.stream.Stream.{Stream}
use Rattle.irs_terms.specs.declared.codes.Relative.{Relative}
use Rattle.irs_terms.specs.declared.codes.Relative.TheVariants.{Start, End}
use Rattle.irs_terms.specs.declared.results.Payment.{Payment}
use Rattle.irs_terms.specs.declared.results.Exchange.{Exchange}
use Rattle.irs_calendar.specs.GoodDays.{DaySet}
use Rattle.irs_adjust.specs.MovedDays.{MovesAndAdjusts, LacksResult as MoveLacks, LeavesRange as MoveLeaves}
use Rattle.irs_roll.specs.Rolls.{OnGrid}
use Rattle.irs_payments.specs.Exchanges.{AreExchanges, BreaksExchanges, BreaksSteps}

-- ---- payment dates: a start moved by the offset and then adjusted, and how that breaks K33 and K38

-- r is the start moved by paymentDaysOffset, and then adjusted by paymentDatesAdjustments
abbrev pub IsPaymentDate : PayTerms → DaySet → ℤ → ℤ → Type 0
IsPaymentDate pay set start r = MovesAndAdjusts pay.offset pay.adj.code set start r

-- no result of the Business offset or of the adjustment, as K33 has it
abbrev pub PaymentLacksResult : PayTerms → DaySet → ℤ → Type 0
PaymentLacksResult pay set start = MoveLacks pay.offset pay.adj.code set start

-- the Calendar offset leaves the range of dates, as K38 has it
abbrev pub PaymentLeavesRange : PayTerms → DaySet → ℤ → Type 0
PaymentLeavesRange pay set start = MoveLeaves pay.offset set start

-- ---- how payments group calculation periods: the payment boundaries, and K35
-- Boundaries are those of the calculation periods, numbered from 0. The first day is that of the first calculation
-- period, which may begin before the effective date.

-- the first payment date if it is given; else boundary 1 if a payment is due for each period;
-- else the first day
abbrev pub payment_anchor_by : Option ℤ → Bool → ℤ → ℤ → ℤ
payment_anchor_by (Some first) each one first_day = first
payment_anchor_by None each one first_day = if each then one else first_day

-- the payment anchor; it need not be a roll day
abbrev pub pay_anchor : Stream → List ℤ → ℤ
pay_anchor s boundaries = payment_anchor_by s.pay.first (same_length s.pay.freq s.freq) (day_at boundaries 1) (first_day_of s)

-- the day is on the grid of the payment frequency and the stream's roll from the payment anchor. It is not before
-- firstPaymentDate and not after lastRegularPaymentDate. The term has no grid
pub record IsRegularPay (s : Stream) (anchor d : ℤ) : Type 0 where
  pub on_grid : OnGrid s.pay.freq s.roll anchor d
  pub from_first : IfSome s.pay.first (λ first. first ≤ℤ d)
  pub to_last : IfSome s.pay.last (λ last. d ≤ℤ last)

-- the day is the termination date or a regular payment boundary
abbrev pub EndsPayment : Stream → ℤ → ℤ → Type 0
EndsPayment s anchor d = (d ≡ s.termination.day) ⊎ IsRegularPay s anchor d

-- a payment boundary: a boundary after the first day that ends a payment period
pub record IsPay (s : Stream) (boundaries : List ℤ) (d : ℤ) : Type 0 where
  pub boundary : Member d boundaries
  pub after : first_day_of s <ℤ d
  pub is : EndsPayment s (pay_anchor s boundaries) d

-- the payment boundaries in order, with the first day in front as place 0
pub record PayList (s : Stream) (boundaries pay : List ℤ) : Type 0 where
  pub later : List ℤ
  pub from_first_day : pay ≡ first_day_of s ∷ later
  pub listed : Lists (IsPay s boundaries) later

-- the given firstPaymentDate is no boundary after the first day
pub record IsBadFirst (s : Stream) (boundaries : List ℤ) : Type 0 where
  pub first : ℤ
  pub given : s.pay.first ≡ Some first
  pub off : Member first boundaries × (first_day_of s <ℤ first) → ⊥

-- the given lastRegularPaymentDate isn't the termination date, and no boundary on the payment grid
pub record IsBadLast (s : Stream) (boundaries : List ℤ) : Type 0 where
  pub last : ℤ
  pub given : s.pay.last ≡ Some last
  pub early : last ≡ s.termination.day → ⊥
  pub off : Member last boundaries × OnGrid s.pay.freq s.roll (pay_anchor s boundaries) last → ⊥

-- K35 is broken at firstPaymentDate
abbrev pub BreaksFirst : Stream → List ℤ → Fault → Type 0
BreaksFirst s boundaries f = IsBadFirst s boundaries × (f ≡ fault_at K35 first_payment_date 0)

-- K35 is broken at lastRegularPaymentDate
abbrev pub BreaksLast : Stream → List ℤ → Fault → Type 0
BreaksLast s boundaries f = IsBadLast s boundaries × (f ≡ fault_at K35 last_regular_payment_date 0)

-- K35 is broken, at the element of that date
abbrev pub BreaksGrouping : Stream → List ℤ → Fault → Type 0
BreaksGrouping s boundaries f = BreaksFirst s boundaries f ⊎ BreaksLast s boundaries f

-- ---- the payments of a stream, over the boundaries of its calculation periods and the adjusted ones

-- the place among the payment boundaries of the unadjusted date of payment j: the payment period's
-- end, or its start under CalculationPeriodStartDate
abbrev pub pay_place : Relative → ℕ → ℕ
pay_place Start j = j - 1
pay_place End j = j

-- the payment covers exactly the calculation periods that end after the payment boundary before it and not after its
-- own. They are numbered from first to last, and there is at least one
pub record CoversPeriods (boundaries : List ℤ) (before own : ℤ) (first last : ℕ) : Type 0 where
  pub from_one : 1 ≤ first
  pub some : first ≤ last
  pub to_end : last < length boundaries
  pub each : (i : ℕ) → 1 ≤ i → i < length boundaries →
      ((first ≤ i) × (i ≤ last)) ↔ ((before <ℤ day_at boundaries i) × (day_at boundaries i ≤ℤ own))

-- the adjusted boundary at the place of this boundary is the start
pub record StartsAt (boundaries adjusted : List ℤ) (d start : ℤ) : Type 0 where
  pub place : ℕ
  pub within : place < length boundaries
  pub at : day_at boundaries place ≡ d
  pub is : day_at adjusted place ≡ start

-- p is payment j
pub record IsPayment (s : Stream) (set : DaySet) (boundaries adjusted pay : List ℤ) (j : ℕ) (p : Payment) : Type 0 where
  pub covers : CoversPeriods boundaries (day_at pay (j - 1)) (day_at pay j) p.first_period p.last_period
  pub unadjusted : p.unadjusted ≡ day_at pay (pay_place s.pay.relative j)
  pub start : ℤ
  pub starts : StartsAt boundaries adjusted p.unadjusted start
  pub date : IsPaymentDate s.pay set start p.adjusted

-- the payments of the stream, one for each payment boundary after the first day
pub record ArePayments (s : Stream) (set : DaySet) (boundaries adjusted : List ℤ)
    (payments : List Payment) : Type 0 where
  pub same_length : length adjusted ≡ length boundaries
  pub pay : List ℤ
  pub listed : PayList s boundaries pay
  pub count : length payments + 1 ≡ length pay
  pub each : EachNumbered (IsPayment s set boundaries adjusted pay) 1 payments

-- the payments cover the periods from `next` to `last`, one after the other, each at least one
abbrev pub Covers : ℕ → List Payment → ℕ → Type 0
Covers next payments last =
    CoverNumbers (λ (p : Payment). p.first_period) (λ (p : Payment). p.last_period) next payments last

-- the date of payment j is to be worked out from this start
pub record PaysFrom (s : Stream) (boundaries adjusted : List ℤ) (j : ℕ) (start : ℤ) : Type 0 where
  pub pay : List ℤ
  pub listed : PayList s boundaries pay
  pub from_one : 1 ≤ j
  pub within : j < length pay
  pub starts : StartsAt boundaries adjusted (day_at pay (pay_place s.pay.relative j)) start

-- the date of payment j lacks a result
pub record IsLacking (s : Stream) (set : DaySet) (boundaries adjusted : List ℤ) (j : ℕ) : Type 0 where
  pub start : ℤ
  pub pays : PaysFrom s boundaries adjusted j start
  pub lacks : PaymentLacksResult s.pay set start

-- the date of payment j leaves the range of dates
pub record IsLeaving (s : Stream) (set : DaySet) (boundaries adjusted : List ℤ) (j : ℕ) : Type 0 where
  pub start : ℤ
  pub pays : PaysFrom s boundaries adjusted j start
  pub leaves : PaymentLeavesRange s.pay set start

-- K33 of payment j is broken
abbrev pub BreaksResult : Stream → DaySet → List ℤ → List ℤ → ℕ → Fault → Type 0
BreaksResult s set boundaries adjusted j f = IsLacking s set boundaries adjusted j × (f ≡ fault_at K33 payment_dates j)

-- K38 of payment j is broken
abbrev pub BreaksRange : Stream → DaySet → List ℤ → List ℤ → ℕ → Fault → Type 0
BreaksRange s set boundaries adjusted j f = IsLeaving s set boundaries adjusted j × (f ≡ fault_at K38 payment_dates j)

-- K33 or K38 of a payment date is broken; the index is the payment's number
pub record BreaksPaymentDate (s : Stream) (set : DaySet) (boundaries adjusted : List ℤ) (f : Fault) : Type 0 where
  pub number : ℕ
  pub breaks : BreaksResult s set boundaries adjusted number f ⊎ BreaksRange s set boundaries adjusted number f

-- the rules that the payments of a stream break: K35, K33 and K38
abbrev pub BreaksPayments : Stream → DaySet → List ℤ → List ℤ → Fault → Type 0
BreaksPayments s set boundaries adjusted f = BreaksGrouping s boundaries f ⊎ BreaksPaymentDate s set boundaries adjusted f

-- ---- what the calls of this crate answer, and what they refuse

-- the payments over the boundaries and the adjusted ones, or the first of K35, K33 and K38 that is broken
abbrev pub payments_of : Stream → DaySet → List ℤ → List ℤ → Spec (List Payment) Fault
payments_of s set boundaries adjusted =
    unless_broken comes_before (BreaksPayments s set boundaries adjusted) (ArePayments s set boundaries adjusted)

-- the principal exchanges, or K33 of the first one whose date has no adjusted day
abbrev pub principals_of : Stream → DaySet → Spec (List Exchange) Fault
principals_of s set = unless_broken comes_before (BreaksExchanges s set) (AreExchanges s set)

-- the date of each step is a boundary, or K36 of the first step whose date is none
abbrev pub steps_of : Stream → List ℤ → Spec (Unit {0}) Fault
steps_of s boundaries = unbroken comes_before (BreaksSteps s boundaries)
