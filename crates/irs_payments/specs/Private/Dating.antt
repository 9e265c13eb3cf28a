-- Private: no public contract rests on this file.
-- Of private functions: payments and exchanges, worked out one after another.
use Rattle.std.specs.Prelude.{◌≡◌, ℕ, ◌<◌, ◌≤◌, List, [], ◌∷◌, slice_index_or, ℤ, ◌+◌, length, ◌⊎◌, ◌-◌, ◌++◌, Option}
use Rattle.std.specs.Prelude.{Some, None, Result, Ok, Err, nat_lt, drop, take, IfSome}
use Rattle.irs_base.specs.Lists.{Member, IsRising, day_at, EachNumbered, HoldsOf, Pairs}
use Rattle.irs_terms.specs.Elements.{payment_dates}
use Rattle.irs_base.specs.Outcomes.{First, Spec}
use Rattle.irs_terms.specs.Faults.{fault_at, comes_before}
use Rattle.irs_terms.specs.declared.places.Rule.TheVariants.{K33, K38}
use Rattle.irs_terms.specs.declared.places.Fault.{Fault}
use Rattle.irs_terms.specs.declared.stream.Stream.{Stream}
use Rattle.irs_terms.specs.declared.results.Payment.{Payment}
use Rattle.irs_calendar.specs.GoodDays.{DaySet}
use Rattle.irs_adjust.specs.declared.moved.NoDate.{NoDate}
use Rattle.irs_adjust.specs.declared.moved.NoDate.TheVariants.{NoResult, OutOfRange}
use Rattle.irs_payments.specs.Payments.{pay_anchor, EndsPayment, IsPaymentDate, PaymentLacksResult, PaymentLeavesRange}
use Rattle.irs_payments.specs.Payments.{pay_place, Covers}
use Rattle.irs_payments.specs.declared.exchanges.Transfer.{Transfer}
use Rattle.irs_payments.specs.Exchanges.{BreaksExchanges, IsExchange, LacksTransferDay, transfers_of}
use Rattle.irs_payments.specs.declared.exchanges.Listing.{Listing}

-- ---- of private functions: the places in the list of boundaries at which payment periods end

-- the days at these places
abbrev pub days_at : List ℤ → List ℕ → List ℤ
days_at boundaries [] = []
days_at boundaries (place ∷ places) = day_at boundaries place ∷ days_at boundaries places

-- P holds of each place
abbrev pub EachPlace : (ℕ → Type 0) → List ℕ → Type 0
EachPlace P [] = Unit {0}
EachPlace P (place ∷ places) = P place × EachPlace P places

-- a payment period ends at the boundary with this number
abbrev pub EndsAt : Stream → List ℤ → ℕ → Type 0
EndsAt s boundaries place = EndsPayment s (pay_anchor s boundaries) (day_at boundaries place)

-- a place after the first and below the limit, at which a payment period ends
pub record IsCut (s : Stream) (boundaries : List ℤ) (limit place : ℕ) : Type 0 where
  pub from_one : 1 ≤ place
  pub below : place < limit
  pub ends : EndsAt s boundaries place

-- place 0, and then the places below the limit at which payment periods end, in order
pub record AreCuts (s : Stream) (boundaries : List ℤ) (limit : ℕ) (cuts : List ℕ) : Type 0 where
  pub later : List ℕ
  pub from_zero : cuts ≡ 0 ∷ later
  pub rising : IsRising (days_at boundaries later)
  pub sound : EachPlace (IsCut s boundaries limit) later
  pub complete : (place : ℕ) → 1 ≤ place → place < limit → EndsAt s boundaries place →
      Member (day_at boundaries place) (days_at boundaries later)

-- the place of cut j
abbrev pub cut_at : List ℕ → ℕ → ℕ
cut_at cuts j = slice_index_or cuts j 0

-- ---- of private functions: rising places in a list

-- the places rise strictly from 0 and lie in the list
pub record ArePlaces (days : List ℤ) (places : List ℕ) : Type 0 where
  pub begins : cut_at places 0 ≡ 0
  pub rise : (j : ℕ) → j + 1 < length places → cut_at places j < cut_at places (j + 1)
  pub within : (j : ℕ) → j < length places → cut_at places j < length days

-- ---- of private functions: payments worked out one after another, from the places at which payment periods end

-- the place of the unadjusted date of payment j
abbrev pub date_place : Stream → List ℕ → ℕ → ℕ
date_place s cuts j = cut_at cuts (pay_place s.pay.relative j)

-- p is payment j, by the places at which payment periods end
pub record IsCutPayment (s : Stream) (set : DaySet) (boundaries adjusted : List ℤ) (cuts : List ℕ) (j : ℕ)
    (p : Payment) : Type 0 where
  pub first : p.first_period ≡ cut_at cuts (j - 1) + 1
  pub last : p.last_period ≡ cut_at cuts j
  pub unadjusted : p.unadjusted ≡ day_at boundaries (date_place s cuts j)
  pub date : IsPaymentDate s.pay set (day_at adjusted (date_place s cuts j)) p.adjusted

-- no payment before the limit lacks a result
abbrev pub NoneLacks : Stream → DaySet → List ℤ → List ℕ → ℕ → Type 0
NoneLacks s set adjusted cuts limit =
    (j : ℕ) → 1 ≤ j → j < limit → PaymentLacksResult s.pay set (day_at adjusted (date_place s cuts j)) → ⊥

-- no payment before the limit leaves the range
abbrev pub NoneLeaves : Stream → DaySet → List ℤ → List ℕ → ℕ → Type 0
NoneLeaves s set adjusted cuts limit =
    (j : ℕ) → 1 ≤ j → j < limit → PaymentLeavesRange s.pay set (day_at adjusted (date_place s cuts j)) → ⊥

-- the payments before the limit
pub record ArePaid (s : Stream) (set : DaySet) (boundaries adjusted : List ℤ) (cuts : List ℕ) (limit : ℕ)
    (payments : List Payment) : Type 0 where
  pub in_range : NoneLeaves s set adjusted cuts limit
  pub count : length payments + 1 ≡ limit
  pub each : EachNumbered (IsCutPayment s set boundaries adjusted cuts) 1 payments
  pub covers : Covers 1 payments (cut_at cuts (limit - 1))

-- payment j, one before the limit, leaves the range
pub record LeavesAt (s : Stream) (set : DaySet) (adjusted : List ℤ) (cuts : List ℕ) (limit j : ℕ) : Type 0 where
  pub from_one : 1 ≤ j
  pub below : j < limit
  pub leaves : PaymentLeavesRange s.pay set (day_at adjusted (date_place s cuts j))

-- payment n is the first before the limit that leaves the range
abbrev pub LeavesFirst : Stream → DaySet → List ℤ → List ℕ → ℕ → ℕ → Type 0
LeavesFirst s set adjusted cuts limit n = First nat_lt (LeavesAt s set adjusted cuts limit) n

-- the payments before the limit, or the first of them that leaves the range
abbrev pub Dated : Stream → DaySet → List ℤ → List ℤ → List ℕ → ℕ → Option ℕ → List Payment → Type 0
Dated s set boundaries adjusted cuts limit None payments = ArePaid s set boundaries adjusted cuts limit payments
Dated s set boundaries adjusted cuts limit (Some n) payments = LeavesFirst s set adjusted cuts limit n

-- the earlier payment that leaves the range, where there is one, else this one
abbrev pub earliest : Option ℕ → ℕ → Option ℕ
earliest None n = Some n
earliest (Some m) n = Some m

-- the payments, and the first that leaves the range, after payment n
abbrev pub Settles : Result Payment NoDate → Option ℕ → ℕ → List Payment → List Payment → Option ℕ → Type 0
Settles (Ok p) beyond n old new after = (new ≡ old ++ p ∷ []) × (after ≡ beyond)
Settles (Err OutOfRange) beyond n old new after = (new ≡ old) × (after ≡ earliest beyond n)
Settles (Err NoResult) beyond n old new after = ⊥

-- what is worked out for payment j
abbrev pub IsOutcome : Stream → DaySet → List ℤ → List ℤ → List ℕ → ℕ → Result Payment NoDate → Type 0
IsOutcome s set boundaries adjusted cuts j (Ok p) = IsCutPayment s set boundaries adjusted cuts j p
IsOutcome s set boundaries adjusted cuts j (Err OutOfRange) =
    PaymentLeavesRange s.pay set (day_at adjusted (date_place s cuts j))
IsOutcome s set boundaries adjusted cuts j (Err NoResult) =
    PaymentLacksResult s.pay set (day_at adjusted (date_place s cuts j))

-- payment j lacks a result
pub record LacksAt (s : Stream) (set : DaySet) (adjusted : List ℤ) (cuts : List ℕ) (j : ℕ) : Type 0 where
  pub from_one : 1 ≤ j
  pub below : j < length cuts
  pub lacks : PaymentLacksResult s.pay set (day_at adjusted (date_place s cuts j))

-- payment n is the first that lacks a result
abbrev pub LacksFirst : Stream → DaySet → List ℤ → List ℕ → ℕ → Type 0
LacksFirst s set adjusted cuts n = First nat_lt (LacksAt s set adjusted cuts) n

-- none lacks a result, and payment n is the first that leaves the range
pub record OnlyLeaves (s : Stream) (set : DaySet) (adjusted : List ℤ) (cuts : List ℕ) (n : ℕ) : Type 0 where
  pub results : NoneLacks s set adjusted cuts (length cuts)
  pub first : LeavesFirst s set adjusted cuts (length cuts) n

-- K33 of the first payment that lacks a result; else K38 of the first one that leaves the range
abbrev pub IsDateFault : Stream → DaySet → List ℤ → List ℕ → ℕ → Fault → Type 0
IsDateFault s set adjusted cuts n f =
    (LacksFirst s set adjusted cuts n × (f ≡ fault_at K33 payment_dates n)) ⊎
    (OnlyLeaves s set adjusted cuts n × (f ≡ fault_at K38 payment_dates n))

-- the payments at the places, where no date breaks a rule; else the first date that breaks one
abbrev pub paid_at : Stream → DaySet → List ℤ → List ℤ → List ℕ → Spec (List Payment) Fault
paid_at s set boundaries adjusted cuts = record {
  Answers = λ ps. ArePaid s set boundaries adjusted cuts (length cuts) ps ×
      NoneLacks s set adjusted cuts (length cuts);
  Refuses = λ f. (n : ℕ) × IsDateFault s set adjusted cuts n f;
}

-- ---- what the payer pays on a date

-- the transfer alone, where there is one
abbrev pub listed_transfer : Option Transfer → List Transfer
listed_transfer None = []
listed_transfer (Some t) = t ∷ []

-- ---- of private functions: the exchanges listed in order, up to the first whose date has no adjusted day

-- the exchanges up to this number have adjusted days and are listed, and these are left
pub record ListsUpTo (s : Stream) (set : DaySet) (left : List Transfer) (l : Listing) : Type 0 where
  pub within : l.number ≤ length (transfers_of s)
  pub is_left : drop l.number (transfers_of s) ≡ left
  pub dated : (n : ℕ) → n ≤ l.number → HoldsOf (LacksTransferDay s set) (transfers_of s) n → ⊥
  pub listed : IfSome l.list (λ xs. Pairs (IsExchange s set) (take l.number (transfers_of s)) xs)

-- the exchanges listed up to those left, or K33 of the first one whose date has no adjusted day
abbrev pub listing_to : Stream → DaySet → List Transfer → Spec Listing Fault
listing_to s set left = record {
  Answers = ListsUpTo s set left;
  Refuses = First comes_before (BreaksExchanges s set);
}
