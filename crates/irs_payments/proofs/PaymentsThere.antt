-- A rule of a stream's payments is the first that is broken, or none is and there are payments.
use Rattle.std.proofs.Common.{◌≡◌, ◌⊎◌, inl, inr, ℕ, zero, suc, ◌<◌, ◌≤◌, List, length, ℤ, refl, arith}
use Rattle.std.proofs.lemmas.Bool.{cases_lt}
use Rattle.irs_base.specs.Lists.{AreDays, RunsFromTo, day_at}
use Rattle.irs_terms.specs.Elements.{payment_dates}
use Rattle.irs_base.specs.Outcomes.{First}
use Rattle.irs_terms.specs.Faults.{fault_at, comes_before}
use Rattle.irs_base.specs.Private.Order.{IsDecided}
use Rattle.irs_terms.specs.declared.places.Rule.TheVariants.{K33, K38}
use Rattle.irs_terms.specs.declared.places.Fault.{Fault}
use Rattle.irs_base.proofs.DayListLemmas.{day_at_day}
use Rattle.irs_terms.proofs.FaultOrder.{one_fault}
use Rattle.irs_terms.specs.Centers.{IsSaid}
use Rattle.irs_terms.specs.TermDates.{first_day_of}
use Rattle.irs_terms.specs.Lawful.{IsLawfulStream}
use Rattle.irs_terms.specs.declared.dates.PayTerms.{PayTerms}
use Rattle.irs_terms.specs.declared.results.Payment.{Payment}
use Rattle.irs_terms.specs.declared.stream.Stream.{Stream}
use Rattle.irs_calendar.specs.GoodDays.{DaySet}
use Rattle.irs_adjust.proofs.FoundDays.{InRange}
use Rattle.irs_adjust.proofs.MoveLaws.{DateOrFailure, date_in_range, date_not_lacking, date_or_failure, one_failure}
use Rattle.irs_payments.specs.Private.Dating.{AreCuts, NoneLacks, NoneLeaves, LacksFirst, LeavesFirst, date_place}
use Rattle.irs_payments.proofs.DateLemmas.{lacks_first, leaves_first}
use Rattle.irs_payments.specs.Payments.{BreaksGrouping, IsPaymentDate, PaymentLacksResult, PaymentLeavesRange}
use Rattle.irs_payments.specs.Payments.{ArePayments, BreaksPaymentDate, BreaksPayments}
use Rattle.irs_payments.proofs.CutsThere.{cuts_there, paid_there}
use Rattle.irs_payments.proofs.FirstFaults.{FirstOrNone, first_of_both}
use Rattle.irs_payments.proofs.GroupingLemmas.{grouping_decided}
use Rattle.irs_payments.proofs.PaymentLemmas.{cuts_places, dates_late, payments_are, payments_first, payments_unbroken}
use Rattle.irs_payments.proofs.PaymentLemmas.{some_cuts}

-- ---- the date of one payment

-- a start has a payment date, or it lacks a result, or leaves the range
abbrev DateOrFault : PayTerms → DaySet → ℤ → Type 0
DateOrFault pay set start = DateOrFailure pay.offset pay.adj.code set start

decides_lacks : (pay : PayTerms) (set : DaySet) (start : ℤ) → DateOrFault pay set start
    → IsDecided (PaymentLacksResult pay set start)
decides_lacks pay set start (inl date) = inr (date_not_lacking pay.offset pay.adj.code set start date.0 date.1)
decides_lacks pay set start (inr (inl lacks)) = inl lacks
decides_lacks pay set start (inr (inr leaves)) = inr (one_failure pay.offset pay.adj.code set start leaves)

decides_leaves : (pay : PayTerms) (set : DaySet) (start : ℤ) → DateOrFault pay set start
    → IsDecided (PaymentLeavesRange pay set start)
decides_leaves pay set start (inl date) = inr (date_in_range pay.offset pay.adj.code set start date.0 date.1)
decides_leaves pay set start (inr (inl lacks)) =
    inr (λ leaves. one_failure pay.offset pay.adj.code set start leaves lacks)
decides_leaves pay set start (inr (inr leaves)) = inl leaves

date_there : (pay : PayTerms) (set : DaySet) (start : ℤ) → DateOrFault pay set start → (PaymentLacksResult pay set start → ⊥)
    → (PaymentLeavesRange pay set start → ⊥) → (r : ℤ) × IsPaymentDate pay set start r
date_there pay set start (inl date) lacks leaves = date
date_there pay set start (inr (inl fault)) lacks leaves = absurd (lacks fault)
date_there pay set start (inr (inr fault)) lacks leaves = absurd (leaves fault)

-- ---- the first number below a limit that has P

-- no number from 1 below the limit has P
abbrev NoNumber : (ℕ → Type 0) → ℕ → Type 0
NoNumber P limit = (j : ℕ) → 1 ≤ j → j < limit → P j → ⊥

-- the first number from 1 below the limit that has P
record FirstNumber (P : ℕ → Type 0) (limit : ℕ) : Type 0 where
  number : ℕ
  from_one : 1 ≤ number
  below : number < limit
  holds : P number
  none_before : NoNumber P number

no_more : (P : ℕ → Type 0) (n : ℕ) → NoNumber P n → (P n → ⊥) → NoNumber P (suc n)
no_more P n none here j low high holds = elim (cases_lt j n) [
  | inl less ↦ none j low less holds
  | inr more ↦ let same : j ≡ n = omega (arith, high) in here (rw (← same) holds)
]

first_number : (P : ℕ → Type 0) → ((j : ℕ) → IsDecided (P j)) → (limit : ℕ) → FirstNumber P limit ⊎ NoNumber P limit
first_number P decided zero = inr (λ j low high holds. omega (arith, low, high))
first_number P decided (suc zero) = inr (λ j low high holds. omega (arith, low, high))
first_number P decided (suc (suc n)) = elim (first_number P decided (suc n)) [
  | inl found ↦
      inl (record {
        number = found.number;
        from_one = found.from_one;
        below = omega (arith, found.below);
        holds =
            found.holds;
        none_before = found.none_before;
      })
  | inr none ↦ elim (decided (suc n)) [
    | inl holds ↦
        inl (record { number = suc n; from_one = omega arith; below = omega arith; holds = holds; none_before = none })
    | inr not ↦ inr (no_more P (suc n) none not)
  ]
]

-- ---- the payments at the places

-- the first date that breaks a rule, or the payments, none of whose dates breaks one
abbrev DatesFound : Stream → DaySet → List ℤ → List ℤ → Type 0
DatesFound s set b a =
    ((f : Fault) × First comes_before (BreaksPaymentDate s set b a) f) ⊎
    (((ps : List Payment) × ArePayments s set b a ps) × ((f : Fault) → BreaksPaymentDate s set b a f → ⊥))

module _ (s : Stream) (set : DaySet) (b a : List ℤ) (cuts : List ℕ)
    (run : RunsFromTo (first_day_of s) s.termination.day b) (are : AreCuts s b (length b) cuts)
    (long : length a ≡ length b) (each : (j : ℕ) → DateOrFault s.pay set (day_at a (date_place s cuts j))) where
  lacking : FirstNumber (λ j. PaymentLacksResult s.pay set (day_at a (date_place s cuts j))) (length cuts)
      → DatesFound s set b a
  lacking h =
      let first : LacksFirst s set a cuts h.number =
      lacks_first s set a cuts h.number (record { from_one = h.from_one; below = h.below; lacks = h.holds })
      h.none_before in
      inl (
        fault_at K33 payment_dates h.number,
        payments_first s set b a cuts run are h.number (fault_at K33 payment_dates h.number) (inl (first, refl)),
      )

  leaving : NoneLacks s set a cuts (length cuts)
      → FirstNumber (λ j. PaymentLeavesRange s.pay set (day_at a (date_place s cuts j))) (length cuts) → DatesFound s set b a
  leaving results h =
      let first : LeavesFirst s set a cuts (length cuts) h.number =
      leaves_first s set a cuts (length cuts) h.number
      (record { from_one = h.from_one; below = h.below; leaves = h.holds }) h.none_before in
      inl (
        fault_at K38 payment_dates h.number,
        payments_first s set b a cuts run are h.number (fault_at K38 payment_dates h.number)
            (inr (record { results = results; first = first }, refl)),
      )

  all_dated : NoneLacks s set a cuts (length cuts) → NoneLeaves s set a cuts (length cuts) → DatesFound s set b a
  all_dated lacks leaves =
      let start : ℕ → ℤ = λ j. day_at a (date_place s cuts j) in
      let paid = paid_there s set b a cuts (cuts_places s b cuts run are)
      (λ j low high. date_there s.pay set (start j) (each j) (lacks j low high) (leaves j low high))
      (some_cuts s b cuts are) in
      inr (
        (paid.0, payments_are s set b a cuts run are long paid.0 paid.1),
        payments_unbroken s set b a cuts run are lacks leaves,
      )

  dates_found : DatesFound s set b a
  dates_found =
      elim (first_number (λ j. PaymentLacksResult s.pay set (day_at a (date_place s cuts j)))
      (λ j. decides_lacks s.pay set (day_at a (date_place s cuts j)) (each j)) (length cuts)) [
        | inl lacks ↦ lacking lacks
        | inr results ↦
            elim (first_number (λ j. PaymentLeavesRange s.pay set (day_at a (date_place s cuts j)))
            (λ j. decides_leaves s.pay set (day_at a (date_place s cuts j)) (each j)) (length cuts)) [
              | inl leaves ↦ leaving results leaves
              | inr range ↦ all_dated results range
            ]
      ]

-- ---- the payments of a stream

-- what payments are worked out over: the terms, the boundaries, the adjusted boundaries and the business days
pub record ArePayable (s : Stream) (set : DaySet) (b a : List ℤ) : Type 0 where
  pub lawful : IsLawfulStream s
  pub said : IsSaid s.pay.offset
  pub run : RunsFromTo (first_day_of s) s.termination.day b
  pub same_length : length a ≡ length b
  pub days : AreDays b
  pub adjusted : AreDays a
  pub range : InRange set

module _ (s : Stream) (set : DaySet) (b a : List ℤ) (over : ArePayable s set b a) where
  stream_dates : DatesFound s set b a
  stream_dates =
      let cuts = cuts_there s b over.lawful over.run over.days in
      dates_found s set b a cuts.0 over.run cuts.1 over.same_length
      (λ j. date_or_failure s.pay.offset s.pay.adj.code set (day_at a (date_place s cuts.0 j))
      (day_at_day a (date_place s cuts.0 j) over.adjusted) over.range over.said)

  dates_decided : FirstOrNone (BreaksPaymentDate s set b a)
  dates_decided = elim stream_dates [ inl first ↦ inl first | inr found ↦ inr found.1 ]

  -- a rule is the first that is broken, or none is broken
  pub payments_decided : FirstOrNone (BreaksPayments s set b a)
  payments_decided =
      first_of_both (BreaksGrouping s b) (BreaksPaymentDate s set b a) (dates_late s set b a)
      (grouping_decided s b over.lawful over.days) dates_decided

  -- where none is broken there are payments
  pub payments_there : ((f : Fault) → BreaksPayments s set b a f → ⊥) → (ps : List Payment) × ArePayments s set b a ps
  payments_there kept = elim stream_dates [
    | inl first ↦ absurd (kept first.0 (inr first.1.0))
    | inr found ↦ found.0
  ]

-- at most one rule is the first that is broken
pub one_payments_rule : (s : Stream) (set : DaySet) (b a : List ℤ) (f g : Fault)
    → First comes_before (BreaksPayments s set b a) f → First comes_before (BreaksPayments s set b a) g → f ≡ g
one_payments_rule s set b a = one_fault (BreaksPayments s set b a)
