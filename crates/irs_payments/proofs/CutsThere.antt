-- The places at which payment periods end are there, and payments by them where each has a date.
use Rattle.std.proofs.Common.{◌≡◌, inl, inr, ⊎_elim, ℕ, zero, suc, ◌+◌, ◌-◌, ◌<◌, ◌≤◌, Bool, true, false, List, [], ◌∷◌}
use Rattle.std.proofs.Common.{◌++◌, length, Option, Some, None, IfSome, Ok, ℤ, ◌≤ℤ◌, refl, subst, arith}
use Rattle.irs_base.specs.Days.{IsDay}
use Rattle.irs_base.proofs.DayListLemmas.{day_at_day}
use Rattle.irs_base.specs.Lists.{AreDays, day_at, RunsFromTo}
use Rattle.irs_terms.specs.Lawful.{IsLawfulStream}
use Rattle.irs_terms.specs.declared.results.Payment.{Payment}
use Rattle.irs_terms.specs.declared.stream.Stream.{Stream}
use Rattle.irs_calendar.specs.GoodDays.{DaySet}
use Rattle.irs_roll.specs.Rolls.{OnGrid}
use Rattle.irs_payments.specs.Private.Dating.{AreCuts, EndsAt, cut_at, ArePaid, IsCutPayment, date_place, ArePlaces}
use Rattle.irs_payments.specs.Payments.{EndsPayment, IsRegularPay, payment_anchor_by, pay_anchor, IsPaymentDate}
use Rattle.irs_payments.proofs.CutLemmas.{no_cuts, pass_cut, take_cut}
use Rattle.irs_payments.proofs.DateLemmas.{dated_more, none_dated}
use Rattle.irs_payments.proofs.PlaceLemmas.{place_of}
use Rattle.irs_adjust.proofs.FoundDays.{decides_le}
use Rattle.irs_terms.specs.TermDates.{first_day_of, same_length}
use Rattle.irs_base.specs.Private.Order.{IsDecided}
use Rattle.irs_roll.proofs.GridsDecided.{decides_on_grid}
use Rattle.irs_base.proofs.Decided.{decides_same}
use Rattle.irs_terms.proofs.FirstDays.{first_day_is_day}

anchor_by_day : (first : Option ℤ) (each : Bool) (one e : ℤ) → IfSome first IsDay → IsDay one → IsDay e
    → IsDay (payment_anchor_by first each one e)
anchor_by_day (Some first) each one e given is_one is_e = given
anchor_by_day None true one e given is_one is_e = is_one
anchor_by_day None false one e given is_one is_e = is_e

-- the payment anchor is a day in range
pub pay_anchor_day : (s : Stream) (b : List ℤ) → IsLawfulStream s → AreDays b → IsDay (pay_anchor s b)
pay_anchor_day s b lawful days =
    anchor_by_day s.pay.first (same_length s.pay.freq s.freq) (day_at b 1) (first_day_of s) lawful.pay.first
    (day_at_day b 1 days) (first_day_is_day s lawful)

-- a day ends a payment period, or it doesn't

decides_from : (given : Option ℤ) (d : ℤ) → IsDecided (IfSome given (λ first. first ≤ℤ d))
decides_from None d = inl tt
decides_from (Some first) d = decides_le first d

decides_to : (given : Option ℤ) (d : ℤ) → IsDecided (IfSome given (λ last. d ≤ℤ last))
decides_to None d = inl tt
decides_to (Some last) d = decides_le d last

decides_regular : (s : Stream) (anchor d : ℤ) → IsDecided (OnGrid s.pay.freq s.roll anchor d)
    → IsDecided (IsRegularPay s anchor d)
decides_regular s anchor d (inr off) = inr (λ h. off h.on_grid)
decides_regular s anchor d (inl on) = elim (decides_from s.pay.first d) [
  | inr early ↦ inr (λ h. early h.from_first)
  | inl from ↦ elim (decides_to s.pay.last d) [
    | inr late ↦ inr (λ h. late h.to_last)
    | inl to ↦ inl (record { on_grid = on; from_first = from; to_last = to })
  ]
]

decides_ends : (s : Stream) (anchor d : ℤ) → IsDecided (OnGrid s.pay.freq s.roll anchor d)
    → IsDecided (EndsPayment s anchor d)
decides_ends s anchor d grid = elim (decides_same d s.termination.day) [
  | inl last ↦ inl (inl last)
  | inr before ↦ elim (decides_regular s anchor d grid) [
    | inl regular ↦ inl (inr regular)
    | inr not ↦ inr (λ h. ⊎_elim before not h)
  ]
]

-- the places at which payment periods end
module _ (s : Stream) (b : List ℤ) (lawful : IsLawfulStream s) (run : RunsFromTo (first_day_of s) s.termination.day b)
    (days : AreDays b) where
  decides_ends_at : (i : ℕ) → IsDecided (EndsAt s b i)
  decides_ends_at i =
      decides_ends s (pay_anchor s b) (day_at b i)
      (decides_on_grid s.pay.freq s.roll (pay_anchor s b) (day_at b i) lawful.pay.freq lawful.roll
      (pay_anchor_day s b lawful days) (day_at_day b i days))

  cuts_below : (n : ℕ) → suc n ≤ length b → (cuts : List ℕ) × AreCuts s b (suc n) cuts
  cuts_below zero h = (0 ∷ [], no_cuts s b)
  cuts_below (suc n) h =
      let before = cuts_below n (omega (arith, h)) in
      let one : suc n + 1 ≡ suc (suc n) = omega arith in
      elim (decides_ends_at (suc n)) [
        | inl ends ↦ (
          before.0 ++ suc n ∷ [],
          subst (λ (k : ℕ). AreCuts s b k (before.0 ++ suc n ∷ [])) one
              (take_cut s b (suc n) before.0 run.rising (omega arith) (omega (arith, h)) before.1 ends),
        )
        | inr not ↦ (
          before.0,
          subst (λ (k : ℕ). AreCuts s b k before.0) one (pass_cut s b (suc n) before.0 before.1 not),
        )
      ]

  -- the places of the payment boundaries are there
  pub cuts_there : (cuts : List ℕ) × AreCuts s b (length b) cuts
  cuts_there =
      let p = place_of (first_day_of s) b run.starts in
      let all : suc (length b - 1) ≡ length b = omega (arith, p.1) in
      let found = cuts_below (length b - 1) (omega (arith, p.1)) in
      (found.0, subst (λ (k : ℕ). AreCuts s b k found.0) all found.1)

-- where each payment has a date, the payments are there
module _ (s : Stream) (set : DaySet) (b a : List ℤ) (cuts : List ℕ) (places : ArePlaces b cuts) (dates : (j : ℕ) → 1 ≤ j
    → j < length cuts → (r : ℤ) × IsPaymentDate s.pay set (day_at a (date_place s cuts j)) r) where
  -- payment j with this adjusted date
  abbrev payment_at : ℕ → ℤ → Payment
  payment_at j r =
      record {
        unadjusted = day_at b (date_place s cuts j);
        adjusted = r;
        first_period =
            cut_at cuts (j - 1) + 1;
        last_period = cut_at cuts j;
      }

  is_payment_at : (j : ℕ) (r : ℤ) → IsPaymentDate s.pay set (day_at a (date_place s cuts j)) r
      → IsCutPayment s set b a cuts j (payment_at j r)
  is_payment_at j r date = record { first = refl; last = refl; unadjusted = refl; date = date }

  paid_below : (n : ℕ) → suc n ≤ length cuts → (ps : List Payment) × ArePaid s set b a cuts (suc n) ps
  paid_below zero h = ([], none_dated s set b a cuts places)
  paid_below (suc n) h =
      let before = paid_below n (omega (arith, h)) in
      let one : suc n + 1 ≡ suc (suc n) = omega arith in
      let date = dates (suc n) (omega arith) (omega (arith, h)) in
      let p : Payment = payment_at (suc n) date.0 in
      let more = dated_more s set b a cuts (suc n) places (omega arith) (omega (arith, h)) (Ok p) None before.0
      (before.0 ++ p ∷ []) None (is_payment_at (suc n) date.0 date.1) before.1 (refl, refl) in
      (before.0 ++ p ∷ [], subst (λ (k : ℕ). ArePaid s set b a cuts k (before.0 ++ p ∷ [])) one more)

  -- where each date has a result, the payments are there
  pub paid_there : 0 < length cuts → (ps : List Payment) × ArePaid s set b a cuts (length cuts) ps
  paid_there some =
      let all : suc (length cuts - 1) ≡ length cuts = omega (arith, some) in
      let found = paid_below (length cuts - 1) (omega (arith, some)) in
      (found.0, subst (λ (k : ℕ). ArePaid s set b a cuts k found.0) all found.1)
