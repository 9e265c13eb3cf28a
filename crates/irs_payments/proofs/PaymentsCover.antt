-- The payments of a stream cover its calculation periods, one after the other.
use Rattle.std.proofs.Common.{◌≡◌, ℕ, ◌-◌, ◌<◌, ◌≤◌, List, ◌∷◌, length, ℤ, ◌<ℤ◌, sym, ◌∙◌, ap, subst}
use Rattle.std.proofs.Common.{arith}
use Rattle.irs_base.specs.Lists.{AreDays, Member, IsRising, RunsFromTo, day_at}
use Rattle.irs_terms.specs.Lawful.{IsLawfulStream}
use Rattle.irs_terms.specs.declared.results.Payment.{Payment}
use Rattle.irs_terms.specs.declared.stream.Stream.{Stream}
use Rattle.irs_calendar.specs.GoodDays.{DaySet}
use Rattle.irs_payments.specs.Private.Dating.{EachPlace, EndsAt, IsCut, cut_at, days_at, date_place}
use Rattle.irs_payments.specs.Payments.{IsPaymentDate, ArePayments, Covers, IsPayment, pay_place}
use Rattle.irs_payments.proofs.CutLemmas.{cut_places, length-pay, one_pay, pay_at}
use Rattle.irs_payments.proofs.PaymentLemmas.{cuts_places, one_payments, payments_are, payments_cover, place_low}
use Rattle.irs_payments.proofs.PaymentLemmas.{some_cuts}
use Rattle.irs_payments.proofs.PlaceLemmas.{place_same}
use Rattle.irs_payments.proofs.CutsThere.{cuts_there, paid_there}
use Rattle.irs_terms.specs.TermDates.{first_day_of}
use Rattle.irs_base.proofs.MemberLemmas.{numbered_has}

-- each payment has a date from the start at its place
module _ (s : Stream) (set : DaySet) (b a : List ℤ) (run : RunsFromTo (first_day_of s) s.termination.day b)
    (later : List ℕ) (rising : IsRising (days_at b later)) (sound : EachPlace (IsCut s b (length b)) later)
    (complete : (place : ℕ) → 1 ≤ place → place < length b → EndsAt s b place
    → Member (day_at b place) (days_at b later)) (ps : List Payment) (are : ArePayments s set b a ps) where
  same_pay : are.pay ≡ (first_day_of s) ∷ days_at b later
  same_pay = one_pay s b run later rising sound complete are.pay are.listed

  payment_of : (j : ℕ) → 1 ≤ j → j < length (0 ∷ later) → (p : Payment) × IsPayment s set b a are.pay j p
  payment_of j low high =
      numbered_has (IsPayment s set b a are.pay) 1 ps j are.each low
      (omega (arith, high, are.count, ap length same_pay, length-pay s b run later rising sound complete))

  date_of : (j : ℕ) → 1 ≤ j → j < length (0 ∷ later)
      → (r : ℤ) × IsPaymentDate s.pay set (day_at a (date_place s (0 ∷ later) j)) r
  date_of j low high =
      let p = payment_of j low high in
      let k : ℕ = pay_place s.pay.relative j in
      let l : k < length (0 ∷ later) = omega (arith, place_low s.pay.relative j, high) in
      let places = cut_places s b run later rising sound complete in
      let at : day_at b p.1.starts.place ≡ day_at b (cut_at (0 ∷ later) k) =
      p.1.starts.at ∙ p.1.unadjusted ∙ ap (λ (q : List ℤ). day_at q k) same_pay
      ∙ pay_at s b run later rising sound complete k l in
      let place = place_same b p.1.starts.place (cut_at (0 ∷ later) k) run.rising p.1.starts.within
      (places.within k l) at in
      let start : p.1.start ≡ day_at a (cut_at (0 ∷ later) k) = sym p.1.starts.is ∙ ap (λ (m : ℕ). day_at a m) place in
      (p.0.adjusted, subst (λ (z : ℤ). IsPaymentDate s.pay set z p.0.adjusted) start p.1.date)

-- the payments of a stream cover its periods from the first to the last
pub every_payments_cover : (s : Stream) (set : DaySet) (b a : List ℤ) → IsLawfulStream s
    → (first_day_of s) <ℤ s.termination.day → RunsFromTo (first_day_of s) s.termination.day b → AreDays b
    → (ps : List Payment) → ArePayments s set b a ps → Covers 1 ps (length b - 1)
every_payments_cover s set b a lawful term run days ps are =
    let cuts = cuts_there s b lawful run days in
    let h = cuts.1 in
    let dates = subst (λ (cs : List ℕ). (j : ℕ) → 1 ≤ j → j < length cs
    → (r : ℤ) × IsPaymentDate s.pay set (day_at a (date_place s cs j)) r) (sym h.from_zero)
    (date_of s set b a run h.later h.rising h.sound h.complete ps are) in
    let paid = paid_there s set b a cuts.0 (cuts_places s b cuts.0 run h) dates (some_cuts s b cuts.0 h) in
    let same : paid.0 ≡ ps =
    one_payments s set b a run.rising paid.0 ps (payments_are s set b a cuts.0 run h are.same_length paid.0 paid.1) are in
    subst (λ (qs : List Payment). Covers 1 qs (length b - 1)) same
    (payments_cover s set b a cuts.0 term run h paid.0 paid.1)
