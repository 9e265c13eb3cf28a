-- Each call of this crate has one outcome.
use Rattle.std.proofs.Common.{◌≡◌, ℕ, List, ℤ, length, Result, Ok, Err}
use Rattle.irs_base.specs.Lists.{RunsFromTo}
use Rattle.irs_base.specs.Outcomes.{Determined, Meets}
use Rattle.irs_terms.specs.Faults.{comes_before}
use Rattle.irs_base.proofs.Outcomes.{unbroken_determined, unless_broken_determined}
use Rattle.irs_terms.specs.declared.places.Fault.{Fault}
use Rattle.irs_base.specs.declared.stopped.Stopped.{Stopped}
use Rattle.irs_base.specs.declared.stopped.Stopped.TheVariants.{Broken as OfBroken, Memory as OfMemory}
use Rattle.irs_terms.specs.TermDates.{first_day_of}
use Rattle.irs_terms.specs.Lawful.{IsLawfulStream}
use Rattle.irs_terms.specs.declared.results.Payment.{Payment}
use Rattle.irs_terms.specs.declared.stream.Stream.{Stream}
use Rattle.irs_calendar.specs.GoodDays.{DaySet}
use Rattle.irs_adjust.proofs.FoundDays.{InRange}
use Rattle.irs_payments.specs.Private.Dating.{AreCuts, paid_at}
use Rattle.irs_payments.specs.Exchanges.{AreExchanges, BreaksExchanges, BreaksSteps}
use Rattle.irs_payments.specs.Payments.{BreaksGrouping, payments_of, principals_of, steps_of, ArePayments}
use Rattle.irs_payments.specs.Payments.{BreaksPaymentDate, BreaksPayments}
use Rattle.irs_payments.proofs.ExchangeLemmas.{one_exchanges}
use Rattle.irs_payments.proofs.ExchangesThere.{exchanges_decided, exchanges_there, one_exchanges_rule}
use Rattle.irs_payments.proofs.FirstFaults.{first_right, none_of_both}
use Rattle.irs_payments.proofs.PaymentLemmas.{one_payments, payments_are, payments_first, payments_unbroken}
use Rattle.irs_payments.proofs.PaymentsThere.{ArePayable, one_payments_rule, payments_decided, payments_there}
use Rattle.irs_payments.proofs.StepLemmas.{one_steps_rule, steps_decided}

-- the payments of a stream have one answer or one refusal
pub payments_determined : (s : Stream) (set : DaySet) (b a : List ℤ) → ArePayable s set b a
    → Determined (payments_of s set b a)
payments_determined s set b a over =
    unless_broken_determined comes_before (BreaksPayments s set b a) (ArePayments s set b a)
    (payments_decided s set b a over) (payments_there s set b a over) (one_payments s set b a over.run.rising)
    (one_payments_rule s set b a)

-- what is paid at the places is what the stream pays, where K35 isn't broken
pub paid_meets : (s : Stream) (set : DaySet) (b a : List ℤ) (cuts : List ℕ)
    → RunsFromTo (first_day_of s) s.termination.day b → AreCuts s b (length b) cuts → length a ≡ length b
    → ((f : Fault) → BreaksGrouping s b f → ⊥) → (r : Result (List Payment) (Stopped Fault))
    → Meets (paid_at s set b a cuts) r → Meets (payments_of s set b a) r
paid_meets s set b a cuts run are long none (Ok ps) paid = (
  none_of_both (BreaksGrouping s b) (BreaksPaymentDate s set b a) none
      (payments_unbroken s set b a cuts run are paid.1 paid.0.in_range),
  payments_are s set b a cuts run are long ps paid.0,
)
paid_meets s set b a cuts run are long none (Err (OfBroken f)) fault =
    first_right (BreaksGrouping s b) (BreaksPaymentDate s set b a) f none
    (payments_first s set b a cuts run are fault.0 f fault.1)
paid_meets s set b a cuts run are long none (Err OfMemory) fault = tt

-- the principal exchanges of a stream have one answer or one refusal
pub principals_determined : (s : Stream) (set : DaySet) → IsLawfulStream s → InRange set
    → Determined (principals_of s set)
principals_determined s set lawful range =
    unless_broken_determined comes_before (BreaksExchanges s set) (AreExchanges s set)
    (exchanges_decided s set lawful range) (exchanges_there s set lawful range) (one_exchanges s set)
    (one_exchanges_rule s set)

-- the steps of a stream have one answer or one refusal
pub steps_determined : (s : Stream) (boundaries : List ℤ) → Determined (steps_of s boundaries)
steps_determined s boundaries =
    unbroken_determined comes_before (BreaksSteps s boundaries) (steps_decided s boundaries)
    (one_steps_rule s boundaries)
