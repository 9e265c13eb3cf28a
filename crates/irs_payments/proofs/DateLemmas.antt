-- What an offset and an adjustment make of a start: a date, no result, or a day out of range.
use Rattle.std.proofs.Common.{◌≡◌, inl, inr, ℕ, ◌+◌, ◌-◌, ◌<◌, ◌≤◌, List, [], ◌∷◌, ◌++◌, length, length-append, Option}
use Rattle.std.proofs.Common.{Some, None, Result, Ok, Err, arith, refl, sym, subst, ℤ}
use Rattle.std.proofs.lemmas.Bool.{cases_lt}
use Rattle.irs_terms.specs.declared.results.Payment.{Payment}
use Rattle.irs_terms.specs.declared.stream.Stream.{Stream}
use Rattle.irs_calendar.specs.GoodDays.{DaySet}
use Rattle.irs_adjust.proofs.MoveLaws.{date_in_range, date_not_lacking, one_failure}
use Rattle.irs_adjust.specs.declared.moved.NoDate.{NoDate}
use Rattle.irs_adjust.specs.declared.moved.NoDate.TheVariants.{NoResult, OutOfRange}
use Rattle.irs_payments.specs.Private.Dating.{cut_at, ArePlaces, date_place, IsCutPayment, NoneLacks, NoneLeaves}
use Rattle.irs_payments.specs.Private.Dating.{ArePaid, Dated, LeavesAt, LeavesFirst, LacksAt, LacksFirst, Settles}
use Rattle.irs_payments.specs.Private.Dating.{IsOutcome, IsDateFault}
use Rattle.irs_payments.specs.Payments.{PaymentLacksResult, PaymentLeavesRange, Covers}
use Rattle.irs_terms.specs.Elements.{payment_dates}
use Rattle.irs_terms.specs.Faults.{fault_at}
use Rattle.irs_terms.specs.declared.places.Fault.{Fault}
use Rattle.irs_terms.specs.declared.places.Rule.TheVariants.{K33}
use Rattle.irs_base.specs.Lists.{day_at}
use Rattle.irs_base.proofs.Firsts.{lt_false, false_lt}
use Rattle.irs_base.proofs.MemberLemmas.{numbered_push}

-- a payment after those that cover the periods so far covers those up to its own last
pub covers_push : (a n m : ℕ) (ys : List Payment) (y : Payment) → Covers a ys n → y.first_period ≡ n + 1
    → y.last_period ≡ m → n < m → Covers a (ys ++ y ∷ []) m
covers_push a n m [] y h first last less = (omega (arith, h, first), omega (arith, first, last), omega (arith, last))
covers_push a n m (z ∷ ys) y h first last less =
    (h.0, h.1, covers_push (z.last_period + 1) n m ys y h.2 first last less)

none_leaves_more : (s : Stream) (set : DaySet) (a : List ℤ) (cuts : List ℕ) (j : ℕ) → NoneLeaves s set a cuts j
    → (PaymentLeavesRange s.pay set (day_at a (date_place s cuts j)) → ⊥) → NoneLeaves s set a cuts (j + 1)
none_leaves_more s set a cuts j below here m low high leaves = elim (cases_lt m j) [
  | inl less ↦ below m low less leaves
  | inr more ↦ let same : m ≡ j = omega arith in
      here (subst (λ (k : ℕ). PaymentLeavesRange s.pay set (day_at a (date_place s cuts k))) same leaves)
]

none_lacks_more : (s : Stream) (set : DaySet) (a : List ℤ) (cuts : List ℕ) (j : ℕ) → NoneLacks s set a cuts j
    → (PaymentLacksResult s.pay set (day_at a (date_place s cuts j)) → ⊥) → NoneLacks s set a cuts (j + 1)
none_lacks_more s set a cuts j below here m low high lacks = elim (cases_lt m j) [
  | inl less ↦ below m low less lacks
  | inr more ↦ let same : m ≡ j = omega arith in
      here (subst (λ (k : ℕ). PaymentLacksResult s.pay set (day_at a (date_place s cuts k))) same lacks)
]

paid_more : (s : Stream) (set : DaySet) (b a : List ℤ) (cuts : List ℕ) (j : ℕ) (p : Payment) (old : List Payment)
    → ArePlaces b cuts → 1 ≤ j → j < length cuts → IsCutPayment s set b a cuts j p → ArePaid s set b a cuts j old
    → ArePaid s set b a cuts (j + 1) (old ++ p ∷ [])
paid_more s set b a cuts j p old places low high h k =
    let back : j - 1 + 1 ≡ j = omega arith in
    let on : j + 1 - 1 ≡ j = omega arith in
    let rise : cut_at cuts (j - 1) < cut_at cuts j =
    subst (λ (m : ℕ). cut_at cuts (j - 1) < cut_at cuts m) back (places.rise (j - 1) (omega arith)) in
    record {
      in_range = none_leaves_more s set a cuts j k.in_range
          (date_in_range s.pay.offset s.pay.adj.code set (day_at a (date_place s cuts j)) p.adjusted h.date);
      count = omega (arith, k.count, length-append old (p ∷ []));
      each = numbered_push (IsCutPayment s set b a cuts) 1 j old p k.each (omega (arith, k.count)) h;
      covers = subst (λ (m : ℕ). Covers 1 (old ++ p ∷ []) (cut_at cuts m)) (sym on)
          (covers_push 1 (cut_at cuts (j - 1)) (cut_at cuts j) old p k.covers h.first h.last rise);
    }

-- a date that leaves the range is the first where none before it does
pub leaves_first : (s : Stream) (set : DaySet) (a : List ℤ) (cuts : List ℕ) (limit n : ℕ)
    → LeavesAt s set a cuts limit n → NoneLeaves s set a cuts n → LeavesFirst s set a cuts limit n
leaves_first s set a cuts limit n here none =
    (here, λ j at. lt_false j n (λ less. none j at.from_one less at.leaves))

-- a date that lacks a result is the first where none before it does
pub lacks_first : (s : Stream) (set : DaySet) (a : List ℤ) (cuts : List ℕ) (n : ℕ) → LacksAt s set a cuts n
    → NoneLacks s set a cuts n → LacksFirst s set a cuts n
lacks_first s set a cuts n here none = (here, λ j at. lt_false j n (λ less. none j at.from_one less at.lacks))

-- none before the first leaves the range
pub none_leaves : (s : Stream) (set : DaySet) (a : List ℤ) (cuts : List ℕ) (limit n : ℕ)
    → LeavesFirst s set a cuts limit n → NoneLeaves s set a cuts n
none_leaves s set a cuts limit n first j low less leaves =
    false_lt j n
    (first.1 j (record { from_one = low; below = omega (arith, less, first.0.below); leaves = leaves })) less

-- none before the first lacks a result
pub none_lacks : (s : Stream) (set : DaySet) (a : List ℤ) (cuts : List ℕ) (n : ℕ) → LacksFirst s set a cuts n
    → NoneLacks s set a cuts n
none_lacks s set a cuts n first j low less lacks =
    false_lt j n
    (first.1 j (record { from_one = low; below = omega (arith, less, first.0.below); lacks = lacks })) less

later_first : (s : Stream) (set : DaySet) (a : List ℤ) (cuts : List ℕ) (j n : ℕ) → LeavesFirst s set a cuts j n
    → LeavesFirst s set a cuts (j + 1) n
later_first s set a cuts j n h =
    let at = h.0 in
    leaves_first s set a cuts (j + 1) n
    (record { from_one = at.from_one; below = omega (arith, at.below); leaves = at.leaves })
    (none_leaves s set a cuts j n h)

module _ (s : Stream) (set : DaySet) (b a : List ℤ) (cuts : List ℕ) (j : ℕ) (places : ArePlaces b cuts) (low : 1 ≤ j)
    (high : j < length cuts) where
  settled : (payment : Result Payment NoDate) (beyond : Option ℕ) (old : List Payment)
      → IsOutcome s set b a cuts j payment → Dated s set b a cuts j beyond old → (new : List Payment) (after : Option ℕ)
      → Settles payment beyond j old new after → Dated s set b a cuts (j + 1) after new
  settled (Ok p) None old h k new after t =
      subst (λ (o : Option ℕ). Dated s set b a cuts (j + 1) o new) (sym t.1)
      (subst (λ (ys : List Payment). ArePaid s set b a cuts (j + 1) ys) (sym t.0)
      (paid_more s set b a cuts j p old places low high h k))
  settled (Ok p) (Some n) old h k new after t =
      subst (λ (o : Option ℕ). Dated s set b a cuts (j + 1) o new) (sym t.1) (later_first s set a cuts j n k)
  settled (Err OutOfRange) None old h k new after t =
      subst (λ (o : Option ℕ). Dated s set b a cuts (j + 1) o new) (sym t.1)
      (leaves_first s set a cuts (j + 1) j (record { from_one = low; below = omega arith; leaves = h }) k.in_range)
  settled (Err OutOfRange) (Some n) old h k new after t =
      subst (λ (o : Option ℕ). Dated s set b a cuts (j + 1) o new) (sym t.1) (later_first s set a cuts j n k)
  settled (Err NoResult) beyond old h k new after t = absurd t

  -- one more payment, by its outcome
  pub dated_more : (payment : Result Payment NoDate) (beyond : Option ℕ) (old new : List Payment) (after : Option ℕ)
      → IsOutcome s set b a cuts j payment → Dated s set b a cuts j beyond old → Settles payment beyond j old new after
      → Dated s set b a cuts (j + 1) after new
  dated_more payment beyond old new after h k t = settled payment beyond old h k new after t

  -- one more payment that doesn't lack a result
  pub lacks_more : (payment : Result Payment NoDate) (beyond : Option ℕ) (old new : List Payment) (after : Option ℕ)
      → IsOutcome s set b a cuts j payment → NoneLacks s set a cuts j → Settles payment beyond j old new after
      → NoneLacks s set a cuts (j + 1)
  lacks_more (Ok p) beyond old new after h k t =
      none_lacks_more s set a cuts j k
      (date_not_lacking s.pay.offset s.pay.adj.code set (day_at a (date_place s cuts j)) p.adjusted h.date)
  lacks_more (Err OutOfRange) beyond old new after h k t =
      none_lacks_more s set a cuts j k (one_failure s.pay.offset s.pay.adj.code set (day_at a (date_place s cuts j)) h)
  lacks_more (Err NoResult) beyond old new after h k t = absurd t

-- before the first payment none is dated
pub none_dated : (s : Stream) (set : DaySet) (b a : List ℤ) (cuts : List ℕ) → ArePlaces b cuts
    → Dated s set b a cuts 1 None []
none_dated s set b a cuts places = record {
  in_range = λ j low high _. omega (arith, low, high);
  count = refl;
  each = tt;
  covers = omega (arith, places.begins);
}

-- the outcome of a date that fails is the way in which it fails
pub outcome_err : (s : Stream) (set : DaySet) (b a : List ℤ) (cuts : List ℕ) (j : ℕ) (e : NoDate)
    → (e ≡ NoResult → PaymentLacksResult s.pay set (day_at a (date_place s cuts j)))
    → (e ≡ OutOfRange → PaymentLeavesRange s.pay set (day_at a (date_place s cuts j))) → IsOutcome s set b a cuts j (Err e)
outcome_err s set b a cuts j NoResult lacks leaves = lacks refl
outcome_err s set b a cuts j OutOfRange lacks leaves = leaves refl

-- the first payment that lacks a result breaks K33
pub lacking_breaks : (s : Stream) (set : DaySet) (b a : List ℤ) (cuts : List ℕ) (j : ℕ) (payment : Result Payment NoDate)
    → 1 ≤ j → j < length cuts → IsOutcome s set b a cuts j payment → NoneLacks s set a cuts j → (f : Fault)
    → (payment ≡ Err NoResult) × (f ≡ fault_at K33 payment_dates j) → (n : ℕ) × IsDateFault s set a cuts n f
lacking_breaks s set b a cuts j payment low high outcome none f h =
    let lacks = subst (IsOutcome s set b a cuts j) h.0 outcome in
    (j, inl (lacks_first s set a cuts j (record { from_one = low; below = high; lacks = lacks }) none, h.1))
