-- Payments by the places of the walk are the payments of the stream, and their faults its faults.
use Rattle.std.proofs.Common.{◌≡◌, inl, inr, ℕ, zero, suc, ◌+◌, ◌-◌, ◌<◌, ◌≤◌, List, ◌∷◌, length, arith, refl, sym, ◌∙◌}
use Rattle.std.proofs.Common.{subst, ap, false, ℤ, ◌<ℤ◌, ◌≤ℤ◌}
use Rattle.std.proofs.lemmas.Bool.{cases_lt}
use Rattle.jiff_core.proofs.SignedLemmas.{signed_arith}
use Rattle.irs_terms.specs.Elements.{payment_dates, first_payment_date, last_regular_payment_date}
use Rattle.irs_base.specs.Lists.{Member, IsRising, RunsFromTo, day_at, EachNumbered}
use Rattle.irs_base.proofs.Rising.{one_rising}
use Rattle.irs_terms.specs.declared.places.Rule.TheVariants.{K33, K35, K38}
use Rattle.irs_terms.specs.declared.places.Fault.{Fault}
use Rattle.irs_terms.specs.declared.codes.Relative.{Relative}
use Rattle.irs_terms.specs.declared.codes.Relative.TheVariants.{Start, End}
use Rattle.irs_terms.specs.declared.results.Payment.{Payment}
use Rattle.irs_terms.specs.TermDates.{first_day_of}
use Rattle.irs_terms.specs.declared.stream.Stream.{Stream}
use Rattle.irs_calendar.specs.GoodDays.{DaySet}
use Rattle.irs_base.specs.Outcomes.{First}
use Rattle.irs_terms.specs.Faults.{fault_at, comes_before}
use Rattle.irs_payments.specs.Payments.{BreaksGrouping, IsPaymentDate, PaymentLacksResult, PaymentLeavesRange}
use Rattle.irs_payments.specs.Payments.{pay_place, CoversPeriods, IsPayment, ArePayments, Covers, PaysFrom, IsLacking}
use Rattle.irs_payments.specs.Payments.{IsLeaving, BreaksPaymentDate}
use Rattle.irs_payments.specs.Private.Dating.{days_at, EachPlace, EndsAt, IsCut, AreCuts, cut_at, ArePlaces, date_place}
use Rattle.irs_payments.specs.Private.Dating.{IsCutPayment, NoneLacks, NoneLeaves, ArePaid, LacksFirst, OnlyLeaves}
use Rattle.irs_payments.specs.Private.Dating.{IsDateFault}
use Rattle.irs_payments.proofs.DateLemmas.{none_lacks, none_leaves}
use Rattle.irs_payments.proofs.PlaceLemmas.{rises_at, place_below, place_same}
use Rattle.irs_payments.proofs.FirstFaults.{told, not_before_index, not_before_rule, not_before_turn}
use Rattle.irs_adjust.proofs.MoveLaws.{one_date}
use Rattle.irs_payments.proofs.CutLemmas.{pay_listed, pay_at, length-pay, cut_places, cut_last, one_pay}
use Rattle.irs_base.proofs.MemberLemmas.{numbered_map, one_numbered}

-- the periods between two places

up_to : (b : List ℤ) (i k : ℕ) → IsRising b → i ≤ k → k < length b → day_at b i ≤ℤ day_at b k
up_to b i k r h l = elim (cases_lt i k) [
  | inl less ↦ omega (arith, signed_arith, rises_at b i k r less l)
  | inr more ↦ let same : i ≡ k = omega arith in
      subst (λ (m : ℕ). day_at b i ≤ℤ day_at b m) same (omega (arith, signed_arith))
]

after_place : (b : List ℤ) (c i : ℕ) → IsRising b → c < length b → i < length b → day_at b c <ℤ day_at b i → c + 1 ≤ i
after_place b c i r h l less =
    elim (place_below b c i r h less) [ inl below ↦ omega arith | inr past ↦ absurd (omega arith) ]

to_place : (b : List ℤ) (c i : ℕ) → IsRising b → c < length b → i < length b → day_at b i ≤ℤ day_at b c → i ≤ c
to_place b c i r h l le = elim (cases_lt c i) [
  | inl less ↦ absurd (omega (arith, signed_arith, le, rises_at b c i r less l))
  | inr more ↦ more
]

covers_between : (b : List ℤ) (c d : ℕ) → IsRising b → c < d → d < length b
    → CoversPeriods b (day_at b c) (day_at b d) (c + 1) d
covers_between b c d r h l = record {
  from_one = omega arith;
  some = omega arith;
  to_end = l;
  each = λ i low high. (
    λ p. (rises_at b c i r (omega (arith, p.0)) high, up_to b i d r p.1 l),
    λ p. (after_place b c i r (omega arith) high p.0, to_place b d i r l high p.1),
  );
}

-- the place of the unadjusted date of payment j is at most j
pub place_low : (relative : Relative) (j : ℕ) → pay_place relative j ≤ j
place_low Start j = omega arith
place_low End j = omega arith

-- faults

module _ (s : Stream) (set : DaySet) (b a : List ℤ) (run : RunsFromTo (first_day_of s) s.termination.day b)
    (later : List ℕ) (rising : IsRising (days_at b later)) (sound : EachPlace (IsCut s b (length b)) later)
    (complete : (place : ℕ) → 1 ≤ place → place < length b → EndsAt s b place
    → Member (day_at b place) (days_at b later)) where
  places : ArePlaces b (0 ∷ later)
  places = cut_places s b run later rising sound complete

  pay_day : (k : ℕ) → k < length (0 ∷ later) → day_at ((first_day_of s) ∷ days_at b later) k
      ≡ day_at b (cut_at (0 ∷ later) k)
  pay_day k l = pay_at s b run later rising sound complete k l

  pay_length : length ((first_day_of s) ∷ days_at b later) ≡ length (0 ∷ later)
  pay_length = length-pay s b run later rising sound complete

  is_payment : (j : ℕ) (p : Payment) → 1 ≤ j → j < length (0 ∷ later) → IsCutPayment s set b a (0 ∷ later) j p
      → IsPayment s set b a ((first_day_of s) ∷ days_at b later) j p
  is_payment j p low high h =
      let pay : List ℤ = (first_day_of s) ∷ days_at b later in
      let c : ℕ = cut_at (0 ∷ later) (j - 1) in
      let d : ℕ = cut_at (0 ∷ later) j in
      let back : j - 1 + 1 ≡ j = omega arith in
      let rise : c < d = subst (λ (m : ℕ). c < cut_at (0 ∷ later) m) back (places.rise (j - 1) (omega arith)) in
      let before = pay_day (j - 1) (omega arith) in
      let own = pay_day j high in
      let k : ℕ = pay_place s.pay.relative j in
      let l : k < length (0 ∷ later) = omega (arith, place_low s.pay.relative j) in
      record {
        covers =
            subst (λ (z : ℤ). CoversPeriods b z (day_at pay j) p.first_period p.last_period) (sym before)
            (subst (λ (z : ℤ). CoversPeriods b (day_at b c) z p.first_period p.last_period) (sym own)
            (subst (λ (n : ℕ). CoversPeriods b (day_at b c) (day_at b d) n p.last_period) (sym h.first)
            (subst (λ (n : ℕ). CoversPeriods b (day_at b c) (day_at b d) (c + 1) n) (sym h.last)
            (covers_between b c d run.rising rise (places.within j high)))));
        unadjusted = h.unadjusted ∙ sym (pay_day k l);
        start = day_at a (cut_at (0 ∷ later) k);
        starts = record { place = cut_at (0 ∷ later) k; within = places.within k l; at = sym h.unadjusted; is = refl };
        date = h.date;
      }

  are_payments : (ps : List Payment) → length a ≡ length b → ArePaid s set b a (0 ∷ later) (length (0 ∷ later)) ps
      → ArePayments s set b a ps
  are_payments ps long paid = record {
    same_length = long;
    pay = (first_day_of s) ∷ days_at b later;
    listed = pay_listed s b run later rising sound complete;
    count = paid.count ∙ sym pay_length;
    each = numbered_map (IsCutPayment s set b a (0 ∷ later))
        (IsPayment s set b a ((first_day_of s) ∷ days_at b later)) 1 ps
        (λ n x low high h. is_payment n x low (omega (arith, high, paid.count)) h) paid.each;
  }

  starts_at : (n : ℕ) → 1 ≤ n → n < length (0 ∷ later) → PaysFrom s b a n (day_at a (date_place s (0 ∷ later) n))
  starts_at n low high =
      let k : ℕ = pay_place s.pay.relative n in
      let l : k < length (0 ∷ later) = omega (arith, place_low s.pay.relative n) in
      record {
        pay = (first_day_of s) ∷ days_at b later;
        listed = pay_listed s b run later rising sound complete;
        from_one = low;
        within = omega (arith, pay_length);
        starts = record { place = cut_at (0 ∷ later) k; within = places.within k l; at = sym (pay_day k l); is = refl };
      }

  pays_within : (j : ℕ) (start : ℤ) → PaysFrom s b a j start → j < length (0 ∷ later)
  pays_within j start h =
      let same = one_pay s b run later rising sound complete h.pay h.listed in
      omega (arith, h.within, ap length same, pay_length)

  start_same : (j : ℕ) (start : ℤ) → PaysFrom s b a j start → start ≡ day_at a (date_place s (0 ∷ later) j)
  start_same j start h =
      let same = one_pay s b run later rising sound complete h.pay h.listed in
      let within = pays_within j start h in
      let k : ℕ = pay_place s.pay.relative j in
      let l : k < length (0 ∷ later) = omega (arith, place_low s.pay.relative j) in
      let at : day_at b h.starts.place ≡ day_at b (cut_at (0 ∷ later) k) =
      h.starts.at ∙ ap (λ (q : List ℤ). day_at q k) same ∙ pay_day k l in
      let place = place_same b h.starts.place (cut_at (0 ∷ later) k) run.rising h.starts.within
      (places.within k l) at in
      sym h.starts.is ∙ ap (λ (m : ℕ). day_at a m) place

  lacks_at : (j : ℕ) → IsLacking s set b a j → PaymentLacksResult s.pay set (day_at a (date_place s (0 ∷ later) j))
  lacks_at j h = subst (λ (z : ℤ). PaymentLacksResult s.pay set z) (start_same j h.start h.pays) h.lacks

  leaves_at : (j : ℕ) → IsLeaving s set b a j → PaymentLeavesRange s.pay set (day_at a (date_place s (0 ∷ later) j))
  leaves_at j h = subst (λ (z : ℤ). PaymentLeavesRange s.pay set z) (start_same j h.start h.pays) h.leaves

  no_fault : NoneLacks s set a (0 ∷ later) (length (0 ∷ later)) → NoneLeaves s set a (0 ∷ later) (length (0 ∷ later))
      → (f : Fault) → BreaksPaymentDate s set b a f → ⊥
  no_fault lacks leaves f h = elim h.breaks [
    | inl k ↦ lacks h.number k.0.pays.from_one (pays_within h.number k.0.start k.0.pays) (lacks_at h.number k.0)
    | inr k ↦ leaves h.number k.0.pays.from_one (pays_within h.number k.0.start k.0.pays) (leaves_at h.number k.0)
  ]

  first_lacks : (n : ℕ) → LacksFirst s set a (0 ∷ later) n
      → First comes_before (BreaksPaymentDate s set b a) (fault_at K33 payment_dates n)
  first_lacks n h = (
    record {
      number = n;
      breaks = inl (
        record {
          start = day_at a (date_place s (0 ∷ later) n);
          pays =
              starts_at n h.0.from_one h.0.below;
          lacks = h.0.lacks;
        },
        refl,
      );
    },
    λ g k. elim k.breaks [
      | inl c ↦
          told (fault_at K33 payment_dates n) g (fault_at K33 payment_dates n)
          (fault_at K33 payment_dates k.number) refl c.1
          (not_before_index K33 payment_dates k.number n
          (λ less. none_lacks s set a (0 ∷ later) n h k.number c.0.pays.from_one less (lacks_at k.number c.0)))
      | inr c ↦
          told (fault_at K33 payment_dates n) g (fault_at K33 payment_dates n)
          (fault_at K38 payment_dates k.number) refl c.1
          (not_before_rule K33 K38 payment_dates payment_dates k.number n refl (omega arith))
    ],
  )

  first_leaves : (n : ℕ) → OnlyLeaves s set a (0 ∷ later) n
      → First comes_before (BreaksPaymentDate s set b a) (fault_at K38 payment_dates n)
  first_leaves n h = (
    record {
      number = n;
      breaks = inr (
        record {
          start = day_at a (date_place s (0 ∷ later) n);
          pays =
              starts_at n h.first.0.from_one h.first.0.below;
          leaves = h.first.0.leaves;
        },
        refl,
      );
    },
    λ g k. elim k.breaks [
      | inl c ↦ absurd (h.results k.number c.0.pays.from_one (pays_within k.number c.0.start c.0.pays)
          (lacks_at k.number c.0))
      | inr c ↦
          told (fault_at K38 payment_dates n) g (fault_at K38 payment_dates n)
          (fault_at K38 payment_dates k.number) refl c.1
          (not_before_index K38 payment_dates k.number n
          (λ less. none_leaves s set a (0 ∷ later) (length (0 ∷ later)) n h.first k.number c.0.pays.from_one less
          (leaves_at k.number c.0)))
    ],
  )

  first_date_fault : (n : ℕ) (f : Fault) → IsDateFault s set a (0 ∷ later) n f
      → First comes_before (BreaksPaymentDate s set b a) f
  first_date_fault n f (inl h) = subst (First comes_before (BreaksPaymentDate s set b a)) (sym h.1) (first_lacks n h.0)
  first_date_fault n f (inr h) = subst (First comes_before (BreaksPaymentDate s set b a)) (sym h.1) (first_leaves n h.0)

-- the same from what the walk gives

-- dates that are worked out at the places of the payment boundaries are the payments
pub payments_are : (s : Stream) (set : DaySet) (b a : List ℤ) (cuts : List ℕ)
    → RunsFromTo (first_day_of s) s.termination.day b → AreCuts s b (length b) cuts → length a ≡ length b
    → (ps : List Payment) → ArePaid s set b a cuts (length cuts) ps → ArePayments s set b a ps
payments_are s set b a cuts run h long ps paid =
    are_payments s set b a run h.later h.rising h.sound h.complete ps long
    (subst (λ (cs : List ℕ). ArePaid s set b a cs (length cs) ps) h.from_zero paid)

-- the payments cover the periods from the first to the last
pub payments_cover : (s : Stream) (set : DaySet) (b a : List ℤ) (cuts : List ℕ) → (first_day_of s) <ℤ s.termination.day
    → RunsFromTo (first_day_of s) s.termination.day b → AreCuts s b (length b) cuts → (ps : List Payment)
    → ArePaid s set b a cuts (length cuts) ps → Covers 1 ps (length b - 1)
payments_cover s set b a cuts term run h ps paid =
    let last = cut_last s b run h.later h.rising h.sound h.complete term in
    let moved = subst (λ (cs : List ℕ). ArePaid s set b a cs (length cs) ps) h.from_zero paid in
    let same : cut_at (0 ∷ h.later) (length (0 ∷ h.later) - 1) ≡ length b - 1 = omega (arith, last) in
    subst (λ (n : ℕ). Covers 1 ps n) same moved.covers

-- where no date fails, no rule on payment dates is broken
pub payments_unbroken : (s : Stream) (set : DaySet) (b a : List ℤ) (cuts : List ℕ)
    → RunsFromTo (first_day_of s) s.termination.day b → AreCuts s b (length b) cuts
    → NoneLacks s set a cuts (length cuts) → NoneLeaves s set a cuts (length cuts) → (x : Fault)
    → BreaksPaymentDate s set b a x → ⊥
payments_unbroken s set b a cuts run h lacks leaves =
    no_fault s set b a run h.later h.rising h.sound h.complete
    (subst (λ (cs : List ℕ). NoneLacks s set a cs (length cs)) h.from_zero lacks)
    (subst (λ (cs : List ℕ). NoneLeaves s set a cs (length cs)) h.from_zero leaves)

-- the first date that fails is the first rule broken
pub payments_first : (s : Stream) (set : DaySet) (b a : List ℤ) (cuts : List ℕ)
    → RunsFromTo (first_day_of s) s.termination.day b → AreCuts s b (length b) cuts → (n : ℕ) (x : Fault)
    → IsDateFault s set a cuts n x → First comes_before (BreaksPaymentDate s set b a) x
payments_first s set b a cuts run h n x fault =
    first_date_fault s set b a run h.later h.rising h.sound h.complete n x
    (subst (λ (cs : List ℕ). IsDateFault s set a cs n x) h.from_zero fault)

-- the places of payment boundaries rise from the first to the last
pub cuts_places : (s : Stream) (b : List ℤ) (cuts : List ℕ) → RunsFromTo (first_day_of s) s.termination.day b
    → AreCuts s b (length b) cuts → ArePlaces b cuts
cuts_places s b cuts run h =
    subst (ArePlaces b) (sym h.from_zero) (cut_places s b run h.later h.rising h.sound h.complete)

-- there is a payment boundary
pub some_cuts : (s : Stream) (b : List ℤ) (cuts : List ℕ) → AreCuts s b (length b) cuts → 0 < length cuts
some_cuts s b cuts h = let e = ap length h.from_zero in omega (arith, e)

-- places are at least as high as their numbers
place_high : (b : List ℤ) (cuts : List ℕ) → ArePlaces b cuts → (k : ℕ) → k < length cuts → k ≤ cut_at cuts k
place_high b cuts h zero l = omega arith
place_high b cuts h (suc k) l =
    let one : suc k ≡ k + 1 = omega arith in
    let rise : cut_at cuts k < cut_at cuts (suc k) =
    subst (λ (m : ℕ). cut_at cuts k < cut_at cuts m) (sym one) (h.rise k (omega arith)) in
    omega (arith, rise, place_high b cuts h k (omega arith))

-- there are at most as many payment boundaries as boundaries
pub few_places : (b : List ℤ) (cuts : List ℕ) → ArePlaces b cuts → 0 < length cuts → length cuts ≤ length b
few_places b cuts h some =
    omega (arith, place_high b cuts h (length cuts - 1) (omega arith), h.within (length cuts - 1) (omega arith))

-- a date fault doesn't come before one of the grouping
late_date : (s : Stream) (set : DaySet) (b a : List ℤ) (elem : ℕ) (f g : Fault) → f ≡ fault_at K35 elem 0
    → BreaksPaymentDate s set b a g → comes_before g f ≡ false
late_date s set b a elem f g is d = elim d.breaks [
  | inl c ↦ told f g (fault_at K35 elem 0) (fault_at K33 payment_dates d.number) is c.1
      (not_before_turn K35 K33 elem payment_dates d.number 0 (omega arith))
  | inr c ↦ told f g (fault_at K35 elem 0) (fault_at K38 payment_dates d.number) is c.1
      (not_before_turn K35 K38 elem payment_dates d.number 0 (omega arith))
]

-- K33 and K38 of payment dates don't come before K35
pub dates_late : (s : Stream) (set : DaySet) (b a : List ℤ) (f g : Fault) → BreaksGrouping s b f
    → BreaksPaymentDate s set b a g → comes_before g f ≡ false
dates_late s set b a f g (inl h) d = late_date s set b a first_payment_date f g h.1 d
dates_late s set b a f g (inr h) d = late_date s set b a last_regular_payment_date f g h.1 d

-- one list of payments

covers_low : (b : List ℤ) (x y : ℤ) (f l g m : ℕ) → CoversPeriods b x y f l → CoversPeriods b x y g m → g ≤ f
covers_low b x y f l g m h k =
    let high : f < length b = omega (arith, h.some, h.to_end) in
    ((k.each f h.from_one high).1 ((h.each f h.from_one high).0 (omega arith, h.some))).0

covers_high : (b : List ℤ) (x y : ℤ) (f l g m : ℕ) → CoversPeriods b x y f l → CoversPeriods b x y g m → l ≤ m
covers_high b x y f l g m h k =
    let low : 1 ≤ l = omega (arith, h.some, h.from_one) in
    ((k.each l low h.to_end).1 ((h.each l low h.to_end).0 (h.some, omega arith))).1

one_payment : (s : Stream) (set : DaySet) (b a pay : List ℤ) → IsRising b → (j : ℕ) (p q : Payment)
    → IsPayment s set b a pay j p → IsPayment s set b a pay j q → p ≡ q
one_payment s set b a pay rising j p q h k =
    let x = day_at pay (j - 1) in
    let y = day_at pay j in
    let first : p.first_period ≡ q.first_period =
    omega (arith, covers_low b x y _ _ _ _ h.covers k.covers, covers_low b x y _ _ _ _ k.covers h.covers) in
    let last : p.last_period ≡ q.last_period =
    omega (arith, covers_high b x y _ _ _ _ h.covers k.covers, covers_high b x y _ _ _ _ k.covers h.covers) in
    let unadjusted : p.unadjusted ≡ q.unadjusted = h.unadjusted ∙ sym k.unadjusted in
    let place = place_same b h.starts.place k.starts.place rising h.starts.within k.starts.within (h.starts.at
    ∙ unadjusted ∙ sym k.starts.at) in
    let start : h.start ≡ k.start = sym h.starts.is ∙ ap (λ (m : ℕ). day_at a m) place ∙ k.starts.is in
    let adjusted : p.adjusted ≡ q.adjusted =
    one_date s.pay.offset s.pay.adj.code set k.start p.adjusted q.adjusted
    (subst (λ (z : ℤ). IsPaymentDate s.pay set z p.adjusted) start h.date) k.date in
    λ i. record { unadjusted = unadjusted i; adjusted = adjusted i; first_period = first i; last_period = last i }

-- a stream has one list of payments
pub one_payments : (s : Stream) (set : DaySet) (b a : List ℤ) → IsRising b → (ps qs : List Payment)
    → ArePayments s set b a ps → ArePayments s set b a qs → ps ≡ qs
one_payments s set b a rising ps qs h k =
    let later = one_rising h.listed.later k.listed.later h.listed.listed.rising k.listed.listed.rising
    (λ d m. k.listed.listed.complete d (h.listed.listed.sound d m))
    (λ d m. h.listed.listed.complete d (k.listed.listed.sound d m)) in
    let pay : h.pay ≡ k.pay =
    h.listed.from_first_day ∙ ap (λ ds. (first_day_of s) ∷ ds) later ∙ sym k.listed.from_first_day in
    let count : length ps ≡ length qs = omega (arith, h.count, k.count, ap length pay) in
    one_numbered (IsPayment s set b a k.pay) (one_payment s set b a k.pay rising) 1 ps qs count
    (subst (λ (q : List ℤ). EachNumbered (IsPayment s set b a q) 1 ps) pay h.each) k.each
