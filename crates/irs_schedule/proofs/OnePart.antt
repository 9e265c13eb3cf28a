-- A lawful stream that keeps its terms and breaks no rule has its part, and only one, and such a swap its schedule.
use Rattle.std.proofs.Common.{◌≡◌, ℕ, zero, suc, ◌+◌, ◌-◌, ◌∙◌, List, [], ◌∷◌, length, map, Some, refl, sym, ap, subst, arith}
use Rattle.std.specs.Prelude.{Result, Ok, Err, IfOk, slice_get}
use Rattle.std.proofs.lemmas.Option.{same_Some, slice_get_within}
use Rattle.irs_base.specs.Outcomes.{Determined, Meets, Spec, each_in_turn, refused_as}
use Rattle.irs_terms.specs.Faults.{in_stream}
use Rattle.irs_base.specs.Lists.{EachNumbered, Every, Pairs}
use Rattle.irs_terms.specs.declared.places.Broken.{Broken}
use Rattle.irs_base.specs.declared.stopped.Stopped.{Stopped}
use Rattle.irs_base.proofs.CoverLemmas.{covers_each}
use Rattle.irs_base.proofs.EveryLemmas.{one_partners}
use Rattle.irs_base.proofs.MemberLemmas.{one_numbered}
use Rattle.irs_base.proofs.Outcomes.{answer_determined, answer_there, each_determined, one_refusal, refused_as_determined}
use Rattle.irs_base.proofs.Outcomes.{then_determined}
use Rattle.irs_terms.specs.Lawful.{IsLawfulSwap, IsLawfulStream}
use Rattle.irs_terms.specs.Private.TermDates.{AllStepsRise}
use Rattle.irs_terms.specs.declared.results.Payment.{Payment}
use Rattle.irs_observed.specs.declared.daily_resets.OvernightResets.{OvernightResets}
use Rattle.irs_terms.specs.declared.stream.Stream.{Stream}
use Rattle.irs_terms.specs.declared.stream_list.Swap.{Swap}
use Rattle.irs_calendar.specs.declared.sections.Section.{Section}
use Rattle.irs_payments.specs.Payments.{ArePayments}
use Rattle.irs_payments.proofs.ExchangeLemmas.{one_exchanges}
use Rattle.irs_payments.proofs.PaymentLemmas.{one_payments}
use Rattle.irs_resets.specs.Rates.{RateTable}
use Rattle.irs_rules.specs.TermsRules.{TermsKept, BreaksTerms}
use Rattle.irs_rules.proofs.Kept.{lawful_stream, terms_kept}
use Rattle.irs_schedule.specs.Schedules.{DatedBroken, DatedKept, IsLayout, IsPeriodEntry, AreResetsIn, IsPart}
use Rattle.irs_schedule.specs.Schedules.{IsPaymentEntry, IsSchedule, payment_of, entries_of, events_of, layout_of}
use Rattle.irs_schedule.specs.Schedules.{part_over, passed_at, resets_over, schedule_of, stream_of, layout_dates}
use Rattle.irs_schedule.specs.DaySets.{StreamSets, stream_sets}
use Rattle.irs_schedule.specs.Private.Layouts.{IsKeptLayout}
use Rattle.irs_schedule.specs.Parts.{Part, with_factors}
use Rattle.irs_schedule.specs.declared.entries.PaymentEntry.{PaymentEntry}
use Rattle.irs_schedule.specs.declared.entries.PeriodEntry.{PeriodEntry}
use Rattle.irs_schedule.specs.declared.layouts.Layout.{Layout}
use Rattle.irs_schedule.proofs.PaidEntries.{entries_are, entries_determined}
use Rattle.irs_schedule.proofs.Events.{AreEvents, events_are, events_cover, events_determined}
use Rattle.irs_schedule.proofs.FactorLemmas.{factors_determined}
use Rattle.irs_schedule.proofs.LayoutLemmas.{AreInRange, layout_adjusted_days, layout_covers, layout_some, sets_in_range}
use Rattle.irs_schedule.proofs.LayoutRules.{layout_determined, layout_is, layout_kept, one_layout}
use Rattle.irs_schedule.proofs.PartMade.{part_is}
use Rattle.irs_schedule.proofs.RateLemmas.{AreAbove, one_resets_in, resets_above, with_rates}
use Rattle.irs_schedule.proofs.Unique.{all_one_paid, one_entry}

-- payments and periods are in their relations over the layout, by these resets and rates
record ListsOver (sets : StreamSets) (s : Stream) (l : Layout) (x : OvernightResets) (es : List PaymentEntry)
    (ps : List PeriodEntry) : Type 0 where
  payments : ArePayments s sets.payment l.unadjusted l.adjusted (map payment_of es)
  amounts : Every (IsPaymentEntry (layout_dates s l x.resets x.rates)) es
  count : length ps + 1 ≡ length l.unadjusted
  periods : EachNumbered (IsPeriodEntry (layout_dates s l x.resets x.rates)) 1 ps

-- those of a part are in them over its boundaries, which are a layout
abbrev own_layout : (sets : StreamSets) (fix : RateTable) (s : Stream) (p : Part) → IsPart sets fix s p → Layout
own_layout sets fix s p h = record { span = h.layout.span; unadjusted = p.unadjusted; adjusted = p.adjusted }

own_is : (sets : StreamSets) (fix : RateTable) (s : Stream) (p : Part) (h : IsPart sets fix s p)
    → IsLayout sets s (own_layout sets fix s p h)
own_is sets fix s p h =
    let same : h.layout ≡ own_layout sets fix s p h =
    λ i. record { span = h.layout.span; unadjusted = sym h.unadjusted i; adjusted = sym h.adjusted i } in
    subst (IsLayout sets s) same h.is_layout

module _ (cal : List Section) (sets : StreamSets) (fix : RateTable) (s : Stream) (lawful : IsLawfulStream s)
    (terms : TermsKept cal s) (range : AreInRange sets) where
  -- a stream has one part, or one first rule that it breaks
  pub stream_determined : Determined (stream_of sets fix s)
  unfolding stream_of
  stream_determined =
      then_determined (layout_of sets s) _ (layout_determined sets s lawful terms.dates range) (λ l laid.
      let is = layout_kept sets s l laid in
      let some = layout_some sets s lawful terms.dates l is in
      let moved = layout_adjusted_days sets s lawful terms.dates l is range in
      then_determined (events_of sets fix s l) _ (events_determined sets fix s l cal lawful terms range is) (λ d are.
      let dates = layout_dates s l d.resets d.rates in
      let above =
      resets_above (resets_over sets s l) sets.applicable fix s.leg (with_rates d.resets d.rates)
      (AreEvents.resets (events_are sets fix s l d are)) in
      then_determined (with_factors passed_at d.rates (entries_of dates d.payments)) _
      (factors_determined d.rates (entries_of dates d.payments)
      (entries_determined dates (terms.notional_rises, terms.leg_rises) above is.rises moved (length l.unadjusted - 1)
      (omega (arith, some, is.adjusted.same_length)) d.payments (events_cover sets fix s l cal lawful terms is d are)))
      (λ es _. answer_determined (part_over s l d es))))

  -- a part that is answered is the part of the stream, over a layout that breaks no rule
  pub stream_is : (p : Part) → (stream_of sets fix s).Answers p → IsPart sets fix s p
  unfolding stream_of
  stream_is p h =
      let l = h.0 in
      let is = layout_kept sets s l h.1 in
      let d = h.2.0 in
      let es = h.2.2.0 in
      subst (IsPart sets fix s) (sym h.2.2.2)
      (part_is sets fix s l (layout_some sets s lawful terms.dates l is) is d es (events_are sets fix s l d h.2.1)
      (entries_are (layout_dates s l d.resets d.rates) d.payments es h.2.2.1.1))

  module _ (l : Layout) (is : IsKeptLayout sets s l) where
    -- over one layout and by the same resets the lists are the same
    one_lists : (x : OvernightResets) → AreAbove x.rates → (es fs : List PaymentEntry) (ps qs : List PeriodEntry)
        → ListsOver sets s l x es ps → ListsOver sets s l x fs qs → (es ≡ fs) × (ps ≡ qs)
    one_lists x above es fs ps qs h k =
        let d = layout_dates s l x.resets x.rates in
        let rises : AllStepsRise s = (terms.notional_rises, terms.leg_rises) in
        let some = layout_some sets s lawful terms.dates l is in
        let last = length l.unadjusted - 1 in
        let same =
        one_payments s sets.payment l.unadjusted l.adjusted is.unadjusted.rising (map payment_of es)
        (map payment_of fs) h.payments k.payments in
        let lie =
        covers_each (λ (p : Payment). p.first_period) (λ (p : Payment). p.last_period) 1 1 last (map payment_of es)
        (omega arith) (layout_covers sets s lawful terms.dates l is (map payment_of es) h.payments) in (
          all_one_paid d rises above (layout_adjusted_days sets s lawful terms.dates l is range) is.rises last
              (omega (arith, some, is.adjusted.same_length)) es fs same lie h.amounts k.amounts,
          one_numbered (IsPeriodEntry d) (one_entry d rises above) 1 ps qs (omega (arith, h.count, k.count)) h.periods
              k.periods,
        )

  -- a stream that has an answer has one part
  pub one_part : (a : Part) → (stream_of sets fix s).Answers a → (p q : Part) → IsPart sets fix s p → IsPart sets fix s q
      → p ≡ q
  unfolding stream_of
  one_part a answered p q h k =
      let l = own_layout sets fix s p h in
      let m = own_layout sets fix s q k in
      let e : m ≡ l = one_layout sets s m l (own_is sets fix s q k) (own_is sets fix s p h) in
      let kept = layout_kept sets s answered.0 answered.1 in
      let here : answered.0 ≡ l =
      one_layout sets s answered.0 l (layout_is sets s answered.0 kept) (own_is sets fix s p h) in
      let is : IsKeptLayout sets s l = subst (IsKeptLayout sets s) here kept in
      let x = with_rates p.resets h.rates in
      let y = with_rates q.resets k.rates in
      let same_rates : x ≡ y =
      one_resets_in (resets_over sets s l) sets.applicable fix s.leg x y h.resets
      (subst (λ (n : Layout). AreResetsIn s.leg (resets_over sets s n) sets.applicable fix y) e k.resets) in
      let resets : p.resets ≡ q.resets = ap (λ (z : OvernightResets). z.resets) same_rates in
      let above = resets_above (resets_over sets s l) sets.applicable fix s.leg x h.resets in
      let over_p : ListsOver sets s l x p.payments p.periods =
      record { payments = h.payments; amounts = h.amounts; count = h.count; periods = h.periods } in
      let over_q : ListsOver sets s m y q.payments q.periods =
      record { payments = k.payments; amounts = k.amounts; count = k.count; periods = k.periods } in
      let lists = one_lists l is x above p.payments q.payments p.periods q.periods over_p
      (subst (λ (z : OvernightResets). ListsOver sets s l z q.payments q.periods) (sym same_rates)
      (subst (λ (n : Layout). ListsOver sets s n y q.payments q.periods) e over_q)) in
      let currency = h.currency ∙ sym k.currency in
      let day_count = h.day_count ∙ sym k.day_count in
      let floating = h.floating ∙ sym k.floating in
      let daily = h.daily ∙ sym k.daily in
      let boundaries : l ≡ m = sym e in
      let exchanges = one_exchanges s sets.payment p.exchanges q.exchanges h.exchanges k.exchanges in
      λ i. record {
        currency = currency i;
        day_count = day_count i;
        floating = floating i;
        daily = daily i;
        unadjusted = (boundaries i).unadjusted;
        adjusted = (boundaries i).adjusted;
        exchanges = exchanges i;
        payments = lists.0 i;
        periods = lists.1 i;
        resets = resets i;
      }

-- what every answer has, a result that meets the specification has
pub met_ok : {A R : Type 0} (spec : Spec A R) (P : A → Type 0) → ((a : A) → spec.Answers a → P a)
    → (r : Result A (Stopped R)) → Meets spec r → IfOk r P
met_ok spec P has (Ok a) h = has a h
met_ok spec P has (Err e) h = tt

-- ---- all streams of a swap

-- each item that is answered is, at its place
answered_at : {X A R : Type 0} (spec : ℕ → X → Spec A R) (n : ℕ) (xs : List X) (given : List A)
    → (each_in_turn spec n xs).Answers given → (i : ℕ) (x : X) → slice_get xs i ≡ Some x
    → (a : A) × (spec (n + i) x).Answers a
unfolding each_in_turn
answered_at spec n [] given h i x at = absurd (omega (arith, slice_get_within [] i x at))
answered_at {A = A} spec n (y ∷ ys) given h zero x at =
    let here : n + 0 ≡ n = omega arith in
    (h.0, subst (λ (k : ℕ). (spec k x).Answers h.0) (sym here) (subst (λ z. (spec n z).Answers h.0) (same_Some y x at) h.1))
answered_at {A = A} spec n (y ∷ ys) given h (suc i) x at =
    let there = answered_at spec (n + 1) ys h.2.0 h.2.1 i x at in
    let moved : (n + 1) + i ≡ n + suc i = omega arith in
    (there.0, subst (λ (k : ℕ). (spec k x).Answers there.0) moved there.1)

-- answers to all of them are in a relation that each of them is in
answers_pair : {X A R : Type 0} (spec : ℕ → X → Spec A R) (Is : X → A → Type 0) (n : ℕ) (xs : List X)
    → ((k i : ℕ) (x : X) → slice_get xs i ≡ Some x → (a : A) → (spec k x).Answers a → Is x a) → (given : List A)
    → (each_in_turn spec n xs).Answers given → Pairs Is xs given
unfolding each_in_turn
answers_pair spec Is n [] is given h = subst (Pairs Is []) (sym h) tt
answers_pair spec Is n (x ∷ xs) is given h =
    let rest = h.2 in
    subst (Pairs Is (x ∷ xs)) (sym rest.2)
    (is n zero x refl h.0 h.1, answers_pair spec Is (n + 1) xs (λ k i z at. is k (suc i) z at) rest.0 rest.1)

-- what holds of the item at each place holds of every item
every_at : {X : Type 0} (P : X → Type 0) (xs : List X) → ((i : ℕ) (x : X) → slice_get xs i ≡ Some x → P x) → Every P xs
every_at P [] holds = tt
every_at P (x ∷ xs) holds = (holds zero x refl, every_at P xs (λ i z at. holds (suc i) z at))

module _ (swap : Swap) (cal : List Section) (fix : RateTable) (lawful : IsLawfulSwap swap)
    (unbroken : (f : Broken) → BreaksTerms swap cal f → ⊥) where
  abbrev numbered : ℕ → Stream → Spec Part Broken
  numbered n s = refused_as (in_stream n) (stream_of (stream_sets cal s) fix s)

  abbrev IsOf : Stream → Part → Type 0
  IsOf s p = IsPart (stream_sets cal s) fix s p

  one_stream : (i : ℕ) (s : Stream) → slice_get swap.streams i ≡ Some s → Determined (stream_of (stream_sets cal s) fix s)
  one_stream i s there =
      stream_determined cal (stream_sets cal s) fix s (lawful_stream swap lawful i s there)
      (terms_kept swap cal lawful unbroken i s there) (sets_in_range cal s)

  -- a lawful swap that keeps its terms has one schedule, or one first rule that it breaks
  pub schedule_determined : Determined (schedule_of swap cal fix)
  unfolding schedule_of
  schedule_determined =
      each_determined numbered (λ s. Determined (stream_of (stream_sets cal s) fix s))
      (λ n s one. refused_as_determined (in_stream n) (stream_of (stream_sets cal s) fix s) one) 1 swap.streams
      (every_at (λ s. Determined (stream_of (stream_sets cal s) fix s)) swap.streams one_stream)

  -- what is answered is its schedule
  pub schedule_is : (parts : List Part) → (schedule_of swap cal fix).Answers parts → IsSchedule swap cal fix parts
  unfolding schedule_of
  schedule_is parts h =
      answers_pair numbered IsOf 1 swap.streams
      (λ k i s there p is. stream_is cal (stream_sets cal s) fix s (lawful_stream swap lawful i s there)
      (terms_kept swap cal lawful unbroken i s there) (sets_in_range cal s) p is) parts h

  -- a swap with an answer has only one schedule
  only_answer : (parts : List Part) → (schedule_of swap cal fix).Answers parts → (xs ys : List Part)
      → IsSchedule swap cal fix xs → IsSchedule swap cal fix ys → xs ≡ ys
  unfolding schedule_of
  only_answer parts h = one_partners IsOf swap.streams (λ i s there.
      let part = answered_at numbered 1 swap.streams parts h i s there in
      one_part cal (stream_sets cal s) fix s (lawful_stream swap lawful i s there)
      (terms_kept swap cal lawful unbroken i s there) (sets_in_range cal s) part.0 part.1)

  -- a swap that breaks no rule of its dates and amounts has a schedule
  pub schedule_there : DatedKept swap cal fix → (parts : List Part) × IsSchedule swap cal fix parts
  schedule_there kept =
      let made = answer_there schedule_determined kept in (made.0, schedule_is made.0 made.1)

  -- a swap that breaks no rule of its dates and amounts has at most one schedule
  pub one_schedule : DatedKept swap cal fix → (xs ys : List Part) → IsSchedule swap cal fix xs
      → IsSchedule swap cal fix ys → xs ≡ ys
  one_schedule kept xs ys h k =
      let made = answer_there schedule_determined kept in only_answer made.0 made.1 xs ys h k

  -- and at most one broken rule comes first
  pub one_broken : (x y : Broken) → DatedBroken swap cal fix x → DatedBroken swap cal fix y → x ≡ y
  one_broken = one_refusal schedule_determined
