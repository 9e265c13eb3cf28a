-- The resets of a floating stream in a schedule that breaks no rule, and in one that differs in its fixings alone.
use Rattle.std.proofs.Common.{◌≡◌, inl, inr, ◌<ℤ◌, ℕ, ◌+◌, ◌-◌, ◌^◌, ◌<◌, ◌≤◌, List, length, Option, Some, None, if◌then◌else◌, ℤ, refl}
use Rattle.std.proofs.Common.{sym, ap, subst, ◌∙◌, arith}
use Rattle.std.specs.Prelude.{slice_get}
use Rattle.std.proofs.lemmas.Option.{get_or_from_slice_get, same_Some}
use Rattle.std.proofs.lemmas.Bool.{cases_lt}
use Rattle.jiff_core.proofs.SignedLemmas.{signed_arith}
use Rattle.irs_base.specs.Lists.{Every, day_at}
use Rattle.irs_base.proofs.MemberLemmas.{numbered_get}
use Rattle.irs_terms.specs.TermDates.{first_day_of, DatesInOrder}
use Rattle.irs_terms.specs.Lawful.{IsLawfulStream}
use Rattle.irs_terms.specs.declared.amounts.FloatTerms.{FloatTerms}
use Rattle.irs_terms.specs.declared.amounts.Leg.{Leg}
use Rattle.irs_terms.specs.declared.amounts.Leg.TheVariants.{Fixed, Floating}
use Rattle.irs_terms.specs.declared.dates.ResetTerms.{ResetTerms}
use Rattle.irs_terms.specs.declared.frequency.Frequency.{Frequency}
use Rattle.irs_terms.specs.declared.parameters.CalculationParameters.{CalculationParameters}
use Rattle.irs_terms.specs.declared.results.Reset.{Reset}
use Rattle.irs_terms.specs.declared.results.Span.{Span}
use Rattle.irs_terms.specs.declared.stream.Stream.{Stream}
use Rattle.irs_calendar.specs.GoodDays.{DaySet}
use Rattle.irs_calendar.specs.declared.sections.Section.{Section}
use Rattle.irs_periods.proofs.OneSpan.{one_span}
use Rattle.irs_periods.proofs.RegularEnds.{regular_end}
use Rattle.irs_periods.proofs.RegularStarts.{regular_start}
use Rattle.irs_periods.proofs.SpanThere.{lies_in_term}
use Rattle.irs_periods.specs.Boundaries.{Boundaries}
use Rattle.irs_periods.specs.Spans.{SpanKept, Regular}
use Rattle.irs_resets.specs.Rates.{ComesFrom, IsPeriodKind, IsObserved, Line, RateTable, rate_at}
use Rattle.irs_resets.specs.Resets.{IsPeriod, HasResets, IsReset, IsResets, IsResetsOf, ResetSource, source_of}
use Rattle.irs_resets.specs.declared.observed.PeriodKind.{PeriodKind}
use Rattle.irs_resets.proofs.DateLemmas.{one_dates}
use Rattle.irs_resets.proofs.KindLaws.{one_kind}
use Rattle.irs_resets.proofs.ObservedLaws.{one_observed}
use Rattle.irs_observed.specs.declared.daily_resets.OvernightResets.{OvernightResets}
use Rattle.irs_rules.specs.TermsRules.{TermsKept}
use Rattle.irs_schedule.specs.DaySets.{StreamSets, stream_sets}
use Rattle.irs_schedule.specs.Parts.{is_floating, IsDatedReset, Part, Rises}
use Rattle.irs_schedule.specs.Schedules.{part_over, resets_over, stream_of, AreResetsBy, AreResetsIn, IsPart}
use Rattle.irs_schedule.specs.Schedules.{layout_dates}
use Rattle.irs_schedule.specs.RowsOf.{no_reset}
use Rattle.irs_schedule.proofs.Events.{events_are}
use Rattle.irs_schedule.proofs.LayoutLemmas.{layout_adjusted_days, layout_some, sets_in_range}
use Rattle.irs_schedule.proofs.LayoutRules.{layout_kept, one_layout}
use Rattle.irs_schedule.proofs.PaidEntries.{entries_are}
use Rattle.irs_schedule.proofs.PartMade.{part_is}
use Rattle.irs_schedule.proofs.PeriodLemmas.{next_day, rises_of}
use Rattle.irs_schedule.proofs.RateLemmas.{resets_in_dated, resets_many, with_rates}
use Rattle.irs_overnight.specs.Overnight.{fixing_at}
use Rattle.irs_answers.specs.Derived.{FloatingStream, ComesFromLine}
use Rattle.irs_answers.proofs.KeptParts.{member_at}

-- ---- a part that breaks no rule

-- the part is that of the stream, and its resets are as many as its periods, on days of the range
pub record HasResetDays (cal : List Section) (fix : RateTable) (s : Stream) (p : Part) : Type 0 where
  pub part : IsPart (stream_sets cal s) fix s p
  pub some : 2 ≤ length p.adjusted
  pub many : length p.adjusted ≡ length p.resets + 1
  pub few : length p.adjusted < 2 ^ 32
  pub days : Every IsDatedReset p.resets
  pub rises : Rises p.adjusted
  -- between an initial stub and a final one lies a boundary
  pub apart : (span : Span) → Regular s span → first_day_of s <ℤ span.first → span.last <ℤ s.termination.day
      → 3 ≤ length p.adjusted

-- so it is in a layout that is kept
stubs_apart : (s : Stream) (span : Span) (b : List ℤ) → DatesInOrder s → Regular s span → SpanKept s span
    → Boundaries s span b → 2 ≤ length b → first_day_of s <ℤ span.first → span.last <ℤ s.termination.day → 3 ≤ length b
stubs_apart s span b dates regular kept listed some before after = elim (cases_lt 2 (length b)) [
  | inl more ↦ more
  | inr two ↦
      let starts : day_at b 1 ≡ span.first = (regular_start s span dates regular kept b listed).behind_stub before in
      let ends : day_at b (length b - 2) ≡ span.last =
      (regular_end s span dates regular kept b listed).before_stub after in
      let none : length b - 2 ≡ 0 = omega (arith, two) in
      let first : day_at b 0 ≡ span.last = ap (day_at b) (sym none) ∙ ends in
      let order = (lies_in_term s span dates regular kept.fits).order in
      let next : day_at b 0 <ℤ day_at b 1 =
      next_day b 1 (rises_of b listed.rising) (omega arith) (omega (arith, some)) in
      absurd (omega (arith, signed_arith, starts, first, order, next))
]

pub reset_days_of : (cal : List Section) (fix : RateTable) (s : Stream) (float : FloatTerms) (p : Part)
    → s.leg ≡ Floating float → IsLawfulStream s → TermsKept cal s → (stream_of (stream_sets cal s) fix s).Answers p
    → HasResetDays cal fix s p
unfolding stream_of
reset_days_of cal fix s float p pays lawful kept g =
    let sets = stream_sets cal s in
    let l = g.0 in
    let d = g.2.0 in
    let es = g.2.2.0 in
    let laid = layout_kept sets s l g.1 in
    let dated = events_are sets fix s l d g.2.1 in
    let some = layout_some sets s lawful kept.dates l laid in
    let range = sets_in_range cal s in
    let moved = layout_adjusted_days sets s lawful kept.dates l laid range in
    let x = with_rates d.resets d.rates in
    let source = resets_over sets s l in
    let by_leg : length d.resets ≡ (if is_floating s.leg then length l.adjusted - 1 else 0) =
    resets_many source sets.applicable fix s.leg x refl dated.resets in
    let counted : length d.resets ≡ length l.adjusted - 1 =
    subst (λ (leg : Leg). length d.resets ≡ (if is_floating leg then length l.adjusted - 1 else 0)) pays by_leg in
    let paid = entries_are (layout_dates s l d.resets d.rates) d.payments es g.2.2.1.1 in
    let made : HasResetDays cal fix s (part_over s l d es) = record {
      part = part_is sets fix s l some laid d es dated paid;
      some = omega (arith, some, laid.adjusted.same_length);
      many = omega (arith, counted, some, laid.adjusted.same_length);
      few = omega (arith, laid.few, laid.adjusted.same_length);
      days = resets_in_dated source sets.applicable fix
          (record { adjusted = moved; reset_set = range.reset; fixing_set = range.fixing }) s.leg x dated.resets;
      rises = rises_of l.adjusted laid.rises;
      apart = λ span regular before after.
          let same : l.span ≡ span = one_span s l.span span laid.regular regular in
          let three : 3 ≤ length l.unadjusted =
          stubs_apart s l.span l.unadjusted kept.dates laid.regular laid.kept laid.unadjusted some
          (subst (λ (x : Span). first_day_of s <ℤ x.first) (sym same) before)
          (subst (λ (x : Span). x.last <ℤ s.termination.day) (sym same) after) in
          omega (arith, three, laid.adjusted.same_length);
    } in
    subst (HasResetDays cal fix s) (sym g.2.2.2) made

-- ---- the resets of a stream without calculation parameters

-- the rows by the terms of resets that the stream has
record FoundResets (reset : Option ResetTerms) (source : ResetSource) (float : FloatTerms) (fix : RateTable)
    (rows : List Reset) : Type 0 where
  terms : ResetTerms
  is : reset ≡ Some terms
  has : HasResets source float terms fix rows

module _ (float : FloatTerms) (plain : float.parameters ≡ None) (source : ResetSource) (fix : RateTable) where
  by_parameters : (f : FloatTerms) (parameters : Option CalculationParameters) (applicable : DaySet)
      (x : OvernightResets) → parameters ≡ None → AreResetsBy f parameters source applicable fix x
      → IsResets source fix x.resets
  by_parameters f None applicable x e h = h.0
  by_parameters f (Some parameters) applicable x e h = absurd (cc)

  plain_resets : (leg : Leg) (applicable : DaySet) (x : OvernightResets) → leg ≡ Floating float
      → AreResetsIn leg source applicable fix x → IsResets source fix x.resets
  plain_resets (Fixed values) applicable x e h = h.0
  plain_resets (Floating f) applicable x e h =
      let same : f ≡ float = cc in
      by_parameters f f.parameters applicable x (ap (λ (g : FloatTerms). g.parameters) same ∙ plain) h

  found_resets : (leg : Leg) (reset : Option ResetTerms) (rows : List Reset) → leg ≡ Floating float
      → IsResetsOf leg reset source fix rows → FoundResets reset source float fix rows
  found_resets (Fixed values) reset rows e h = absurd (cc)
  found_resets (Floating f) None rows e h = absurd h
  found_resets (Floating f) (Some terms) rows e h =
      let same : f ≡ float = cc in
      record { terms = terms; is = refl; has = subst (λ (g : FloatTerms). HasResets source g terms fix rows) same h }

-- ---- two schedules that differ in their fixings

-- in q period i has the fixing date that it has in p, and as observed rate that of the line on this date
pub record Refixed (u : RateTable) (p q : Part) (index : List ℕ) (tenor : Option Frequency) (i : ℕ) : Type 0 where
  pub reset : Reset
  pub at : slice_get q.resets (i - 1) ≡ Some reset
  pub fixing : reset.fixing ≡ fixing_at p.resets i
  pub observed : reset.observed ≡ rate_at u index (record { date = fixing_at p.resets i; tenor = tenor })

module _ (cal : List Section) (t u : RateTable) (stream : FloatingStream)
    (pays : stream.stream.leg ≡ Floating stream.float) (plain : stream.float.parameters ≡ None) (p q : Part)
    (h : IsPart (stream_sets cal stream.stream) t stream.stream p)
    (k : IsPart (stream_sets cal stream.stream) u stream.stream q) where
  abbrev s : Stream
  s = stream.stream

  abbrev float : FloatTerms
  float = stream.float

  abbrev sets : StreamSets
  sets = stream_sets cal s

  abbrev first : ResetSource
  first = source_of s h.layout.span p.adjusted sets.reset sets.fixing

  abbrev second : ResetSource
  second = source_of s k.layout.span q.adjusted sets.reset sets.fixing

  layouts : h.layout ≡ k.layout
  layouts = one_layout sets s h.layout k.layout h.is_layout k.is_layout

  -- they have the same boundaries
  pub same_boundaries : p.adjusted ≡ q.adjusted
  same_boundaries =
      let moved : h.layout.adjusted ≡ k.layout.adjusted = λ i. (layouts i).adjusted in
      h.adjusted ∙ moved ∙ sym k.adjusted

  sources : first ≡ second
  sources = λ i. source_of s (layouts i).span (same_boundaries i) sets.reset sets.fixing

  -- a period that takes its rate from a line takes it from the line of its fixing date
  refixed_by : FoundResets s.reset first float t p.resets → FoundResets s.reset second float u q.resets
      → (index : List ℕ) (tenor : Option Frequency) (i : ℕ) → IsPeriod q.adjusted i
      → ComesFromLine stream (length q.adjusted - 1) i index tenor → Refixed u p q index tenor i
  refixed_by a b index tenor i period takes =
      let many = a.has.many in
      let count = b.has.many in
      let same_length : length p.adjusted ≡ length q.adjusted = ap length same_boundaries in
      let number : 1 + (i - 1) ≡ i = omega (arith, period.0) in
      let x = member_at p.resets (i - 1) (omega (arith, many, same_length, period.0, period.1)) in
      let y = member_at q.resets (i - 1) (omega (arith, count, period.0, period.1)) in
      let terms : a.terms ≡ b.terms = same_Some a.terms b.terms (sym a.is ∙ b.is) in
      let own : IsReset first float a.terms t i x.0 =
      subst (λ (n : ℕ). IsReset first float a.terms t n x.0) number
      (numbered_get (IsReset first float a.terms t) 1 (i - 1) p.resets x.0 a.has.each x.1) in
      let over : IsReset second float a.terms t i x.0 =
      subst (λ (source : ResetSource). IsReset source float a.terms t i x.0) {y = second} sources own in
      let by_terms : IsReset second float b.terms t i x.0 =
      subst (λ (r : ResetTerms). IsReset second float r t i x.0) terms over in
      let other : IsReset second float b.terms u i y.0 =
      subst (λ (n : ℕ). IsReset second float b.terms u n y.0) number
      (numbered_get (IsReset second float b.terms u) 1 (i - 1) q.resets y.0 b.has.each y.1) in
      let dates = one_dates b.terms second.days i x.0.reset x.0.fixing y.0.reset y.0.fixing by_terms.dates other.dates in
      let read : fixing_at p.resets i ≡ x.0.fixing =
      ap (λ (r : Reset). r.fixing) (get_or_from_slice_get p.resets (i - 1) x.0 no_reset x.1) in
      let fixing : y.0.fixing ≡ fixing_at p.resets i = sym (read ∙ dates.1) in
      let n = length q.adjusted - 1 in
      let spans : takes.span ≡ k.layout.span =
      one_span s takes.span k.layout.span takes.regular k.is_layout.regular in
      let is_kind : IsPeriodKind s k.layout.span n i takes.kind =
      subst (λ (span : Span). IsPeriodKind s span n i takes.kind) spans takes.is_kind in
      let kinds : takes.kind ≡ other.kind = one_kind s k.layout.span n i takes.kind other.kind is_kind other.is_kind in
      let comes : ComesFrom other.kind float s.stubs (Line index tenor) =
      subst (λ (kind : PeriodKind). ComesFrom kind float s.stubs (Line index tenor)) {y = other.kind} kinds
      takes.comes_from in
      let line : Option ℤ = rate_at u index (record { date = y.0.fixing; tenor = tenor }) in
      let by_line : IsObserved other.kind float s.stubs u y.0.fixing line =
      record { source = Line index tenor; comes_from = comes; is = refl } in
      let observed = one_observed float other.kind s.stubs u y.0.fixing y.0.observed line other.observed by_line in
      record {
        reset = y.0;
        at = y.1;
        fixing = fixing;
        observed = observed ∙ ap (λ (d : ℤ). rate_at u index (record { date = d; tenor = tenor })) fixing;
      }

  -- the same of the resets of both parts
  pub refixed : (index : List ℕ) (tenor : Option Frequency) (i : ℕ) → IsPeriod q.adjusted i
      → ComesFromLine stream (length q.adjusted - 1) i index tenor → Refixed u p q index tenor i
  refixed =
      refixed_by
      (found_resets float plain first t s.leg s.reset p.resets pays
      (plain_resets float plain first t s.leg sets.applicable (record { resets = p.resets; rates = h.rates }) pays
      h.resets))
      (found_resets float plain second u s.leg s.reset q.resets pays
      (plain_resets float plain second u s.leg sets.applicable (record { resets = q.resets; rates = k.rates }) pays
      k.resets))
