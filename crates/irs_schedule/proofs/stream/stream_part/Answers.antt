use Rattle.std.proofs.Common.{◌≡◌, ◌∙◌, inl, inr, subst, sym, ap}
use Rattle.irs_base.proofs.HandedAnswers.{handed_on}
use Rattle.irs_base.proofs.Outcomes.{stopped_meets}
use Rattle.irs_terms.specs.declared.stream.Stream.{Stream}
use Rattle.irs_schedule.specs.Private.Layouts.{MakePart, sets_of}
use Rattle.irs_schedule.specs.Parts.{is_daily, is_floating, kept_terms_of}
use Rattle.irs_schedule.specs.Schedules.{part_over, stream_of, periods_by, layout_dates}
use Rattle.irs_schedule.specs.declared.center_table.StreamDays.{StreamDays}
use Rattle.irs_schedule.specs.declared.kept_terms.KeptTerms.{KeptTerms}
use Rattle.irs_schedule.proofs.CenterLemmas.{days_in_range}
use Rattle.irs_schedule.proofs.Events.{events_are, events_cover}
use Rattle.irs_schedule.proofs.LayoutLemmas.{AreInRange, layout_some}
use Rattle.irs_schedule.proofs.LayoutRules.{layout_kept}
use Rattle.irs_schedule.proofs.PaidEntries.{entries_are}
use Rattle.irs_schedule.proofs.PartMade.{makes_part}
use Rattle.irs_schedule.proofs.stream.stream_part.Goals as goal

-- the good business days of the centres that the stream's elements name lie in the range
in_range : (days : StreamDays) → AreInRange (sets_of days)
in_range days = record {
  start = days_in_range days.start.now.sections days.start.now.names;
  end = days_in_range days.end.now.sections days.end.now.names;
  middle = days_in_range days.middle.now.sections days.middle.now.names;
  payment = days_in_range days.payment.now.sections days.payment.now.names;
  reset = days_in_range days.reset.now.sections days.reset.now.names;
  fixing = days_in_range days.fixing.now.sections days.fixing.now.names;
}

-- the terms that are kept are those of the stream
kept_is : (t : KeptTerms) (s : Stream) → t.currency ≡ s.currency → t.day_count ≡ s.day_count
    → t.notional ≡ s.notional → t.leg ≡ s.leg → t ≡ kept_terms_of s
kept_is t s currency day_count notional leg =
    λ i. record { currency = currency i; day_count = day_count i; notional = notional i; leg = leg i }

pub returns-in_err-layout-clause-meets : goal.returns-in_err-layout-clause-meets
unfolding stream_of
returns-in_err-layout-clause-meets c =
    let spec = stream_of (sets_of c.args.days.now) c.args.fix.now c.args.s.now in
    let e = c.in_err-layout.field-0.0 in
    stopped_meets spec c.from_residual.result e c.from_residual.ensures.1
    (handed_on e _ spec.Refuses (λ f first. inl first) c.in_err-layout.ensures)

pub returns-in_err-events-clause-meets : goal.returns-in_err-events-clause-meets
unfolding stream_of
returns-in_err-events-clause-meets c =
    let spec = stream_of (sets_of c.args.days.now) c.args.fix.now c.args.s.now in
    let e = c.in_err-events.field-0.0 in
    stopped_meets spec c.from_residual-in_err-events.result e c.from_residual-in_err-events.ensures.1
    (handed_on e _ spec.Refuses (λ f first. inr (c.in_ok-layout.layout, c.in_ok-layout.ensures, inl first))
    c.in_err-events.ensures.meets)

pub entries_over-requires-clause-covers : goal.entries_over-requires-clause-covers
entries_over-requires-clause-covers c =
    let sets = sets_of c.args.days.now in
    let s = c.args.s.now in
    let l = c.in_ok-layout.layout in
    events_cover sets c.args.fix.now s l c.requires.kept.0 c.requires.lawful c.requires.kept.1
    (layout_kept sets s l c.in_ok-layout.ensures) c.in_ok-events.events c.in_ok-events.ensures.meets

pub returns-in_err-entries-clause-meets : goal.returns-in_err-entries-clause-meets
unfolding stream_of
returns-in_err-entries-clause-meets c =
    let spec = stream_of (sets_of c.args.days.now) c.args.fix.now c.args.s.now in
    let e = c.in_err-entries.field-0.0 in
    stopped_meets spec c.from_residual-in_err-entries.result e c.from_residual-in_err-entries.ensures.1
    (handed_on e _ spec.Refuses (λ f first. inr (
      c.in_ok-layout.layout,
      c.in_ok-layout.ensures,
      inr (c.in_ok-events.events, c.in_ok-events.ensures.meets, inl first),
    ))
    c.in_err-entries.ensures.meets)

pub new-requires : goal.new-requires
new-requires c =
    let s = c.args.s.now in
    let sets = sets_of c.args.days.now in
    let fix = c.args.fix.now in
    let terms = c.requires.kept.1 in
    let l = c.in_ok-layout.layout in
    let kept = layout_kept sets s l c.in_ok-layout.ensures in
    let d = c.in_ok-events.events in
    let es = c.in_ok-entries.entries in
    let t = c.in_ok-terms.ensures in
    let same = kept_is c.in_ok-terms.terms s t.currency t.day_count t.notional t.leg in
    let covers = events_cover sets fix s l c.requires.kept.0 c.requires.lawful terms kept d c.in_ok-events.ensures.meets in
    subst (λ (k : KeptTerms). MakePart k l.unadjusted l.adjusted d.exchanges es d.resets d.rates) (sym same)
    (makes_part sets fix s l (layout_some sets s c.requires.lawful terms.dates l kept) kept d es c.requires.lawful
    (terms.notional_rises, terms.leg_rises) (in_range c.args.days.now) c.as_slice-days.ensures.days
    c.as_slice-moved.ensures.days (events_are sets fix s l d c.in_ok-events.ensures.meets) covers
    c.in_ok-events.ensures.rates
    (entries_are (layout_dates s l d.resets d.rates) d.payments es c.in_ok-entries.ensures.meets.1).0
    c.in_ok-entries.ensures.bounds)

pub returns-clause-meets : goal.returns-clause-meets
unfolding stream_of
returns-clause-meets c =
    let s = c.args.s.now in
    let l = c.in_ok-layout.layout in
    let d = c.in_ok-events.events in
    let es = c.in_ok-entries.entries in
    let t = c.in_ok-terms.ensures in
    let is = c.new.ensures in
    let same = kept_is c.in_ok-terms.terms s t.currency t.day_count t.notional t.leg in
    let currency = is.currency ∙ t.currency in
    let day_count = is.day_count ∙ t.day_count in
    let floating = is.floating ∙ ap is_floating t.leg in
    let daily = is.daily ∙ ap is_daily t.leg in
    let periods = is.periods ∙ ap (λ (k : KeptTerms). periods_by k l.unadjusted l.adjusted d.resets d.rates) same in
    let made : c.new.result ≡ part_over s l d es = λ i. record {
      currency = currency i;
      day_count = day_count i;
      floating = floating i;
      daily = daily i;
      unadjusted = is.unadjusted i;
      adjusted = is.adjusted i;
      exchanges = is.exchanges i;
      payments = is.payments i;
      periods = periods i;
      resets = is.resets i;
    } in
    (l, c.in_ok-layout.ensures, (d, c.in_ok-events.ensures.meets, (es, c.in_ok-entries.ensures.meets, made)))
