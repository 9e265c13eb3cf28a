use Rattle.std.proofs.Common.{◌≡◌, ◌∙◌, ◌+◌, ◌<◌, ℕ, List, Some, length, refl, sym, subst, arith}
use Rattle.std.specs.Prelude.{slice_get, get_or}
use Rattle.std.proofs.lemmas.Option.{same_Some, slice_get_read}
use Rattle.std.proofs.lemmas.Result.{IfOk-weaker}
use Rattle.irs_base.specs.Outcomes.{Only}
use Rattle.irs_base.proofs.EveryLemmas.{pairs_length}
use Rattle.irs_base.proofs.MemberLemmas.{every_get}
use Rattle.irs_calendar.specs.GoodDays.{DaySet}
use Rattle.irs_rules.specs.TermsRules.{TermsKept}
use Rattle.irs_rules.proofs.Kept.{lawful_stream, terms_kept}
use Rattle.irs_schedule.specs.DaySets.{applicable_days, stream_sets}
use Rattle.irs_schedule.specs.Parts.{KeepsBounds, Part}
use Rattle.irs_schedule.specs.Schedules.{IsPart}
use Rattle.irs_terms.specs.Lawful.{IsLawfulStream}
use Rattle.irs_terms.specs.declared.stream.Stream.{Stream}
use Rattle.irs_periods.specs.Boundaries.{HasSpan}
use Rattle.irs_accrue.specs.DailyAccruals.{IsAccrualOf}
use Rattle.irs_accrue.specs.declared.accruals.Accrual.{Accrual}
use Rattle.irs_accrue.proofs.OneDaily.{one_accrual_of}
use Rattle.irs_accrue.proofs.Periods.{has_boundaries}
use Rattle.irs_answers.specs.Tasks.{AccruesAt, Accruing, accruing}
use Rattle.irs_answers.specs.Private.Outcomes.{IsAccruing}
use Rattle.irs_answers.proofs.AccrueLemmas.{only_accrual, stream_span}
use Rattle.irs_answers.proofs.accruing.accrual_in.Goals as goal

-- what holds of the stream at a place of a swap that breaks no rule
record IsKept (x : Accruing) (i : ℕ) (s : Stream) : Type 0 where
  at : slice_get x.swap.streams i ≡ Some s
  lawful : IsLawfulStream s
  kept : TermsKept x.cal s
  span : HasSpan s

-- a swap has a stream for each part of its schedule
as_many : (x : Accruing) (parts : List Part) → IsAccruing x parts → length x.swap.streams ≡ length parts
as_many x parts h =
    sym (pairs_length (λ (s : Stream) (p : Part). IsPart (stream_sets x.cal s) x.table s p) x.swap.streams parts h.schedule)

-- the stream that is read at a place
kept_at : (x : Accruing) (parts : List Part) → IsAccruing x parts → (i : ℕ) → i < length parts → (ss : List Stream)
    → ss ≡ x.swap.streams → (s : Stream) → s ≡ get_or ss i s → IsKept x i s
kept_at x parts h i low ss same s is =
    let many = as_many x parts h in
    let within : i < length ss = rw same (omega (arith, many, low)) in
    let at : slice_get x.swap.streams i ≡ Some s =
    subst (λ (zs : List Stream). slice_get zs i ≡ Some s) same (slice_get_read ss (length ss) i s refl within is) in
    record {
      at = at;
      lawful = lawful_stream x.swap h.lawful i s at;
      kept = terms_kept x.swap x.cal h.lawful h.terms i s at;
      span = stream_span x parts h i s at;
    }

pub bounds-as_slice-place : goal.bounds-as_slice-place
bounds-as_slice-place c =
    let f = c.args.found.now in
    let many = as_many (accruing f.swap f.calendars.now f.fixings.now) f.schedule c.requires.files in
    rw c.as_slice.ensures (omega (arith, many, c.requires.place))

pub applicable_days-requires-clause-lawful : goal.applicable_days-requires-clause-lawful
applicable_days-requires-clause-lawful c =
    let f = c.args.found.now in
    IsKept.lawful (kept_at (accruing f.swap f.calendars.now f.fixings.now) f.schedule c.requires.files c.args.index c.requires.place
    c.as_slice.result.now c.as_slice.ensures c.index-as_slice-place.result c.index-as_slice-place.is)

pub applicable_days-requires-clause-kept : goal.applicable_days-requires-clause-kept
applicable_days-requires-clause-kept c =
    let f = c.args.found.now in
    IsKept.kept (kept_at (accruing f.swap f.calendars.now f.fixings.now) f.schedule c.requires.files c.args.index c.requires.place
    c.as_slice.result.now c.as_slice.ensures c.index-as_slice-place.result c.index-as_slice-place.is)

pub accrued_of-requires : goal.accrued_of-requires
accrued_of-requires c =
    let f = c.args.found.now in
    let is = kept_at (accruing f.swap f.calendars.now f.fixings.now) f.schedule c.requires.files c.args.index c.requires.place
    c.as_slice.result.now c.as_slice.ensures c.index-as_slice-place.result c.index-as_slice-place.is in
    record {
      lawful = is.lawful;
      rises = is.kept.leg_rises;
      dates = is.kept.dates;
      frequency = is.kept.frequency;
      span = is.span;
    }

pub returns-clause-accrues : goal.returns-clause-accrues
returns-clause-accrues c = λ p there.
    let f = c.args.found.now in
    let x = accruing f.swap f.calendars.now f.fixings.now in
    let i = c.args.index in
    let d = c.args.date in
    let s = c.index-as_slice-place.result in
    let part = c.index-streams-place.result in
    let parts = c.streams.result.now in
    let is = kept_at x f.schedule c.requires.files i c.requires.place c.as_slice.result.now c.as_slice.ensures s
    c.index-as_slice-place.is in
    let low : i < length parts = rw c.streams.ensures.value c.requires.place in
    let read = slice_get_read parts (length parts) i part refl low c.index-streams-place.is in
    let bounds : KeepsBounds part = every_get KeepsBounds parts i part (rw c.streams.ensures.value c.streams.ensures.bounds.each) read in
    let same : part ≡ p =
    same_Some part p (sym (subst (λ (ps : List Part). slice_get ps i ≡ Some part) c.streams.ensures.value read) ∙ there) in
    let set = applicable_days f.calendars.now s in
    let one = one_accrual_of s set f.fixings.now part d (has_boundaries part bounds) is.kept.leg_rises in
    IfOk-weaker c.accrued_of.result _ (Only (AccruesAt x d (i + 1) p))
    (λ (a : Accrual) h.
    subst (λ (q : Part). Only (AccruesAt x d (i + 1) q) a) same
    (only_accrual x f.schedule c.requires.files i s is.at d part a
    (subst (λ (days : DaySet). IsAccrualOf s days f.fixings.now part d a) c.in_ok-days.ensures h) one))
    c.accrued_of.ensures.accrual
