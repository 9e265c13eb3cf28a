-- There is one accrual of each stream of a schedule on each day, and so a text of them.
use Rattle.std.proofs.Common.{◌≡◌, ℕ, zero, suc, ◌+◌, List, [], ◌∷◌, ◌++◌, length, Some, ℤ, refl, sym, ◌∙◌, ap, subst}
use Rattle.std.proofs.Common.{arith}
use Rattle.std.specs.Prelude.{slice_get}
use Rattle.std.proofs.lemmas.Option.{same_Some, slice_get_within}
use Rattle.irs_base.specs.Outcomes.{Only}
use Rattle.irs_base.proofs.EveryLemmas.{pairs_length}
use Rattle.irs_terms.specs.declared.stream.Stream.{Stream}
use Rattle.irs_rules.proofs.Kept.{terms_kept}
use Rattle.irs_schedule.specs.DaySets.{applicable_days, stream_sets}
use Rattle.irs_schedule.specs.Parts.{Part}
use Rattle.irs_schedule.specs.Schedules.{IsPart}
use Rattle.irs_schedule.proofs.PeriodLemmas.{rises_of}
use Rattle.irs_overnight.proofs.SourceLemmas.{partner}
use Rattle.irs_accrue.specs.Accruals.{accrual_text}
use Rattle.irs_accrue.specs.declared.accruals.Accrual.{Accrual}
use Rattle.irs_accrue.proofs.AccrualThere.{accrual_there}
use Rattle.irs_accrue.proofs.OneDaily.{one_accrual_of}
use Rattle.irs_accrue.proofs.Periods.{HasBoundaries}
use Rattle.irs_answers.specs.Tasks.{AccruesAt, Accruing, AreAccrued, TellsAccrued, accrued_page}
use Rattle.irs_answers.specs.Private.Outcomes.{IsAccruing}
use Rattle.irs_answers.proofs.AccrueLemmas.{only_accrual, stream_at, stream_span}
use Rattle.irs_answers.proofs.ObservedLemmas.{rising}

-- the lines of streams that each have one accrual
lines_there : (x : Accruing) (d : ℤ) (k : ℕ) (ps : List Part)
    → ((i : ℕ) (p : Part) → slice_get ps i ≡ Some p → (a : Accrual) × Only (AccruesAt x d (i + k) p) a)
    → (lines : List ℕ) × AreAccrued x d k ps lines
lines_there x d k [] each = ([], refl)
lines_there x d k (p ∷ ps) each =
    let here = each zero p refl in
    let first : zero + k ≡ k = omega arith in
    let only = subst (λ (n : ℕ). Only (AccruesAt x d n p) here.0) first here.1 in
    let rest = lines_there x d (k + 1) ps (λ i q there.
    let later = each (suc i) q there in
    let moved : suc i + k ≡ i + (k + 1) = omega arith in
    (later.0, subst (λ (n : ℕ). Only (AccruesAt x d n q) later.0) moved later.1)) in
    (accrual_text k here.0 ++ rest.0, (here.0, only, (rest.0, rest.1, refl)))

module _ (x : Accruing) (parts : List Part) (h : IsAccruing x parts) where
  module _ (i : ℕ) (s : Stream) (at : slice_get x.swap.streams i ≡ Some s) (p : Part)
      (there : slice_get parts i ≡ Some p) where
    own_part : IsPart (stream_sets x.cal s) x.table s p
    own_part =
        let found = partner (λ t q. IsPart (stream_sets x.cal t) x.table t q) x.swap.streams parts i s h.schedule at in
        subst (IsPart (stream_sets x.cal s) x.table s) (same_Some found.0 p (sym found.1 ∙ there)) found.2

    -- the adjusted boundaries of the part rise, one more than its periods
    pub part_boundaries : HasBoundaries p
    part_boundaries =
        let is = own_part in
        let count = is.count in
        let many = is.is_layout.adjusted.same_length in
        let a : length p.adjusted ≡ length is.layout.adjusted = ap (λ (l : List ℤ). length l) is.adjusted in
        let b : length p.unadjusted ≡ length is.layout.unadjusted = ap (λ (l : List ℤ). length l) is.unadjusted in
        record {
          adjusted = omega (arith, count, many, a, b);
          adjusted_rises = rises_of p.adjusted (rising x parts h i s at p there);
        }

  module _ (d : ℤ) where
    only_at : (i : ℕ) (p : Part) → slice_get parts i ≡ Some p → (a : Accrual) × Only (AccruesAt x d (i + 1) p) a
    only_at i p there =
        let within = slice_get_within parts i p there in
        let many = pairs_length (λ t q. IsPart (stream_sets x.cal t) x.table t q) x.swap.streams parts h.schedule in
        let found = stream_at x.swap.streams i (omega (arith, within, many)) in
        let s : Stream = found.0 in
        let days = applicable_days x.cal s in
        let span = stream_span x parts h i s found.1 in
        let a = accrual_there s days x.table p d span.0 span.1.1.regular in
        let kept = terms_kept x.swap x.cal h.lawful h.terms i s found.1 in (
          a.0,
          only_accrual x parts h i s found.1 d p a.0 a.1
              (one_accrual_of s days x.table p d (part_boundaries i s found.1 p there) kept.leg_rises),
        )

    -- a schedule has a text of what has accrued on a day
    pub page_there : (text : List ℕ) × TellsAccrued d x parts text
    page_there =
        let lines = lines_there x d 1 parts only_at in
        (accrued_page d lines.0, (lines.0, lines.1, refl))
