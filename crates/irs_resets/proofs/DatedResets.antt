-- The dates of resets are days of the range, and what they observe are rates.
use Rattle.std.proofs.Common.{ℕ, zero, suc, ◌-◌, List, [], ◌∷◌, Option, Some, None, IfSome, option_and_then, slice_get}
use Rattle.std.proofs.Common.{ℤ, sym, subst}
use Rattle.irs_base.specs.Lists.{AreDays, Every}
use Rattle.irs_base.specs.Days.{IsDay}
use Rattle.irs_base.proofs.DayListLemmas.{day_at_day}
use Rattle.irs_base.proofs.EveryLemmas.{every_numbered}
use Rattle.irs_terms.specs.Lawful.{IsRate}
use Rattle.irs_terms.specs.declared.amounts.FloatTerms.{FloatTerms}
use Rattle.irs_terms.specs.declared.amounts.Leg.{Leg}
use Rattle.irs_terms.specs.declared.amounts.Leg.TheVariants.{Fixed, Floating}
use Rattle.irs_terms.specs.declared.codes.Relative.{Relative}
use Rattle.irs_terms.specs.declared.codes.Relative.TheVariants.{Start, End}
use Rattle.irs_terms.specs.declared.dates.FixTerms.{FixTerms}
use Rattle.irs_terms.specs.declared.dates.ResetTerms.{ResetTerms}
use Rattle.irs_terms.specs.declared.results.Reset.{Reset}
use Rattle.irs_calendar.specs.GoodDays.{DaySet}
use Rattle.irs_adjust.proofs.FoundDays.{InRange, adjusts_day}
use Rattle.irs_adjust.proofs.MovedDays.{moves_day}
use Rattle.irs_resets.specs.Rates.{RateTable}
use Rattle.irs_resets.specs.Resets.{FixesOn, IsDates, base_day, IsReset, IsResets, IsResetsOf, ResetSource}
use Rattle.irs_resets.proofs.ResetsThere.{InDays}

-- the observed rate of a reset is a rate
pub observed_small : (rs : List Reset) (j : ℕ) → Every (λ (r : Reset). IfSome r.observed IsRate) rs
    → IfSome (option_and_then (λ (r : Reset). r.observed) (slice_get rs j)) IsRate
observed_small [] j h = tt
observed_small (r ∷ rs) zero h = h.0
observed_small (r ∷ rs) (suc j) h = observed_small rs j h.1

-- both dates are days of the range
abbrev IsDated : Reset → Type 0
IsDated r = IsDay r.reset × IsDay r.fixing

base_day_is : (relative : Relative) (a : List ℤ) (i : ℕ) → AreDays a → IsDay (base_day relative a i)
base_day_is Start a i days = day_at_day a (i - 1) days
base_day_is End a i days = day_at_day a i days

fixing_dated : (fixing : Option FixTerms) (set : DaySet) (r f : ℤ) → InRange set → IsDay r → FixesOn fixing set r f
    → IsDay f
fixing_dated None set r f range day h = subst IsDay (sym h) day
fixing_dated (Some fix) set r f range day h =
    adjusts_day fix.adj.code set h.moved f (moves_day fix.offset set r h.moved day range h.moves) range h.adjusts

module _ (source : ResetSource) (rates : RateTable) (range : InDays source.days) where
  -- the dates of a reset are days of the range
  pub dates_dated : (t : ResetTerms) (i : ℕ) (r : Reset) → IsDates t source.days i r.reset r.fixing
      → IsDay r.reset × IsDay r.fixing
  dates_dated t i r h =
      let days = source.days in
      let reset : IsDay r.reset =
      adjusts_day t.adj.code days.reset_set (base_day t.relative days.adjusted i) r.reset
      (base_day_is t.relative days.adjusted i range.adjusted) range.reset_set h.resets in
      (reset, fixing_dated t.fixing days.fixing_set r.reset r.fixing range.fixing_set reset h.fixes)

  reset_dated : (float : FloatTerms) (t : ResetTerms) (i : ℕ) (r : Reset) → IsReset source float t rates i r → IsDated r
  reset_dated float t i r h = dates_dated t i r h.dates

  dated_by : (leg : Leg) (t : Option ResetTerms) (rs : List Reset) → IsResetsOf leg t source rates rs → Every IsDated rs
  dated_by (Fixed values) t rs h = subst (Every IsDated) (sym h) tt
  dated_by (Floating float) None rs h = absurd h
  dated_by (Floating float) (Some t) rs h =
      every_numbered (IsReset source float t rates) IsDated 1 rs (reset_dated float t) h.each

  -- the dates of resets are days of the range
  pub resets_dated : (rs : List Reset) → IsResets source rates rs → Every (λ r. IsDay r.reset × IsDay r.fixing) rs
  resets_dated rs h = dated_by source.stream.leg source.stream.reset rs h
