-- How many resets a stream has.
use Rattle.std.proofs.Common.{◌≡◌, ℕ, List, length, Option, Some, None, ap}
use Rattle.irs_terms.specs.declared.amounts.Leg.{Leg}
use Rattle.irs_terms.specs.declared.amounts.Leg.TheVariants.{Fixed, Floating}
use Rattle.irs_terms.specs.declared.dates.ResetTerms.{ResetTerms}
use Rattle.irs_terms.specs.declared.results.Reset.{Reset}
use Rattle.irs_resets.specs.Rates.{RateTable}
use Rattle.irs_resets.specs.Resets.{ResetSource, source_period_count, IsResetsOf, IsResets}

module _ (source : ResetSource) (rates : RateTable) (rows : List Reset) where
  -- the number of resets by the leg: one for each period where it floats, none where it is fixed
  abbrev pub many_by : Leg → ℕ
  many_by (Fixed values) = 0
  many_by (Floating float) = source_period_count source

  many_in : (leg : Leg) (reset : Option ResetTerms) → IsResetsOf leg reset source rates rows → length rows ≡ many_by leg
  many_in (Fixed values) reset has = ap length has
  many_in (Floating float) None has = absurd has
  many_in (Floating float) (Some t) has = has.many

  -- a floating stream has a reset a period, a fixed one none
  pub resets_count : IsResets source rates rows → length rows ≡ many_by source.stream.leg
  resets_count has = many_in source.stream.leg source.stream.reset has
