-- What has accrued depends on a table of rates by its rates alone.
use Rattle.std.proofs.Common.{◌≡◌, inl, inr, ℕ, ◌+◌, List, [], ◌∷◌, Option, Some, None, ℤ, sym, subst}
use Rattle.irs_base.specs.Outcomes.{Only}
use Rattle.irs_base.specs.declared.line.Dec.{Dec}
use Rattle.irs_terms.specs.declared.amounts.FloatTerms.{FloatTerms}
use Rattle.irs_terms.specs.declared.amounts.Leg.{Leg}
use Rattle.irs_terms.specs.declared.amounts.Leg.TheVariants.{Fixed, Floating}
use Rattle.irs_terms.specs.declared.amounts.StubTerms.{StubTerms}
use Rattle.irs_terms.specs.declared.codes.DayCountCode.{DayCountCode}
use Rattle.irs_terms.specs.declared.parameters.CalculationParameters.{CalculationParameters}
use Rattle.irs_terms.specs.declared.results.Frac.{Frac}
use Rattle.irs_terms.specs.declared.stream.Stream.{Stream}
use Rattle.irs_terms.specs.declared.stream_list.Swap.{Swap}
use Rattle.irs_calendar.specs.GoodDays.{DaySet}
use Rattle.irs_calendar.specs.declared.sections.Section.{Section}
use Rattle.irs_resets.specs.Rates.{RateTable, SameRates}
use Rattle.irs_resets.specs.declared.observed.PeriodKind.{PeriodKind}
use Rattle.irs_observed.specs.ObservedRates.{DailyRates, daily_rates, one_day}
use Rattle.irs_observed.specs.OvernightRates.{IsRateBefore}
use Rattle.irs_schedule.specs.DaySets.{applicable_days}
use Rattle.irs_schedule.specs.Parts.{Part}
use Rattle.irs_schedule.specs.declared.views.CalculationPeriod.{CalculationPeriod}
use Rattle.irs_accrue.specs.DailyAccruals.{AccruesAs, AccruesDaily, DailyTerms, EarnsBefore, IsAccrualBy}
use Rattle.irs_accrue.specs.DailyAccruals.{IsAccrualWith, IsDailyAccrual, before_first, daily_terms, method_of, observing}
use Rattle.irs_accrue.specs.DailyAccruals.{on_first, unobserved, whole_period}
use Rattle.irs_accrue.specs.declared.accruals.Accrual.{Accrual}
use Rattle.irs_accrue.specs.declared.accruals.Accrual.TheVariants.{Outside, Inside}
use Rattle.irs_answers.specs.Tasks.{AccruesAt, AreAccrued, TellsAccrued, accruing}

module _ (t u : RateTable) (e : SameRates t u) (leg : Leg) (code : DayCountCode) (float : FloatTerms)
    (parameters : CalculationParameters) (set : DaySet) where
  abbrev by : RateTable → DailyTerms
  by table = daily_terms leg code float parameters set table

  earns_same : (places : ℕ) (x : CalculationPeriod) (b : ℤ) (frac : Frac) (amount : Option Dec)
      → EarnsBefore (by t) places x b frac amount → EarnsBefore (by u) places x b frac amount
  earns_same places x b frac amount h =
      let daily : daily_rates t float.index ≡ daily_rates u float.index =
      λ i d. e float.index (record { date = d; tenor = Some one_day }) i in
      record {
        observed = h.observed;
        is_observed =
            subst (λ (rates : DailyRates). IsRateBefore (method_of (by t)) rates (whole_period (by t) x) b h.observed) daily
            h.is_observed;
        known = h.known;
        gives = h.gives;
        accrued = h.accrued;
      }

  daily_same : (places : ℕ) (x : CalculationPeriod) (d : ℤ) (frac : Frac) (amount : Option Dec)
      → AccruesDaily (by t) places x d frac amount → AccruesDaily (by u) places x d frac amount
  daily_same places x d frac amount (on_first first none) = on_first first none
  daily_same places x d frac amount (before_first after a b is none zero) = before_first after a b is none zero
  daily_same places x d frac amount (observing after a b is some earns) =
      observing after a b is some (earns_same places x b frac amount earns)
  daily_same places x d frac amount (unobserved after none absent) = unobserved after none absent

  as_same : (stubs : Option StubTerms) (kind : PeriodKind) (places : ℕ) (x : CalculationPeriod) (d : ℤ) (frac : Frac)
      (amount : Option Dec) → AccruesAs (by t) stubs kind places x d frac amount
      → AccruesAs (by u) stubs kind places x d frac amount
  as_same stubs kind places x d frac amount (inl own) = inl own
  as_same stubs kind places x d frac amount (inr h) = inr (h.0, daily_same places x d frac amount h.1)

  accrual_same : (s : Stream) (p : Part) (d : ℤ) (a : Accrual) → IsDailyAccrual (by t) s p d a
      → IsDailyAccrual (by u) s p d a
  accrual_same s p d Outside h = h
  accrual_same s p d (Inside number days frac amount) h = record {
    period = h.period;
    runs = h.runs;
    has_run = h.has_run;
    span = h.span;
    regular = h.regular;
    kind = h.kind;
    is_kind = h.is_kind;
    accrues = as_same s.stubs h.kind _ h.period d frac amount h.accrues;
  }

module _ (t u : RateTable) (e : SameRates t u) where
  with_same : (parameters : Option CalculationParameters) (float : FloatTerms) (s : Stream) (set : DaySet) (p : Part)
      (d : ℤ) (a : Accrual) → IsAccrualWith parameters float s set t p d a → IsAccrualWith parameters float s set u p d a
  with_same None float s set p d a h = h
  with_same (Some parameters) float s set p d a h =
      accrual_same t u e s.leg s.day_count float parameters set s p d a h

  by_same : (leg : Leg) (s : Stream) (set : DaySet) (p : Part) (d : ℤ) (a : Accrual) → IsAccrualBy leg s set t p d a
      → IsAccrualBy leg s set u p d a
  by_same (Fixed values) s set p d a h = h
  by_same (Floating float) s set p d a h = with_same float.parameters float s set p d a h

  at_same : (swap : Swap) (cal : List Section) (d : ℤ) (number : ℕ) (p : Part) (a : Accrual)
      → AccruesAt (accruing swap cal t) d number p a → AccruesAt (accruing swap cal u) d number p a
  at_same swap cal d number p a h = record {
    stream = h.stream;
    at = h.at;
    accrues = by_same h.stream.leg h.stream (applicable_days cal h.stream) p d a h.accrues;
  }

module _ (t u : RateTable) (e : SameRates t u) (swap : Swap) (cal : List Section) (d : ℤ) where
  lines_same : (k : ℕ) (ps : List Part) (lines : List ℕ) → AreAccrued (accruing swap cal t) d k ps lines
      → AreAccrued (accruing swap cal u) d k ps lines
  lines_same k [] lines h = h
  lines_same k (p ∷ ps) lines h =
      let back : SameRates u t = λ index slot. sym (e index slot) in
      let only : Only (AccruesAt (accruing swap cal u) d k p) h.0 =
      record {
        is = at_same t u e swap cal d k p h.0 h.1.is;
        only = λ b is. h.1.only b (at_same u t back swap cal d k p b is);
      } in
      (h.0, only, (h.2.0, lines_same (k + 1) ps h.2.0 h.2.1, h.2.2))

  -- the text of what has accrued is the same
  pub accrued_same : (parts : List Part) (text : List ℕ) → TellsAccrued d (accruing swap cal t) parts text
      → TellsAccrued d (accruing swap cal u) parts text
  accrued_same parts text h = (h.0, lines_same 1 parts h.0 h.1, h.2)
