-- There is one accrual on a day of a stream of either kind.
use Rattle.std.proofs.Common.{◌≡◌, inl, inr, ℕ, length, Option, Some, None, option_map, ℤ, refl, sym, ap}
use Rattle.std.proofs.Common.{◌∙◌, subst, arith}
use Rattle.jiff_core.proofs.SignedLemmas.{signed_arith}
use Rattle.irs_base.proofs.MemberLemmas.{some_is}
use Rattle.irs_base.specs.declared.line.Dec.{Dec}
use Rattle.irs_terms.specs.Lawful.{decimals_of}
use Rattle.irs_terms.specs.TermDates.{LegStepsRise}
use Rattle.irs_terms.specs.declared.amounts.FloatTerms.{FloatTerms}
use Rattle.irs_terms.specs.declared.amounts.Leg.{Leg}
use Rattle.irs_terms.specs.declared.amounts.Leg.TheVariants.{Fixed, Floating}
use Rattle.irs_terms.specs.declared.amounts.StubTerms.{StubTerms}
use Rattle.irs_terms.specs.declared.parameters.CalculationParameters.{CalculationParameters}
use Rattle.irs_terms.specs.declared.results.Frac.{Frac}
use Rattle.irs_terms.specs.declared.results.Span.{Span}
use Rattle.irs_terms.specs.declared.stream.Stream.{Stream}
use Rattle.irs_calendar.specs.GoodDays.{DaySet}
use Rattle.irs_periods.proofs.OneSpan.{one_span}
use Rattle.irs_resets.proofs.KindLaws.{one_kind}
use Rattle.irs_resets.specs.Rates.{IsPeriodKind, RateTable}
use Rattle.irs_resets.specs.declared.observed.PeriodKind.{PeriodKind}
use Rattle.irs_observed.proofs.PeriodLemmas.{one_end, one_start}
use Rattle.irs_observed.proofs.RunningLemmas.{before_above, one_before}
use Rattle.irs_observed.specs.OvernightRates.{IsRateBefore}
use Rattle.irs_observed.specs.declared.overnight_rate.OvernightRate.{OvernightRate}
use Rattle.irs_observed.specs.declared.overnight_rate.OvernightRate.TheVariants.{Stated, Known, Absent, OutOfRange}
use Rattle.irs_compound.specs.Private.RateLaws.{one_overnight}
use Rattle.irs_compound.specs.PeriodRates.{IsAbove as HasDenominator}
use Rattle.irs_compound.specs.declared.periods.Rates.{Rates}
use Rattle.irs_schedule.specs.Parts.{Part}
use Rattle.irs_schedule.specs.declared.views.CalculationPeriod.{CalculationPeriod}
use Rattle.irs_accrue.specs.Accruals.{IsAccrued, HasRun}
use Rattle.irs_accrue.specs.DailyAccruals.{AccruesAs, AccruesBy, AccruesDaily, DailyTerms, EarnsBefore, GivesRate}
use Rattle.irs_accrue.specs.DailyAccruals.{IsAccrualBy, IsAccrualOf, IsAccrualWith, IsDailyAccrual, before_first, daily_terms}
use Rattle.irs_accrue.specs.DailyAccruals.{method_of, observing, on_first, daily_rates_of, run_of, unobserved}
use Rattle.irs_accrue.specs.DailyAccruals.{whole_period}
use Rattle.irs_accrue.specs.declared.accruals.Accrual.{Accrual}
use Rattle.irs_accrue.specs.declared.accruals.Accrual.TheVariants.{Outside, Inside}
use Rattle.irs_accrue.proofs.OneAccrual.{IsAbove, both_accrued, both_run, den_above, inside_same, not_outside, one_in}
use Rattle.irs_accrue.proofs.Periods.{HasBoundaries, one_number, runs_from_to}

-- ---- one amount

-- the rate by the members before a day has a denominator above 0, if it is known
pub has_denominator : (t : DailyTerms) (x : CalculationPeriod) (b : ℤ) (r : OvernightRate)
    → IsRateBefore (method_of t) (daily_rates_of t) (whole_period t x) b r → HasDenominator r
has_denominator t x b (Stated rate) h = tt
has_denominator t x b (Known y) h = before_above (method_of t) (daily_rates_of t) (whole_period t x) b y h
has_denominator t x b Absent h = tt
has_denominator t x b OutOfRange h = tt

module _ (t : DailyTerms) (places : ℕ) (x : CalculationPeriod) (frac : Frac) (den : IsAbove frac.den)
    (rise : LegStepsRise t.leg) where
  both_given : (r : OvernightRate) (m n : Option ℤ) → HasDenominator r → GivesRate t.leg x.start r m
      → GivesRate t.leg x.start r n → m ≡ n
  both_given r m n above h k =
      let same = one_overnight t.leg x.start r h.rates k.rates rise above h.are_rates k.are_rates in
      h.is ∙ ap (λ (z : Option Rates). option_map (λ y. y.all_in) z) same ∙ sym k.is

  both_earn : (b : ℤ) (v w : Option Dec) → EarnsBefore t places x b frac v → EarnsBefore t places x b frac w → v ≡ w
  both_earn b v w h k =
      let rate = one_before (method_of t) (daily_rates_of t) (whole_period t x) b h.observed k.observed h.is_observed
      k.is_observed in
      let gives = subst (λ (r : OvernightRate). GivesRate t.leg x.start r h.known) rate h.gives in
      let known = both_given k.observed h.known k.known (has_denominator t x b k.observed k.is_observed) gives k.gives in
      both_accrued places x.notional k.known frac v w den
      (subst (λ (n : Option ℤ). IsAccrued places x.notional n frac v) known h.accrued) k.accrued

  both_daily : (d : ℤ) (v w : Option Dec) → AccruesDaily t places x d frac v → AccruesDaily t places x d frac w → v ≡ w
  both_daily d v w (on_first s h) (on_first z k) = h ∙ sym k
  both_daily d v w (on_first s h) (before_first z a b p l k) = absurd (omega (arith, signed_arith, s, z))
  both_daily d v w (on_first s h) (observing z a b p l k) = absurd (omega (arith, signed_arith, s, z))
  both_daily d v w (on_first s h) (unobserved z none k) = absurd (omega (arith, signed_arith, s, z))
  both_daily d v w (before_first s a b p l h) (on_first z k) = absurd (omega (arith, signed_arith, s, z))
  both_daily d v w (before_first s a b p l h) (before_first z i j q m k) = h ∙ sym k
  both_daily d v w (before_first s a b p l h) (observing z i j q m k) =
      let start = one_start (run_of t x d) a b i j p q in
      let end = one_end (run_of t x d) a b i j p q in
      absurd (omega (arith, signed_arith, start, end, l, m))
  both_daily d v w (before_first s a b p l h) (unobserved z none k) = absurd (none a b p)
  both_daily d v w (observing s a b p l h) (on_first z k) = absurd (omega (arith, signed_arith, s, z))
  both_daily d v w (observing s a b p l h) (before_first z i j q m k) =
      let start = one_start (run_of t x d) a b i j p q in
      let end = one_end (run_of t x d) a b i j p q in
      absurd (omega (arith, signed_arith, start, end, l, m))
  both_daily d v w (observing s a b p l h) (observing z i j q m k) =
      let end = one_end (run_of t x d) a b i j p q in
      both_earn j v w (subst (λ (y : ℤ). EarnsBefore t places x y frac v) end h) k
  both_daily d v w (observing s a b p l h) (unobserved z none k) = absurd (none a b p)
  both_daily d v w (unobserved s none h) (on_first z k) = absurd (omega (arith, signed_arith, s, z))
  both_daily d v w (unobserved s none h) (before_first z i j q m k) = absurd (none i j q)
  both_daily d v w (unobserved s none h) (observing z i j q m k) = absurd (none i j q)
  both_daily d v w (unobserved s none h) (unobserved z other k) = h ∙ sym k

  both_as : (stubs : Option StubTerms) (kind : PeriodKind) (d : ℤ) (v w : Option Dec) → AccruesAs t stubs kind places x d frac v
      → AccruesAs t stubs kind places x d frac w → v ≡ w
  both_as stubs kind d v w (inl h) (inl k) = both_accrued places x.notional x.rate frac v w den h.1 k.1
  both_as stubs kind d v w (inl h) (inr k) = absurd (k.0 h.0)
  both_as stubs kind d v w (inr h) (inl k) = absurd (h.0 k.0)
  both_as stubs kind d v w (inr h) (inr k) = both_daily d v w h.1 k.1

-- ---- one accrual

module _ (t : DailyTerms) (s : Stream) (p : Part) (d : ℤ) (kept : HasBoundaries p) (rise : LegStepsRise t.leg) where
  in_period : (n : ℕ) (x y : ℤ) (f g : Frac) (a b : Option Dec) → AccruesBy t s p d n x f a → AccruesBy t s p d n y g b
      → Inside n x f a ≡ Inside n y g b
  in_period n x y f g a b h k =
      let code = p.day_count in
      let places = decimals_of p.currency.letters in
      let period : h.period ≡ k.period = some_is h.period k.period (sym h.runs.is ∙ k.runs.is) in
      let run : HasRun code k.period.adjusted_start d k.period.adjusted_end x f =
      subst (λ (c : CalculationPeriod). HasRun code c.adjusted_start d c.adjusted_end x f) period h.has_run in
      let share = both_run code k.period.adjusted_start d k.period.adjusted_end x y f g k.runs.started run k.has_run in
      let den = den_above code k.period.adjusted_start d k.period.adjusted_end y g k.runs.started k.runs.not_ended
      k.has_run in
      let span = one_span s h.span k.span h.regular k.regular in
      let is_kind : IsPeriodKind s k.span (length p.periods) n h.kind =
      subst (λ (z : Span). IsPeriodKind s z (length p.periods) n h.kind) span h.is_kind in
      let kind = one_kind s k.span (length p.periods) n h.kind k.kind is_kind k.is_kind in
      let of_kind : AccruesAs t s.stubs k.kind places h.period d f a =
      subst (λ (z : PeriodKind). AccruesAs t s.stubs z places h.period d f a) kind h.accrues in
      let of_period : AccruesAs t s.stubs k.kind places k.period d f a =
      subst (λ (c : CalculationPeriod). AccruesAs t s.stubs k.kind places c d f a) period of_kind in
      let of_share : AccruesAs t s.stubs k.kind places k.period d g a =
      subst (λ (z : Frac). AccruesAs t s.stubs k.kind places k.period d z a) share.1 of_period in
      let amount = both_as t places k.period g den rise s.stubs k.kind d a b of_share k.accrues in
      inside_same n n x y f g a b refl share.0 share.1 amount

  one_daily : (a b : Accrual) → IsDailyAccrual t s p d a → IsDailyAccrual t s p d b → a ≡ b
  one_daily Outside Outside h k = refl
  one_daily Outside (Inside n y g b) h k = absurd (not_outside p d n kept (runs_from_to p d n k.period k.runs) h)
  one_daily (Inside m x f a) Outside h k = absurd (not_outside p d m kept (runs_from_to p d m h.period h.runs) k)
  one_daily (Inside m x f a) (Inside n y g b) h k =
      let number = one_number p d m n kept (runs_from_to p d m h.period h.runs) (runs_from_to p d n k.period k.runs) in
      let own : AccruesBy t s p d n x f a = subst (λ (i : ℕ). AccruesBy t s p d i x f a) number h in
      ap (λ (i : ℕ). Inside i x f a) number ∙ in_period n x y f g a b own k

module _ (s : Stream) (applicable : DaySet) (fixings : RateTable) (p : Part) (d : ℤ) (kept : HasBoundaries p)
    (rise : LegStepsRise s.leg) where
  one_with : (parameters : Option CalculationParameters) (float : FloatTerms) (a b : Accrual)
      → IsAccrualWith parameters float s applicable fixings p d a
      → IsAccrualWith parameters float s applicable fixings p d b → a ≡ b
  one_with None float a b h k = one_in p d a b kept h k
  one_with (Some parameters) float a b h k =
      one_daily (daily_terms s.leg s.day_count float parameters applicable fixings) s p d kept rise a b h k

  one_by : (leg : Leg) (a b : Accrual) → IsAccrualBy leg s applicable fixings p d a
      → IsAccrualBy leg s applicable fixings p d b → a ≡ b
  one_by (Fixed values) a b h k = one_in p d a b kept h k
  one_by (Floating float) a b h k = one_with float.parameters float a b h k

  -- a stream has one accrual on a day
  pub one_accrual_of : (a b : Accrual) → IsAccrualOf s applicable fixings p d a → IsAccrualOf s applicable fixings p d b
      → a ≡ b
  one_accrual_of a b h k = one_by s.leg a b h k
