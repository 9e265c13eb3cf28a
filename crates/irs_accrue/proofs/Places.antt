-- An amount that has accrued has at most 12 decimals.
use Rattle.std.proofs.Common.{inl, inr, ℕ, ◌≤◌, List, Option, Some, None, IfSome, ℤ, sym, subst, arith}
use Rattle.irs_base.specs.declared.line.Dec.{Dec}
use Rattle.irs_terms.proofs.CurrencyLemmas.{decimals_few}
use Rattle.irs_terms.specs.Lawful.{decimals_of}
use Rattle.irs_terms.specs.declared.amounts.FloatTerms.{FloatTerms}
use Rattle.irs_terms.specs.declared.amounts.StubTerms.{StubTerms}
use Rattle.irs_terms.specs.declared.parameters.CalculationParameters.{CalculationParameters}
use Rattle.irs_terms.specs.declared.results.Frac.{Frac}
use Rattle.irs_terms.specs.declared.stream.Stream.{Stream}
use Rattle.irs_calendar.specs.GoodDays.{DaySet}
use Rattle.irs_resets.specs.Rates.{RateTable}
use Rattle.irs_resets.specs.declared.observed.PeriodKind.{PeriodKind}
use Rattle.irs_schedule.specs.Parts.{Part}
use Rattle.irs_schedule.specs.declared.views.CalculationPeriod.{CalculationPeriod}
use Rattle.irs_accrue.specs.Accruals.{AccrualHasPlaces, IsAccrual, IsAccrued}
use Rattle.irs_accrue.specs.DailyAccruals.{AccruesAs, AccruesDaily, DailyTerms, IsAccrualWith, IsDailyAccrual}
use Rattle.irs_accrue.specs.DailyAccruals.{before_first, daily_terms, observing, on_first, unobserved}
use Rattle.irs_accrue.specs.declared.accruals.Accrual.{Accrual}
use Rattle.irs_accrue.specs.declared.accruals.Accrual.TheVariants.{Outside, Inside}

-- a currency has at most three decimals
few_decimals : (letters : List ℕ) → decimals_of letters ≤ 12
few_decimals letters = let few = decimals_few letters in omega (arith, few)

-- the amount, where there is one, has at most 12 decimals
abbrev HasFew : Option Dec → Type 0
HasFew amount = IfSome amount (λ v. v.places ≤ 12)

accrued_few : (places : ℕ) (notional : ℤ) (known : Option ℤ) (frac : Frac) (amount : Option Dec) → places ≤ 12
    → IsAccrued places notional known frac amount → HasFew amount
accrued_few places notional known frac None few h = tt
accrued_few places notional known frac (Some v) few h = let is = h.2.decimals in omega (arith, few, is)

module _ (t : DailyTerms) (places : ℕ) (few : places ≤ 12) (x : CalculationPeriod) (d : ℤ) (frac : Frac)
    (amount : Option Dec) where
  daily_few : AccruesDaily t places x d frac amount → HasFew amount
  daily_few (on_first s h) = subst HasFew (sym h) few
  daily_few (before_first s a b p l h) = subst HasFew (sym h) few
  daily_few (observing s a b p l h) = accrued_few places x.notional h.known frac amount few h.accrued
  daily_few (unobserved s none h) = subst HasFew (sym h) tt

  as_few : (stubs : Option StubTerms) (kind : PeriodKind) → AccruesAs t stubs kind places x d frac amount → HasFew amount
  as_few stubs kind (inl h) = accrued_few places x.notional x.rate frac amount few h.1
  as_few stubs kind (inr h) = daily_few h.1

plain_places : (p : Part) (d : ℤ) (a : Accrual) → IsAccrual p d a → AccrualHasPlaces a
plain_places p d Outside h = tt
plain_places p d (Inside number days frac amount) h =
    accrued_few (decimals_of p.currency.letters) h.period.notional h.period.rate frac amount
    (few_decimals p.currency.letters) h.accrued

daily_places : (t : DailyTerms) (s : Stream) (p : Part) (d : ℤ) (a : Accrual) → IsDailyAccrual t s p d a → AccrualHasPlaces a
daily_places t s p d Outside h = tt
daily_places t s p d (Inside number days frac amount) h =
    as_few t (decimals_of p.currency.letters) (few_decimals p.currency.letters) h.period d frac amount s.stubs h.kind
    h.accrues

-- the amount of a floating stream has at most 12 decimals
pub floating_places : (parameters : Option CalculationParameters) (float : FloatTerms) (s : Stream) (applicable : DaySet)
    (fixings : RateTable) (p : Part) (d : ℤ) (a : Accrual)
    → IsAccrualWith parameters float s applicable fixings p d a → AccrualHasPlaces a
floating_places None float s applicable fixings p d a h = plain_places p d a h
floating_places (Some parameters) float s applicable fixings p d a h =
    daily_places (daily_terms s.leg s.day_count float parameters applicable fixings) s p d a h
