-- What K47 asks is decided, so what isn't broken is kept.
use Rattle.std.proofs.Common.{◌≡◌, inl, inr, Option, Some, None, IsSome, refl}
use Rattle.irs_base.specs.Private.Order.{IsDecided}
use Rattle.irs_terms.specs.declared.amounts.Leg.{Leg}
use Rattle.irs_terms.specs.declared.amounts.Leg.TheVariants.{Fixed, Floating}
use Rattle.irs_terms.specs.declared.amounts.StubRate.{StubRate}
use Rattle.irs_terms.specs.declared.amounts.StubRate.TheVariants.{Index, Fixed as FixedStub}
use Rattle.irs_terms.specs.declared.codes.DayCountCode.{DayCountCode}
use Rattle.irs_terms.specs.declared.codes.DayCountCode.TheVariants.{OneOne, ActActIsda, Act365Fixed, Act360}
use Rattle.irs_terms.specs.declared.codes.DayCountCode.TheVariants.{Thirty360, ThirtyE360, ThirtyE360Isda}
use Rattle.irs_terms.specs.declared.frequency.Frequency.{Frequency}
use Rattle.irs_terms.specs.declared.frequency.Unit.{Unit as FrequencyUnit}
use Rattle.irs_terms.specs.declared.frequency.Unit.TheVariants.{D, W, M, Y, T}
use Rattle.irs_terms.specs.declared.parameters.CalculationMethod.{CalculationMethod}
use Rattle.irs_terms.specs.declared.parameters.CalculationMethod.TheVariants.{Compounding, Averaging}
use Rattle.irs_terms.specs.declared.stream.Stream.{Stream}
use Rattle.irs_rules.specs.Parameters.{DayCountFits, FinalStubFits, FitsMethod, InitialRateFits, InitialStubFits}
use Rattle.irs_rules.specs.Parameters.{IsStubNumber, IsOneDay, TenorFits, parameters_of}
use Rattle.irs_rules.proofs.Decisions.{decides_absent, decides_both, decides_given, decides_once}

-- a condition that applies only where there is a value is decided, if the condition is
decides_where : {A B : Type 0} (o : Option A) → IsDecided B → IsDecided (IsSome o → B)
decides_where None decides = inl (λ e. cc)
decides_where (Some x) (inl b) = inl (λ e. b)
decides_where (Some x) (inr fails) = inr (λ h. fails (h refl))

decides_days : (unit : FrequencyUnit) → IsDecided (unit ≡ D)
decides_days D = inl refl
decides_days W = inr (λ e. cc)
decides_days M = inr (λ e. cc)
decides_days Y = inr (λ e. cc)
decides_days T = inr (λ e. cc)

decides_one_day : (freq : Frequency) → IsDecided (IsOneDay freq)
decides_one_day freq = decides_both (decides_once freq.count) (decides_days freq.unit)

-- whether the tenor fits is decided
pub decides_tenor : (leg : Leg) → IsDecided (TenorFits leg)
decides_tenor (Fixed rates) = inl tt
decides_tenor (Floating float) = decides_where float.parameters (decides_given IsOneDay float.tenor decides_one_day)

-- whether an initial rate fits is decided
pub decides_initial_rate : (leg : Leg) → IsDecided (InitialRateFits leg)
decides_initial_rate (Fixed rates) = inl tt
decides_initial_rate (Floating float) = decides_where float.parameters (decides_absent float.initial_rate)

decides_method : (method : CalculationMethod) (code : DayCountCode) → IsDecided (FitsMethod method code)
decides_method Compounding OneOne = inr (λ h. elim h [ inl e ↦ cc | inr e ↦ cc ])
decides_method Compounding ActActIsda = inr (λ h. elim h [ inl e ↦ cc | inr e ↦ cc ])
decides_method Compounding Act365Fixed = inl (inr refl)
decides_method Compounding Act360 = inl (inl refl)
decides_method Compounding Thirty360 = inr (λ h. elim h [ inl e ↦ cc | inr e ↦ cc ])
decides_method Compounding ThirtyE360 = inr (λ h. elim h [ inl e ↦ cc | inr e ↦ cc ])
decides_method Compounding ThirtyE360Isda = inr (λ h. elim h [ inl e ↦ cc | inr e ↦ cc ])
decides_method Averaging code = inl tt

-- whether the day count fits is decided
pub decides_day_count : (s : Stream) → IsDecided (DayCountFits s)
decides_day_count s = decides_given _ (parameters_of s.leg) (λ p. decides_method p.method s.day_count)

decides_number : (rate : Option StubRate) → IsDecided (IsStubNumber rate)
decides_number None = inl tt
decides_number (Some (Index index tenor)) = inr (λ h. h)
decides_number (Some (FixedStub rate)) = inl tt

-- whether the initial stub fits is decided
pub decides_initial_stub : (s : Stream) → IsDecided (InitialStubFits s)
decides_initial_stub s =
    decides_where (parameters_of s.leg) (decides_given _ s.stubs (λ stubs. decides_number stubs.initial))

-- whether the final stub fits is decided
pub decides_final_stub : (s : Stream) → IsDecided (FinalStubFits s)
decides_final_stub s =
    decides_where (parameters_of s.leg) (decides_given _ s.stubs (λ stubs. decides_number stubs.last))
