-- A stub's own rate by the relation and by the function.
use Rattle.std.proofs.Common.{◌≡◌, inl, inr, ℤ, Option, Some, None, IfSome, IfNone, refl, sym}
use Rattle.irs_terms.specs.declared.amounts.StubRate.{StubRate}
use Rattle.irs_terms.specs.declared.amounts.StubRate.TheVariants.{Index, Fixed}
use Rattle.irs_terms.specs.declared.amounts.StubTerms.{StubTerms}
use Rattle.irs_resets.specs.declared.observed.PeriodKind.{PeriodKind}
use Rattle.irs_resets.specs.declared.observed.PeriodKind.TheVariants.{InitialStub, FinalStub, FirstRegular}
use Rattle.irs_resets.specs.declared.observed.PeriodKind.TheVariants.{LaterRegular}
use Rattle.irs_observed.specs.OvernightRates.{HasOwnRate, StatesRate}
use Rattle.irs_observed.specs.Private.OvernightRates.{own_of, own_rate_of}

own_fixed : (o : Option StubRate) (rate : ℤ) → own_of o ≡ Some rate → o ≡ Some (Fixed rate)
own_fixed None rate e = absurd (cc)
own_fixed (Some (Index index tenor)) rate e = absurd (cc)
own_fixed (Some (Fixed r)) rate e = let same : r ≡ rate = cc in rw same refl

-- the function's rate is stated
pub own_states : (kind : PeriodKind) (stubs : Option StubTerms) (rate : ℤ) → own_rate_of kind stubs ≡ Some rate
    → StatesRate kind stubs rate
own_states kind None rate e = absurd (cc)
own_states InitialStub (Some stubs) rate e = inl (refl, own_fixed stubs.initial rate e)
own_states FinalStub (Some stubs) rate e = inr (refl, own_fixed stubs.last rate e)
own_states FirstRegular (Some stubs) rate e = absurd (cc)
own_states LaterRegular (Some stubs) rate e = absurd (cc)

-- a rate that is stated is the function's
pub states_own : (kind : PeriodKind) (stubs : Option StubTerms) (rate : ℤ) → StatesRate kind stubs rate
    → own_rate_of kind stubs ≡ Some rate
states_own kind None rate h = absurd h
states_own kind (Some stubs) rate (inl h) = rw (h.0, h.1) refl
states_own kind (Some stubs) rate (inr h) = rw (h.0, h.1) refl

-- an own rate that is found is stated for the stub
pub own_some : (kind : PeriodKind) (stubs : Option StubTerms) (o : Option ℤ) → o ≡ own_rate_of kind stubs
    → IfSome o (StatesRate kind stubs)
own_some kind stubs None e = tt
own_some kind stubs (Some rate) e = own_states kind stubs rate (sym e)

-- if no own rate is found, the stub has none
pub own_none : (kind : PeriodKind) (stubs : Option StubTerms) (o : Option ℤ) → o ≡ own_rate_of kind stubs
    → IfNone o (HasOwnRate kind stubs → ⊥)
own_none kind stubs None e = λ h. let there = states_own kind stubs h.0 h.1 in cc (e, there)
own_none kind stubs (Some rate) e = tt
