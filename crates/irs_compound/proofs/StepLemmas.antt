-- From the parts of a period to its step of the balance.
use Rattle.std.proofs.Common.{◌≡◌, sym, subst, Option, Some, None, IsSomeAnd, IfSome, IfNone, SomeIff}
use Rattle.irs_terms.specs.declared.codes.CompCode.{CompCode}
use Rattle.irs_compound.specs.Amounts.{StandsAt, RatesWithin, SumsWithin}
use Rattle.irs_compound.specs.Private.AmountLaws.{balance_after, Takes, Stops}
use Rattle.irs_compound.specs.declared.balances.Balance.{Balance}
use Rattle.irs_compound.specs.declared.periods.Rates.{Rates}
use Rattle.irs_compound.specs.declared.periods.PeriodTerm.{PeriodTerm}
use Rattle.irs_compound.specs.declared.periods.Parts.{Parts}

priced : (o : Option Rates) (r : Rates) (P : Rates → Type 0) → o ≡ Some r → P r → IsSomeAnd o P
priced o r P e h = subst (λ (x : Option Rates). IsSomeAnd x P) (sym e) h

unpriced : (o : Option Rates) (r : Rates) (P : Rates → Type 0) → o ≡ Some r → IsSomeAnd o P → P r
unpriced o r P e h = subst (λ (x : Option Rates). IsSomeAnd x P) e h

-- the amounts with one more period are within the limits
abbrev pub SumsAfter : CompCode → PeriodTerm → Balance → Parts → Type 0
SumsAfter code p b c = SumsWithin code p c (balance_after code b c).sum (balance_after code b c).kept

-- a period within the range takes the balance on
pub takes : (result : Option Balance) (code : CompCode) (p : PeriodTerm) (r : Rates) (before : Balance) (c : Parts)
    → p.rates ≡ Some r → RatesWithin r → StandsAt code p r before.kept c
    → SomeIff result (SumsAfter code p before c) (balance_after code before c)
    → IfSome result (λ next. Takes code p before next)
takes None code p r before c e w h k = tt
takes (Some b) code p r before c e w h k = record {
  parts = c;
  stands = priced p.rates r (λ x. StandsAt code p x before.kept c) e h;
  within = (priced p.rates r RatesWithin e w, k.0);
  is = k.1;
}

-- a period out of range stops it
pub stops : (result : Option Balance) (code : CompCode) (p : PeriodTerm) (r : Rates) (before : Balance) (c : Parts)
    → p.rates ≡ Some r → StandsAt code p r before.kept c
    → SomeIff result (SumsAfter code p before c) (balance_after code before c) → IfNone result (Stops code p before)
stops (Some b) code p r before c e h k = tt
stops None code p r before c e h k = record {
  parts = c;
  stands = priced p.rates r (λ x. StandsAt code p x before.kept c) e h;
  passes = λ w. k w.1;
}

-- rates out of range stop it
pub stops_at_rates : (code : CompCode) (p : PeriodTerm) (r : Rates) (before : Balance) (c : Parts) → p.rates ≡ Some r
    → StandsAt code p r before.kept c → (RatesWithin r → ⊥) → Stops code p before
stops_at_rates code p r before c e h k = record {
  parts = c;
  stands = priced p.rates r (λ x. StandsAt code p x before.kept c) e h;
  passes = λ w. k (unpriced p.rates r RatesWithin e w.0);
}
