-- The names of the centres that an element of lawful terms needs.
use Rattle.std.proofs.Common.{◌≡◌, ℕ, Bool, true, false, List, Option, Some, None, IfSome, subst}
use Rattle.irs_terms.specs.declared.places.Rule.TheVariants.{K12}
use Rattle.irs_calendar.specs.declared.sections.Section.{Section}
use Rattle.irs_terms.specs.declared.adjustments.Centers.{Centers}
use Rattle.irs_terms.specs.declared.adjustments.Centers.TheVariants.{Absent, Listed, Dangling}
use Rattle.irs_terms.specs.declared.amounts.Leg.{Leg}
use Rattle.irs_terms.specs.declared.amounts.Leg.TheVariants.{Fixed, Floating}
use Rattle.irs_terms.specs.declared.dates.FixTerms.{FixTerms}
use Rattle.irs_terms.specs.declared.places.Fault.{Fault}
use Rattle.irs_terms.specs.declared.parameters.CalculationParameters.{CalculationParameters}
use Rattle.irs_terms.specs.declared.dates.ResetTerms.{ResetTerms}
use Rattle.irs_terms.specs.Lawful.{IsLawfulCenters, IsLawfulFix, IsLawfulLeg, IsLawfulNames, IsLawfulParameters}
use Rattle.irs_terms.specs.Lawful.{IsLawfulReset}
use Rattle.irs_terms.specs.Centers.{fixing_names, fixing_names_of, names_for}
use Rattle.irs_rules.specs.TermsRules.{BreaksItem}
use Rattle.irs_rules.specs.Parameters.{IsFoundAt, applicable_names, centers_of}
use Rattle.irs_rules.specs.Private.TermsKept.{IsFirstHere}

-- the centres that are needed have lawful names
pub names_lawful : (needed : Bool) (centers : Centers) → IsLawfulCenters centers
    → IfSome (names_for needed centers) IsLawfulNames
names_lawful false centers lawful = tt
names_lawful true Absent lawful = tt
names_lawful true (Listed names) lawful = lawful
names_lawful true Dangling lawful = tt

fixing_of_lawful : (fixing : Option FixTerms) → IfSome fixing IsLawfulFix
    → IfSome (fixing_names_of fixing) IsLawfulNames
fixing_of_lawful None lawful = tt
fixing_of_lawful (Some fixing) lawful = names_lawful _ fixing.adj.centers lawful.1

-- the centres of fixing dates have lawful names
pub fixing_lawful : (reset : Option ResetTerms) → IfSome reset IsLawfulReset → IfSome (fixing_names reset) IsLawfulNames
fixing_lawful None lawful = tt
fixing_lawful (Some terms) lawful = fixing_of_lawful terms.fixing lawful.fixing

applicable_of_lawful : (parameters : Option CalculationParameters) → IfSome parameters IsLawfulParameters
    → IfSome (centers_of parameters) IsLawfulNames
applicable_of_lawful None lawful = tt
applicable_of_lawful (Some parameters) lawful = lawful.centers

-- the centres of applicable business days have lawful names
pub applicable_lawful : (leg : Leg) → IsLawfulLeg leg → IfSome (applicable_names leg) IsLawfulNames
applicable_lawful (Fixed rates) lawful = tt
applicable_lawful (Floating float) lawful = applicable_of_lawful float.parameters lawful.parameters

-- the first that isn't found, of names that are equal
pub same_names : (elem : ℕ) (cal : List Section) (names others : Option (List (List ℕ))) (a : Option Fault)
    → names ≡ others
    → IsFirstHere (BreaksItem K12 elem (IsFoundAt cal names)) a
    → IsFirstHere (BreaksItem K12 elem (IsFoundAt cal others)) a
same_names elem cal names others a same first =
    subst (λ (o : Option (List (List ℕ))). IsFirstHere (BreaksItem K12 elem (IsFoundAt cal o)) a) same first
