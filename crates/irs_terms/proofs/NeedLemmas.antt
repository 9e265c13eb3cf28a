-- A lawful element needs the business days of at most 16 centres.
use Rattle.std.specs.Prelude.{ℕ, ◌≤◌, Bool, true, false, ◌||◌, List, Option, Some, None, IfSome, length}
use Rattle.irs_base.specs.Limits.{most_centers}
use Rattle.irs_terms.specs.Lawful.{IsLawfulCenters, IsLawfulFix, IsLawfulReset}
use Rattle.irs_terms.specs.Centers.{adjusts_days, counts_days, fixing_names, fixing_names_of, names_for, reset_names}
use Rattle.irs_terms.specs.declared.adjustments.Centers.{Centers}
use Rattle.irs_terms.specs.declared.adjustments.Centers.TheVariants.{Absent, Listed, Dangling}
use Rattle.irs_terms.specs.declared.dates.FixTerms.{FixTerms}
use Rattle.irs_terms.specs.declared.dates.ResetTerms.{ResetTerms}

-- there are none, or at most 16
abbrev pub AreFew : Option (List (List ℕ)) → Type 0
AreFew names = IfSome names (λ listed. length listed ≤ most_centers)

few_names : (needed : Bool) (centers : Centers) → IsLawfulCenters centers → AreFew (names_for needed centers)
few_names false centers lawful = tt
few_names true Absent lawful = tt
few_names true (Listed names) lawful = lawful.1
few_names true Dangling lawful = tt

few_of_fixing : (fixing : Option FixTerms) → IfSome fixing IsLawfulFix → AreFew (fixing_names_of fixing)
few_of_fixing None lawful = tt
few_of_fixing (Some fix) lawful =
    few_names (adjusts_days fix.adj.code || counts_days fix.offset) fix.adj.centers lawful.1

-- fixing dates name few lists of centres
pub few_for_fixing : (reset : Option ResetTerms) → IfSome reset IsLawfulReset → AreFew (fixing_names reset)
few_for_fixing None lawful = tt
few_for_fixing (Some terms) lawful = few_of_fixing terms.fixing lawful.fixing

-- reset dates name few lists of centres
pub few_for_reset : (reset : Option ResetTerms) → IfSome reset IsLawfulReset → AreFew (reset_names reset)
few_for_reset None lawful = tt
few_for_reset (Some terms) lawful = few_names (adjusts_days terms.adj.code) terms.adj.centers lawful.centers
