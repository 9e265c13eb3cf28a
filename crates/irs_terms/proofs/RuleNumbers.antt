-- A rule is known by its number.
use Rattle.std.proofs.Common.{◌≡◌, ℕ, List, [], ◌∷◌, Some, refl, sym, ◌∙◌, ap}
use Rattle.std.specs.Prelude.{slice_get}
use Rattle.std.proofs.lemmas.Option.{same_Some}
use Rattle.irs_terms.specs.Faults.{rule_number}
use Rattle.irs_terms.specs.declared.places.Rule.{Rule}
use Rattle.irs_terms.specs.declared.places.Rule.TheVariants.{K1, K2, K3, K4, K5, K6, K7, K8, K10, K11, K12, K13, K14}
use Rattle.irs_terms.specs.declared.places.Rule.TheVariants.{K15, K16, K17, K18, K19, K20, K21, K30, K31, K32, K33, K34}
use Rattle.irs_terms.specs.declared.places.Rule.TheVariants.{K35, K36, K37, K38, K39, K40, K41, K42, K43, K44, K45, K46}
use Rattle.irs_terms.specs.declared.places.Rule.TheVariants.{K47, K48, K49}

-- the rules at their numbers; K1 where no rule has the number
abbrev rules : List Rule
rules = K1 ∷ K1 ∷ K2 ∷ K3 ∷ K4 ∷ K5 ∷ K6 ∷ K7 ∷ K8 ∷ K1 ∷ K10 ∷ K11 ∷ K12 ∷ K13 ∷ K14 ∷ K15 ∷ K16 ∷ K17 ∷ K18 ∷ K19
    ∷ K20 ∷ K21 ∷ K1 ∷ K1 ∷ K1 ∷ K1 ∷ K1 ∷ K1 ∷ K1 ∷ K1 ∷ K30 ∷ K31 ∷ K32 ∷ K33 ∷ K34 ∷ K35 ∷ K36 ∷ K37 ∷ K38 ∷ K39
    ∷ K40 ∷ K41 ∷ K42 ∷ K43 ∷ K44 ∷ K45 ∷ K46 ∷ K47 ∷ K48 ∷ K49 ∷ []

at_number : (r : Rule) → slice_get rules (rule_number r) ≡ Some r
at_number K1 = refl
at_number K2 = refl
at_number K3 = refl
at_number K4 = refl
at_number K5 = refl
at_number K6 = refl
at_number K7 = refl
at_number K8 = refl
at_number K10 = refl
at_number K11 = refl
at_number K12 = refl
at_number K13 = refl
at_number K14 = refl
at_number K15 = refl
at_number K16 = refl
at_number K17 = refl
at_number K18 = refl
at_number K19 = refl
at_number K20 = refl
at_number K21 = refl
at_number K30 = refl
at_number K31 = refl
at_number K32 = refl
at_number K33 = refl
at_number K34 = refl
at_number K35 = refl
at_number K36 = refl
at_number K37 = refl
at_number K38 = refl
at_number K39 = refl
at_number K40 = refl
at_number K41 = refl
at_number K42 = refl
at_number K43 = refl
at_number K44 = refl
at_number K45 = refl
at_number K46 = refl
at_number K47 = refl
at_number K48 = refl
at_number K49 = refl

-- rules with one number are one rule
pub same_rule : (r q : Rule) → rule_number r ≡ rule_number q → r ≡ q
same_rule r q e = same_Some r q (sym (at_number r) ∙ ap (λ (n : ℕ). slice_get rules n) e ∙ at_number q)
