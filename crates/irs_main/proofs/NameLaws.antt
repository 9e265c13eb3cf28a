-- The row of a rule in the table has the name that is printed, and so has that of a fault of cash flows.
use Rattle.irs_answers.specs.Messages.{shape_name}
use Rattle.irs_flows.specs.declared.error.ShapeKind.{ShapeKind}
use Rattle.irs_flows.specs.declared.error.ShapeKind.TheVariants as shape
use Rattle.irs_base.proofs.TextLemmas.{of_two_digits}
use Rattle.irs_terms.specs.Faults.{rule_number}
use Rattle.irs_terms.specs.declared.places.Rule.{Rule}
use Rattle.irs_terms.specs.declared.places.Rule.TheVariants as rule
use Rattle.irs_main.specs.Rules.{row_of_rule, row_of_shape, text_at, rule_codes, rows}
use Rattle.std.proofs.Common.{◌≡◌, ◌++◌, [], codes, decimal, refl, arith}
use Rattle.std.proofs.lemmas.Fmt.{decimal_digit}

-- the row of a rule has its name
pub rules_named : (r : Rule) → text_at rule_codes (row_of_rule r) [] ≡ codes "K" ++ decimal (rule_number r)
unfolding rule_codes rows
rules_named rule.K1 = rw (decimal_digit 1 (omega arith)) refl
rules_named rule.K2 = rw (decimal_digit 2 (omega arith)) refl
rules_named rule.K3 = rw (decimal_digit 3 (omega arith)) refl
rules_named rule.K4 = rw (decimal_digit 4 (omega arith)) refl
rules_named rule.K5 = rw (decimal_digit 5 (omega arith)) refl
rules_named rule.K6 = rw (decimal_digit 6 (omega arith)) refl
rules_named rule.K7 = rw (decimal_digit 7 (omega arith)) refl
rules_named rule.K8 = rw (decimal_digit 8 (omega arith)) refl
rules_named rule.K10 = rw (of_two_digits 10 (omega arith) (omega arith)) refl
rules_named rule.K11 = rw (of_two_digits 11 (omega arith) (omega arith)) refl
rules_named rule.K12 = rw (of_two_digits 12 (omega arith) (omega arith)) refl
rules_named rule.K13 = rw (of_two_digits 13 (omega arith) (omega arith)) refl
rules_named rule.K14 = rw (of_two_digits 14 (omega arith) (omega arith)) refl
rules_named rule.K15 = rw (of_two_digits 15 (omega arith) (omega arith)) refl
rules_named rule.K16 = rw (of_two_digits 16 (omega arith) (omega arith)) refl
rules_named rule.K17 = rw (of_two_digits 17 (omega arith) (omega arith)) refl
rules_named rule.K18 = rw (of_two_digits 18 (omega arith) (omega arith)) refl
rules_named rule.K19 = rw (of_two_digits 19 (omega arith) (omega arith)) refl
rules_named rule.K20 = rw (of_two_digits 20 (omega arith) (omega arith)) refl
rules_named rule.K21 = rw (of_two_digits 21 (omega arith) (omega arith)) refl
rules_named rule.K30 = rw (of_two_digits 30 (omega arith) (omega arith)) refl
rules_named rule.K31 = rw (of_two_digits 31 (omega arith) (omega arith)) refl
rules_named rule.K32 = rw (of_two_digits 32 (omega arith) (omega arith)) refl
rules_named rule.K33 = rw (of_two_digits 33 (omega arith) (omega arith)) refl
rules_named rule.K34 = rw (of_two_digits 34 (omega arith) (omega arith)) refl
rules_named rule.K35 = rw (of_two_digits 35 (omega arith) (omega arith)) refl
rules_named rule.K36 = rw (of_two_digits 36 (omega arith) (omega arith)) refl
rules_named rule.K37 = rw (of_two_digits 37 (omega arith) (omega arith)) refl
rules_named rule.K38 = rw (of_two_digits 38 (omega arith) (omega arith)) refl
rules_named rule.K39 = rw (of_two_digits 39 (omega arith) (omega arith)) refl
rules_named rule.K40 = rw (of_two_digits 40 (omega arith) (omega arith)) refl
rules_named rule.K41 = rw (of_two_digits 41 (omega arith) (omega arith)) refl
rules_named rule.K42 = rw (of_two_digits 42 (omega arith) (omega arith)) refl
rules_named rule.K43 = rw (of_two_digits 43 (omega arith) (omega arith)) refl
rules_named rule.K44 = rw (of_two_digits 44 (omega arith) (omega arith)) refl
rules_named rule.K45 = rw (of_two_digits 45 (omega arith) (omega arith)) refl
rules_named rule.K46 = rw (of_two_digits 46 (omega arith) (omega arith)) refl
rules_named rule.K47 = rw (of_two_digits 47 (omega arith) (omega arith)) refl
rules_named rule.K48 = rw (of_two_digits 48 (omega arith) (omega arith)) refl
rules_named rule.K49 = rw (of_two_digits 49 (omega arith) (omega arith)) refl

-- the row of a fault of cash flows has its name
pub shapes_named : (k : ShapeKind) → text_at rule_codes (row_of_shape k) [] ≡ shape_name k
unfolding rule_codes rows
shapes_named shape.NotJson = refl
shapes_named shape.Missing = refl
shapes_named shape.Kind = refl
shapes_named shape.Unknown = refl
shapes_named shape.Profile = refl
shapes_named shape.Value = refl
shapes_named shape.Count = refl
