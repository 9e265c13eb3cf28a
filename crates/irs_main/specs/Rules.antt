-- The rules in plain words, and the words of a rule and of a fault of cash flows.
use Prim.Native.String.{String}
use Rattle.std.specs.Prelude.{ℕ, List, [], ◌∷◌, map, codes, ◌-◌, ◌==◌, if◌then◌else◌}
use Rattle.irs_terms.specs.declared.places.Rule.{Rule}
use Rattle.irs_terms.specs.declared.places.Rule.TheVariants as of_rule
use Rattle.irs_flows.specs.declared.error.ShapeKind.{ShapeKind}
use Rattle.irs_flows.specs.declared.error.ShapeKind.TheVariants as shape

-- ---- the rules in plain words, a line each: the rule, what is said before the element at fault, and what is said
-- after it
-- The kinds of fault of cash flows come last: they are K1 to K7 on the table of cash flows.

-- a rule with its words
pub record Row : Type 0 where
  pub rule : String
  pub before : String
  pub after : String

-- a line of the table
abbrev row : String → String → String → Row
row rule before after = record { rule = rule; before = before; after = after }

-- the table of the rules, then of the kinds of fault of cash flows
unfoldable pub rows : List Row
rows =
    row "K1" "" " isn't JSON"
    ∷ row "K2" "" " is missing, or lacks a member that it has to have"
    ∷ row "K3" "" " isn't the text or the object that it has to be"
    ∷ row "K4" "" " has a member that isn't known"
    ∷ row "K5" "" " has a member or a value that FpML knows and this program doesn't read"
    ∷ row "K6" "the text of " " is none of its values, or is out of range"
    ∷ row "K7" "" " appears too often, or has two members that don't go together"
    ∷ row "K8" "" " and receiverPartyReference don't name two parties, the same two in each stream"
    ∷ row "K10" "" " names nothing, or more than one list"
    ∷ row "K11" "" " asks for business days and names no centre"
    ∷ row "K12" "a centre of " " is in no calendar file"
    ∷ row "K13" "" " is out of order among the dates of the stream"
    ∷ row "K14" "" " and the roll convention don't go together"
    ∷ row "K15" "" " isn't a whole multiple of the calculation frequency"
    ∷ row "K16" "" " is required and absent, or isn't allowed there, or is out of order"
    ∷ row "K17" "" " doesn't say whether it counts business or calendar days"
    ∷ row "K18" "" " isn't after the step before it, or isn't inside the life of the stream"
    ∷ row "K19" "" " doesn't go with a fixed rate, or is missing beside a floating one"
    ∷ row "K20" "" " isn't as long as the calculation frequency"
    ∷ row "K21" "" " isn't allowed with a fixed rate, nor where negative rates count as zero"
    ∷ row "K30" "" " isn't a roll day, and the periods are counted from it"
    ∷ row "K31" "" " isn't on the grid of roll days, so no regular period ends there"
    ∷ row "K32" "" " makes more than 8,000 calculation periods"
    ∷ row "K33" "a day of " " can't be adjusted: the calendars don't cover it, or have no business day there"
    ∷ row "K34" "two adjusted dates of " " fall on one day or change their order"
    ∷ row "K35" "" " is no date on which payments fall"
    ∷ row "K36" "" " isn't on a boundary of the periods"
    ∷ row "K37" "" " is given, and the stream has no such stub"
    ∷ row "K38" "an offset in calendar days of " " leaves the range of dates"
    ∷ row "K39" "a rate or an amount of " " passes its limit"
    ∷ row "K40" "" " isn't there, has a fixed rate, or has calculationParameters"
    ∷ row "K41" "a fixing date of " " isn't after the one before it"
    ∷ row "K42" "" " has to be ACT/360 or ACT/365.FIXED for this command"
    ∷ row "K43" "an observation of " " lies outside the calendars, or before every business day"
    ∷ row "K44" "a compounded rate of " " passes its limit"
    ∷ row "K45" "" " has no floating rate for a stub on that side"
    ∷ row "K46" "the stub of " " doesn't end between the two tenors"
    ∷ row "K47" "" " doesn't go with calculationParameters"
    ∷ row "K48" "a period has too few applicable business days for " ""
    ∷ row "K49" "" " isn't there, or has no calculationParameters"
    ∷ row "notjson" "" " isn't JSON"
    ∷ row "missing" "" " is missing, or lacks a member that it has to have"
    ∷ row "kind" "" " isn't the text or the object that it has to be"
    ∷ row "unknown" "" " has a member that isn't known"
    ∷ row "profile" "" " has a member or a value that FpML knows and this program doesn't read"
    ∷ row "value" "the text of " " is none of its values, or is out of range"
    ∷ row "count" "" " appears too often, or has two members that don't go together"
    ∷ []

-- the rules and kinds of fault, as the program prints them
unfoldable pub rule_codes : List (List ℕ)
rule_codes = map (λ (r : Row). codes r.rule) rows

-- what is said before the element, for each line of the table
unfoldable pub texts_before : List (List ℕ)
texts_before = map (λ (r : Row). codes r.before) rows

-- what is said after the element, for each line of the table
unfoldable pub texts_after : List (List ℕ)
texts_after = map (λ (r : Row). codes r.after) rows

-- ---- the words of a rule and of a fault of cash flows, by the table

-- the row of a rule in the table
abbrev pub row_of_rule : Rule → ℕ
row_of_rule of_rule.K1 = 0
row_of_rule of_rule.K2 = 1
row_of_rule of_rule.K3 = 2
row_of_rule of_rule.K4 = 3
row_of_rule of_rule.K5 = 4
row_of_rule of_rule.K6 = 5
row_of_rule of_rule.K7 = 6
row_of_rule of_rule.K8 = 7
row_of_rule of_rule.K10 = 8
row_of_rule of_rule.K11 = 9
row_of_rule of_rule.K12 = 10
row_of_rule of_rule.K13 = 11
row_of_rule of_rule.K14 = 12
row_of_rule of_rule.K15 = 13
row_of_rule of_rule.K16 = 14
row_of_rule of_rule.K17 = 15
row_of_rule of_rule.K18 = 16
row_of_rule of_rule.K19 = 17
row_of_rule of_rule.K20 = 18
row_of_rule of_rule.K21 = 19
row_of_rule of_rule.K30 = 20
row_of_rule of_rule.K31 = 21
row_of_rule of_rule.K32 = 22
row_of_rule of_rule.K33 = 23
row_of_rule of_rule.K34 = 24
row_of_rule of_rule.K35 = 25
row_of_rule of_rule.K36 = 26
row_of_rule of_rule.K37 = 27
row_of_rule of_rule.K38 = 28
row_of_rule of_rule.K39 = 29
row_of_rule of_rule.K40 = 30
row_of_rule of_rule.K41 = 31
row_of_rule of_rule.K42 = 32
row_of_rule of_rule.K43 = 33
row_of_rule of_rule.K44 = 34
row_of_rule of_rule.K45 = 35
row_of_rule of_rule.K46 = 36
row_of_rule of_rule.K47 = 37
row_of_rule of_rule.K48 = 38
row_of_rule of_rule.K49 = 39

-- the row of a fault of cash flows in the table
abbrev pub row_of_shape : ShapeKind → ℕ
row_of_shape shape.NotJson = 40
row_of_shape shape.Missing = 41
row_of_shape shape.Kind = 42
row_of_shape shape.Unknown = 43
row_of_shape shape.Profile = 44
row_of_shape shape.Value = 45
row_of_shape shape.Count = 46

-- the text at a place of a list, or another past its end
abbrev pub text_at : List (List ℕ) → ℕ → List ℕ → List ℕ
text_at [] place other = other
text_at (first ∷ rest) place other = if place == 0 then first else text_at rest (place - 1) other

-- what is said before the element at fault, by its row
abbrev pub before : ℕ → List ℕ
before row = text_at texts_before row []

-- what is said after the element at fault, by its row
abbrev pub words_after : ℕ → List ℕ
words_after row = text_at texts_after row (codes " breaks this rule")
