-- The leaves of the table of elements: what their texts say.
use Rattle.std.specs.{List.list_all, List.list_any, Fmt.signed_decimal, Str.bytes_eq}
use Rattle.std.specs.Prelude.{ℕ, nat_le, nat_lt, ◌==◌, Bool, not, ◌&&◌, List, length, Option, Some, None, if◌then◌else◌}
use Rattle.std.specs.Prelude.{take, slice_index, ℤ, [], ◌∷◌, ◌-◌, get_or, is_some, codes}
use Rattle.irs_base.specs.{Limits.most_index, Limits.most_name, Texts.date_at}
use Rattle.irs_terms.specs.declared.{places.Rule.Rule, currency.Currency.Currency}
use Rattle.irs_terms.specs.declared.places.Rule.TheVariants.{K3, K5, K6}
use Rattle.irs_json.specs.Leaves.{Leaf, word, whole, truth}
use Rattle.irs_elements.specs.declared.table.Leaf.{Leaf as LeafKind}
use Rattle.irs_elements.specs.Codes
use Rattle.irs_elements.specs.Numbers
use Rattle.irs_elements.specs.declared.table.Leaf.TheVariants as kind

-- ---- texts that are kept as they are

-- a byte from `!` to `~`
abbrev pub is_visible : ℕ → Bool
is_visible b = nat_le 33 b && nat_le b 126

-- the name of a centre: 1 to 32 bytes from `!` to `~`
abbrev pub is_center_name : List ℕ → Bool
is_center_name s = nat_lt 0 (length s) && nat_le (length s) most_name && list_all is_visible s

-- a byte that is no control byte
abbrev pub is_no_control : ℕ → Bool
is_no_control b = nat_le 32 b && not (b == 127)

-- the index of a rate: 1 to 128 bytes, none of them a control byte, and no space at its ends
abbrev pub is_index_name : List ℕ → Bool
is_index_name s =
    nat_lt 0 (length s) && nat_le (length s) most_index && list_all is_no_control s
    && not (get_or s 0 0 == 32) && not (get_or s (length s - 1) 0 == 32)

-- a capital letter
abbrev pub is_capital : ℕ → Bool
is_capital b = nat_le 65 b && nat_le b 90

-- a currency: three capital letters
abbrev pub is_currency : List ℕ → Bool
is_currency s = (length s == 3) && list_all is_capital s

-- a currency: three capital letters
abbrev pub currency_at : List ℕ → Option Currency
currency_at s = if is_currency s then Some (record { letters = s }) else None

-- ---- the day that the text of a date names, as a function of the text

-- a last `Z` of a date is dropped
abbrev pub without_z : List ℕ → List ℕ
without_z s = if (length s == 11) && (slice_index s 10 == 90) then take 10 s else s

-- `YYYY-MM-DD` of a day in range, with or without a last `Z`
unfoldable pub leaf_date_at : List ℕ → Option ℤ
leaf_date_at s = date_at (without_z s)

-- ---- what the text of a leaf says, and the rule that it breaks where it says nothing

-- the text of a leaf: a whole number's decimal digits, and `true` or `false`
abbrev pub text_of_leaf : Leaf → List ℕ
text_of_leaf (word s) = s
text_of_leaf (whole z) = signed_decimal z
text_of_leaf (truth b) = if b then codes "true" else codes "false"

-- whether the text is in the grammar and the range of its kind
abbrev pub has_value : LeafKind → List ℕ → Bool
has_value kind.Date s = is_some (leaf_date_at s)
has_value kind.Multiplier s = is_some (Numbers.multiplier_at s)
has_value kind.OffsetDays s = is_some (Numbers.offset_at s)
has_value kind.ObservationDays s = is_some (Numbers.observation_days_at s)
has_value kind.Precision s = is_some (Numbers.precision_at s)
has_value kind.Whole s = is_some (Numbers.whole_at s)
has_value kind.Notional s = is_some (Numbers.notional_at s)
has_value kind.Rate s = is_some (Numbers.leaf_rate_at s)
has_value kind.Amount s = is_some (Numbers.amount_at s)
has_value kind.Fraction s = is_some (Numbers.fraction_at s)
has_value kind.Truth s = is_some (Codes.truth_at s)
has_value kind.CenterName s = is_center_name s
has_value kind.IndexName s = is_index_name s
has_value kind.CurrencyName s = is_some (currency_at s)
has_value kind.Convention s = is_some (Codes.convention_at s)
has_value kind.PeriodUnit s = is_some (Codes.period_unit_at s)
has_value kind.TenorUnit s = is_some (Codes.tenor_unit_at s)
has_value kind.OffsetUnit s = is_some (Codes.offset_unit_at s)
has_value kind.DayType s = is_some (Codes.day_kind_at s)
has_value kind.StubType s = is_some (Codes.stub_kind_at s)
has_value kind.Roll s = is_some (Codes.roll_at s)
has_value kind.PayRelative s = is_some (Codes.relative_at s)
has_value kind.ResetRelative s = is_some (Codes.relative_at s)
has_value kind.DayCount s = is_some (Codes.day_count_at s)
has_value kind.Compounding s = is_some (Codes.compounding_at s)
has_value kind.CalculationMethod s = is_some (Codes.calculation_method_at s)
has_value kind.Treatment s = is_some (Codes.treatment_at s)
has_value kind.Direction s = is_some (Codes.direction_at s)

-- the texts that are listed as out of the profile
abbrev pub out_of_profile : LeafKind → List (List ℕ)
out_of_profile kind.Convention = codes "FRN" ∷ codes "NotApplicable" ∷ []
out_of_profile kind.OffsetUnit = codes "W" ∷ codes "M" ∷ codes "Y" ∷ []
out_of_profile kind.Roll =
    codes "FRN" ∷ codes "IMMCAD" ∷ codes "IMMAUD" ∷ codes "IMMNZD" ∷ codes "SFE" ∷ codes "TBILL" ∷ []
out_of_profile kind.PayRelative = codes "ResetDate" ∷ codes "LastPricingDate" ∷ codes "ValuationDate" ∷ []
out_of_profile kind.DayCount =
    codes "ACT/ACT.ICMA" ∷ codes "ACT/ACT.ISMA" ∷ codes "ACT/ACT.AFB" ∷ codes "ACT/365L" ∷ codes "BUS/252" ∷ []
out_of_profile kind.CalculationMethod = codes "CompoundedIndex" ∷ []
out_of_profile _ = []

-- a text without a value is out of the profile or outside its grammar
unfoldable pub text_rule : LeafKind → List ℕ → Option Rule
text_rule kind s =
    if has_value kind s then None else (if list_any (bytes_eq s) (out_of_profile kind) then Some K5 else Some K6)

-- the rule that a value breaks at a leaf
abbrev pub leaf_rule : LeafKind → Option Leaf → Option Rule
leaf_rule kind None = Some K3
leaf_rule kind (Some leaf) = text_rule kind (text_of_leaf leaf)
