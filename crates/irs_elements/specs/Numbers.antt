-- The numbers of leaves: decimals, whole numbers with their ranges, and day count fractions.
use Rattle.std.specs.List.{list_all}
use Rattle.std.specs.Prelude.{ℕ, ◌+◌, nat_lt, nat_le, Bool, ◌&&◌, ◌==◌, List, [], ◌∷◌, length, drop, ℤ, pos, neg_ℤ}
use Rattle.std.specs.Prelude.{Option, Some, None, option_map, if◌then◌else◌, ◌||◌, unsigned_abs, int_le, ◌≡◌, ◌⊎◌, ◌*◌}
use Rattle.std.specs.Prelude.{◌^◌, ◌++◌, take}
use Rattle.irs_base.specs.{Texts.is_digit, Texts.is_zero, Texts.number_after, Texts.number_of, Texts.padded}
use Rattle.irs_base.specs.{Texts.has_no_point, Texts.AreParts, Texts.most_places, Limits.most_multiplier}
use Rattle.irs_base.specs.{Limits.most_notional, Limits.most_observation_offset, Limits.most_offset, Limits.most_rate}
use Rattle.irs_base.specs.{Limits.Rounded, declared.line.Dec.Dec, declared.rounding.Direction.TheVariants.Nearest}

-- ---- the number that the text of a decimal spells, as a function of the text

-- the text before the first point
abbrev pub before_point : List ℕ → List ℕ
before_point [] = []
before_point (c ∷ cs) = if c == 46 then [] else c ∷ before_point cs

-- the text after the first point
abbrev pub behind_point : List ℕ → List ℕ
behind_point [] = []
behind_point (c ∷ cs) = if c == 46 then cs else behind_point cs

-- digits before and after the point, some in all, and at most 18 before it
abbrev pub are_parts : List ℕ → List ℕ → Bool
are_parts before behind =
    list_all is_digit before
    && (list_all is_digit behind && (nat_lt 0 (length before + length behind) && nat_le (length before) 18))

-- in units of 10^-places; past the places there are only zeros
unfoldable pub unsigned_at : ℕ → List ℕ → Option ℕ
unsigned_at places s =
    if are_parts (before_point s) (behind_point s)
    && list_all is_zero (drop places (behind_point s)) then Some
    (number_after (number_of (before_point s)) (padded places (behind_point s))) else None

-- the same after an optional sign
unfoldable pub dec_at : ℕ → List ℕ → Option ℤ
dec_at places [] = None
dec_at places (c ∷ cs) =
    if c == 43 then option_map pos (unsigned_at places cs) else
    (if c == 45 then option_map (λ n. neg_ℤ (pos n)) (unsigned_at places cs) else option_map pos
    (unsigned_at places (c ∷ cs)))

-- ---- the numbers of leaves, with their ranges

-- the number, where it lies from low to high
abbrev pub within : ℤ → ℤ → Option ℤ → Option ℤ
within low high None = None
within low high (Some z) = if int_le low z && int_le z high then Some z else None

-- a notional: 4 places, 0 to 10^13
abbrev pub notional_at : List ℕ → Option ℤ
notional_at s = within (pos 0) (pos most_notional) (dec_at 4 s)

-- a rate, a spread or a multiplier: 9 places, at most 10 in size
abbrev pub leaf_rate_at : List ℕ → Option ℤ
leaf_rate_at s = within (neg_ℤ (pos most_rate)) (pos most_rate) (dec_at 9 s)

-- an amount of cash flows: 12 places
abbrev pub amount_at : List ℕ → Option ℤ
amount_at s = dec_at 12 s

-- the text after a sign
abbrev pub digits_of : List ℕ → List ℕ
digits_of [] = []
digits_of (c ∷ cs) = if c == 43 || c == 45 then cs else c ∷ cs

-- at most nine digits after a sign, without a point
abbrev pub is_whole_number : List ℕ → Bool
is_whole_number s = nat_le (length (digits_of s)) 9 && has_no_point s

-- a whole number: a decimal without places and without a point, of at most 9 digits
abbrev pub whole_at : List ℕ → Option ℤ
whole_at s = if is_whole_number s then dec_at 0 s else None

-- the multiplier of a frequency: 1 to 999
abbrev pub multiplier_at : List ℕ → Option ℕ
multiplier_at s = option_map unsigned_abs (within (pos 1) (pos most_multiplier) (whole_at s))

-- the days of an offset: -60 to 60
abbrev pub offset_at : List ℕ → Option ℤ
offset_at s = within (neg_ℤ (pos most_offset)) (pos most_offset) (whole_at s)

-- the days of an observation shift, a lookback or a lockout: 1 to 30
abbrev pub observation_days_at : List ℕ → Option ℕ
observation_days_at s = option_map unsigned_abs (within (pos 1) (pos most_observation_offset) (whole_at s))

-- the decimals to which a rate is rounded: 0 to 9
abbrev pub precision_at : List ℕ → Option ℕ
precision_at s = option_map unsigned_abs (within (pos 0) (pos 9) (whole_at s))

-- ---- the day count fraction that a text of cash flows states: a decimal without sign

-- The text is digits with at most one point, at least one digit, and at most 18 before the point. Its value is v, with
-- as many places as the text has decimals. Where it has more than 12, v has 12 and is rounded Nearest.
pub record IsFraction (text : List ℕ) (v : Dec) : Type 0 where
  pub whole : List ℕ
  pub fraction : List ℕ
  pub parts : AreParts whole fraction
  pub is : ((text ≡ whole) × (fraction ≡ [])) ⊎ (text ≡ whole ++ 46 ∷ fraction)
  pub places : v.places ≡ length (take most_places fraction)
  pub value : Rounded Nearest (pos (number_of (whole ++ fraction) * 10 ^ v.places)) (pos (10 ^ length fraction)) v.units

-- ---- as a function of the text

-- 1 where the first of the digits is 5 or more
abbrev pub carried : List ℕ → ℕ
carried [] = 0
carried (c ∷ cs) = if nat_le 53 c then 1 else 0

-- the digits before the point and the decimals that are kept, and what is carried from those after them
abbrev pub fraction_from_digits : List ℕ → List ℕ → Dec
fraction_from_digits whole fraction = record {
  units = pos (number_after (number_of whole) (take most_places fraction) + carried (drop most_places fraction));
  places = length (take most_places fraction);
}

-- the fraction of a text, with its decimals
unfoldable pub fraction_at : List ℕ → Option Dec
fraction_at s =
    if are_parts (before_point s) (behind_point s) then Some (fraction_from_digits (before_point s) (behind_point s)) else None
