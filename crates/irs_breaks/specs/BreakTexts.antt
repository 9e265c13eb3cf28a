-- The text of the breaks: a line each, and a last line with the counts.
use Rattle.std.specs.Prelude.{ℕ, zero, suc, ◌+◌, ◌-◌, min, if◌then◌else◌, ℤ, pos, List, ◌∷◌, ◌++◌, length, sum_by, codes, decimal}
use Rattle.std.specs.Prelude.{Option, Some, None}
use Rattle.std.specs.Ordering.{int_eq}
use Rattle.std.specs.Int.{int_rem_euclid, int_div_euclid}
use Rattle.std.specs.Fmt.{signed_decimal}
use Rattle.std.specs.List.{flat_map}
use Rattle.irs_base.specs.Texts.{day_text, dec_text}
use Rattle.irs_base.specs.declared.line.Dec.{Dec}
use Rattle.irs_terms.specs.declared.currency.Currency.{Currency}
use Rattle.irs_schedule.specs.RowsOf.{dec_or_dash}
use Rattle.irs_audit.specs.Verdicts.{field_name, row_name}
use Rattle.irs_flows.specs.declared.flows.StatedFraction.{StatedFraction}
use Rattle.irs_breaks.specs.Findings.{counted_as, Findings}
use Rattle.irs_breaks.specs.declared.findings.Break.{Break}
use Rattle.irs_breaks.specs.declared.findings.BreakPlace.{BreakPlace}
use Rattle.irs_breaks.specs.declared.findings.What.{What}
use Rattle.irs_breaks.specs.declared.findings.What.TheVariants as what
use Rattle.irs_breaks.specs.declared.values.Standing.TheVariants.{Compared, Unknown, Unstated}
use Rattle.irs_breaks.specs.declared.values.Values.{Values}
use Rattle.irs_breaks.specs.declared.values.Values.TheVariants.{Counts as Days, Currencies, Dates, Fractions, Numbers}

-- ---- names

-- the name of what breaks
abbrev pub what_name : What → List ℕ
what_name (what.Missing v) = codes "missing"
what_name (what.Extra places v) = codes "extra"
what_name (what.Undated places v) = codes "undated"
what_name (what.Field f) = field_name f.field

-- ---- values

-- a text, or `-` where there is none
abbrev pub or_dash : {X : Type 0} → (X → List ℕ) → Option X → List ℕ
or_dash text None = codes "-"
or_dash text (Some x) = text x

-- a number of units of 10^-(places + more) as a decimal: with `places` decimals, and more only as far as its
-- value needs them
abbrev pub shortest : ℕ → ℕ → ℤ → Dec
shortest zero places units = record { units = units; places = places }
shortest (suc more) places units =
    if int_eq (int_rem_euclid units (pos 10)) (pos 0) then shortest more places (int_div_euclid units (pos 10))
    else record { units = units; places = places + suc more }

-- the text of a decimal
abbrev pub text_of_dec : Dec → List ℕ
text_of_dec v = dec_text v.units v.places

-- a stated number of units of 10^-12, with at least these decimals
abbrev pub stated_text : ℕ → ℤ → List ℕ
stated_text places units = text_of_dec (shortest (12 - places) places units)

-- a stated fraction, as a decimal with the decimals with which it was stated; none is read with more than 12
abbrev pub fraction_text : StatedFraction → List ℕ
fraction_text f = dec_text f.units (min f.places 12)

-- the decimals of a number of ours
abbrev pub places_of : Option Dec → ℕ
places_of (Some v) = v.places
places_of None = 0

-- the text of our value
abbrev pub our_value : Values → List ℕ
our_value (Dates day stated) = day_text day
our_value (Days count stated) = signed_decimal count
our_value (Currencies currency stated) = currency.letters
our_value (Numbers number stated) = dec_or_dash number
our_value (Fractions frac stated) = signed_decimal frac.num ++ 47 ∷ signed_decimal frac.den

-- the text of their value
abbrev pub their_value : Values → List ℕ
their_value (Dates day stated) = or_dash day_text stated
their_value (Days count stated) = or_dash signed_decimal stated
their_value (Currencies currency stated) = or_dash (λ (c : Currency). c.letters) stated
their_value (Numbers number stated) = or_dash (stated_text (places_of number)) stated
their_value (Fractions frac stated) = or_dash fraction_text stated

-- the text of our side: `-` where only theirs has the row
abbrev pub ours_text : What → List ℕ
ours_text (what.Missing v) = dec_or_dash v
ours_text (what.Extra places v) = codes "-"
ours_text (what.Undated places v) = codes "-"
ours_text (what.Field f) = our_value f.values

-- the text of their side: `-` where only ours has the row
abbrev pub theirs_text : What → List ℕ
theirs_text (what.Missing v) = codes "-"
theirs_text (what.Extra places v) = or_dash (stated_text places) v
theirs_text (what.Undated places v) = or_dash (stated_text places) v
theirs_text (what.Field f) = their_value f.values

-- ---- lines

-- the rows of a break: stream, kind, date and numbers
abbrev pub place_fields : BreakPlace → List ℕ
place_fields place =
    codes "b" ++ 32 ∷ decimal place.stream ++ 32 ∷ row_name place.kind ++ 32 ∷ or_dash day_text place.day
    ++ 32 ∷ or_dash decimal place.ours ++ 32 ∷ or_dash decimal place.theirs

-- `b STREAM KIND DATE N M WHAT OURS THEIRS`
unfoldable pub break_text : Break → List ℕ
break_text b =
    place_fields b.place ++ 32 ∷ what_name b.what ++ 32 ∷ ours_text b.what ++ 32 ∷ theirs_text b.what ++ codes "\n"

-- the first line, with the first day to be compared, or `-`
abbrev pub breaks_first_line : Option ℤ → List ℕ
breaks_first_line from = codes "irs-breaks 1" ++ 32 ∷ or_dash day_text from ++ codes "\n"

-- the last line: how many breaks and pairs there are, and how many fields are compared, unstated and unknown
abbrev pub last_line : Findings → List ℕ
last_line list =
    codes "end" ++ 32 ∷ decimal (length list.breaks) ++ 32 ∷ decimal (length list.pairs)
    ++ 32 ∷ decimal (sum_by (counted_as Compared) list.pairs)
    ++ 32 ∷ decimal (sum_by (counted_as Unstated) list.pairs)
    ++ 32 ∷ decimal (sum_by (counted_as Unknown) list.pairs) ++ codes "\n"

-- the whole text
abbrev pub breaks_text : Option ℤ → Findings → List ℕ
breaks_text from list = breaks_first_line from ++ flat_map break_text list.breaks ++ last_line list
