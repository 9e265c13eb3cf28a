-- Private: no public contract rests on this file.
-- Of private functions: the texts of cash flows, piece by piece.
use Rattle.std.specs.Prelude.{◌≤◌, IfSome, ℕ, Bool, true, false, ◌&&◌, ◌≡◌, not, ◌==◌, List, [], ◌∷◌, ◌++◌, codes, map}
use Rattle.std.specs.Prelude.{Option, Some, None, option_map}
use Rattle.std.specs.Int.{is_in_range}
use Rattle.std.specs.List.{list_all}
use Rattle.serde_json.specs.Data.{Data}
use Rattle.serde_json.specs.Written.{comma_if, compact_text}
use Rattle.irs_terms.specs.declared.results.Exchange.{Exchange}
use Rattle.irs_terms.specs.declared.results.Reset.{Reset}
use Rattle.irs_schedule.specs.RowsOf.{IsFew}
use Rattle.irs_schedule.specs.declared.entries.PaymentEntry.{PaymentEntry}
use Rattle.irs_schedule.specs.declared.views.CalculationPeriod.{CalculationPeriod}
use Rattle.irs_emit.specs.Emitted.{definition_value, exchange_value, count_leaf, day_leaf, fraction_leaf, notional_leaf}
use Rattle.irs_emit.specs.Emitted.{rate_leaf}

-- ---- what a payment of a schedule keeps

-- the periods of a payment count from 1 and are in order, and its amount has few decimals
pub record IsPaid (y : PaymentEntry) : Type 0 where
  pub first : 1 ≤ y.first_period
  pub order : y.first_period ≤ y.last_period
  pub decimals : IfSome y.amount IsFew

-- ---- the texts of cash flows, piece by piece: what the code appends for each part of the value

-- ---- characters

-- a character of a leaf: a digit, a capital letter, `-` or `.`. Others from the space to `~` are plain too, where
-- neither JSON nor XML escapes them
unfoldable pub is_leaf_char : ℕ → Bool
is_leaf_char c =
    is_in_range 32 126 c
    && (not (c == 34) && (not (c == 92) && (not (c == 38) && (not (c == 60) && not (c == 93)))))

-- all characters are plain
abbrev pub AreLeafChars : List ℕ → Type 0
AreLeafChars cs = list_all is_leaf_char cs ≡ true

-- ---- lists

-- values one after another, with a comma between them, and one before the first where something is before it
abbrev pub listed_text : Bool → List Data → List ℕ
listed_text later [] = []
listed_text later (d ∷ ds) = comma_if later ++ (compact_text d ++ listed_text true ds)

-- whether something is before what comes after these values
abbrev pub is_later : Bool → List Data → Bool
is_later later [] = later
is_later later (d ∷ ds) = true

-- ---- members that may be absent

-- a member with a comma after it, where its value is known; its start is its name in quotes and a colon
abbrev pub known_text : List ℕ → Option Data → List ℕ
known_text start None = []
known_text start (Some d) = start ++ (compact_text d ++ 44 ∷ [])

-- the member of the principal exchanges with a comma before it, where there are any
abbrev pub exchanges_text : List Exchange → List ℕ
exchanges_text [] = []
exchanges_text (x ∷ xs) =
    codes ",\"principalExchange\":[" ++ (listed_text false (map exchange_value (x ∷ xs)) ++ 93 ∷ [])

-- ---- a calculation period: its members before its rate, its rate, and its members after it

-- the adjusted days of a period, its number of days and its fraction
unfoldable pub period_front : CalculationPeriod → List ℕ
period_front x =
    codes "{\"adjustedEndDate\":" ++ (compact_text (day_leaf x.adjusted_end)
    ++ (codes ",\"adjustedStartDate\":" ++ (compact_text (day_leaf x.adjusted_start)
    ++ (codes ",\"calculationPeriodNumberOfDays\":" ++ (compact_text (count_leaf x.days)
    ++ (codes ",\"dayCountYearFraction\":" ++ (compact_text (fraction_leaf x.frac) ++ 44 ∷ [])))))))

-- the rate of a period: its `fixedRate`, or on a floating stream its `floatingRateDefinition`
abbrev pub rate_text : CalculationPeriod → Option Reset → List ℕ
rate_text x None = known_text (codes "\"fixedRate\":") (option_map rate_leaf x.rate)
rate_text x (Some r) = known_text (codes "\"floatingRateDefinition\":") (Some (definition_value x r))

-- the notional of a period and its unadjusted days
unfoldable pub period_back : CalculationPeriod → List ℕ
period_back x =
    codes "\"notionalAmount\":" ++ (compact_text (notional_leaf x.notional)
    ++ (codes ",\"unadjustedEndDate\":" ++ (compact_text (day_leaf x.«end»)
    ++ (codes ",\"unadjustedStartDate\":" ++ (compact_text (day_leaf x.start) ++ 125 ∷ [])))))
