-- The documents of `bulk`: one fixed stream over twenty years each, which differ in roll, dates, convention,
-- notional, rate and day count.
use Rattle.std.specs.Prelude.{ℕ, ◌+◌, ◌-◌, ◌*◌, ◌/◌, ◌%◌, List, [], ◌∷◌, ◌++◌, codes, decimal, Bool, if◌then◌else◌}
use Rattle.std.specs.Prelude.{slice_index_or}
use Rattle.irs_base.specs.Texts.{date_text, two_digits}

-- the most documents of a run
abbrev pub most_bulk : ℕ
most_bulk = 500

-- the roll of document k, which is also the day of its effective and its termination date
abbrev pub roll_of : ℕ → ℕ
roll_of k = 1 + k % 28

-- the month of the effective and the termination date
abbrev pub effective_month : ℕ → ℕ
effective_month k = 1 + k % 12

-- the year of the effective date; the termination date is twenty years later
abbrev pub effective_year : ℕ → ℕ
effective_year k = 1950 + k / 12

-- the effective date
abbrev pub effective_text : ℕ → List ℕ
effective_text k = date_text (effective_year k) (effective_month k) (roll_of k)

-- the termination date
abbrev pub termination_text : ℕ → List ℕ
termination_text k = date_text (effective_year k + 20) (effective_month k) (roll_of k)

-- the conventions, which the documents use in turn
abbrev pub conventions : List (List ℕ)
conventions =
    codes "NONE" ∷ codes "FOLLOWING" ∷ codes "MODFOLLOWING" ∷ codes "PRECEDING" ∷ codes "MODPRECEDING"
    ∷ codes "NEAREST" ∷ []

-- the convention of document k; a plain document has NONE in its place
unfoldable pub convention_text : Bool → ℕ → List ℕ
convention_text plain k = if plain then codes "NONE" else slice_index_or conventions ((k - 1) % 6) []

-- the notional of document k
unfoldable pub notional_text : ℕ → List ℕ
notional_text k = decimal (1000000 + 1000 * k)

-- the rate of document k: k in four digits after the point
unfoldable pub bulk_rate_text : ℕ → List ℕ
bulk_rate_text k = codes "0." ++ two_digits (k / 100) ++ two_digits (k % 100)

-- the day counts, which the documents use in turn
abbrev pub day_counts : List (List ℕ)
day_counts =
    codes "1/1" ∷ codes "ACT/ACT.ISDA" ∷ codes "ACT/365.FIXED" ∷ codes "ACT/360" ∷ codes "30/360" ∷ codes "30E/360"
    ∷ codes "30E/360.ISDA" ∷ []

-- the day count of document k
unfoldable pub day_count_text : ℕ → List ℕ
day_count_text k = slice_index_or day_counts ((k - 1) % 7) []

-- the members of an adjustments element: a convention, on the one centre BULK
unfoldable pub adjustments_text : List ℕ → List ℕ
adjustments_text convention =
    codes "\"businessDayConvention\":\"" ++ convention ++ codes "\",\"businessCenters\":{\"businessCenter\":\"BULK\"}"

-- an adjustable date
unfoldable pub date_element : List ℕ → List ℕ → List ℕ
date_element date adjustments =
    codes "{\"unadjustedDate\":\"" ++ date ++ codes "\",\"dateAdjustments\":{" ++ adjustments ++ codes "}}"

-- when the periods of document k begin and end
unfoldable pub dates_text : List ℕ → ℕ → List ℕ
dates_text adjustments k =
    codes "\"calculationPeriodDates\":{\"@id\":\"cpd\",\n\"effectiveDate\":"
    ++ date_element (effective_text k) adjustments
    ++ codes ",\n\"terminationDate\":" ++ date_element (termination_text k) adjustments
    ++ codes ",\n\"calculationPeriodDatesAdjustments\":{" ++ adjustments
    ++ codes "},\n\"calculationPeriodFrequency\":{\"periodMultiplier\":\"1\",\"period\":\"M\",\"rollConvention\":\""
    ++ decimal (roll_of k) ++ codes "\"}},\n"

-- when a document pays
unfoldable pub payments_text : List ℕ → List ℕ
payments_text adjustments =
    codes "\"paymentDates\":{\"paymentFrequency\":{\"periodMultiplier\":\"1\",\"period\":\"M\"},\n\"payRelativeTo\":\"CalculationPeriodEndDate\",\n\"paymentDatesAdjustments\":{" ++ adjustments ++ codes "}},\n"

-- what document k pays
unfoldable pub amounts_text : ℕ → List ℕ
amounts_text k =
    codes "\"calculationPeriodAmount\":{\"calculation\":{\n\"notionalSchedule\":{\"notionalStepSchedule\":{\"initialValue\":\"" ++ notional_text k
    ++ codes "\",\"currency\":\"USD\"}},\n\"fixedRateSchedule\":{\"initialValue\":\"" ++ bulk_rate_text k
    ++ codes "\"},\"dayCountFraction\":\"" ++ day_count_text k ++ codes "\"}}}}}\n"

-- document k with dates adjusted as this element says
abbrev pub document_with : List ℕ → ℕ → List ℕ
document_with adjustments k =
    codes "{\"swap\":{\"swapStream\":{\n" ++ dates_text adjustments k ++ payments_text adjustments ++ amounts_text k

-- document k; a plain one adjusts no date
unfoldable pub bulk_document_text : Bool → ℕ → List ℕ
bulk_document_text plain k = document_with (adjustments_text (convention_text plain k)) k
