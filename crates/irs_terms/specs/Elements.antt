-- The table of elements: the places of those that rules and readers name.
use Prim.Native.String.{String}
use Rattle.std.specs.Prelude.{ℕ, List, [], ◌∷◌, Option, Some, None}

-- how many elements there are
abbrev pub count : ℕ
count = 167

-- a name, where there is one
abbrev pub name_or_empty : Option (List ℕ) → List ℕ
name_or_empty None = []
name_or_empty (Some name) = name

-- ---- the places of the elements that rules and readers name; `named_elements` has the path of each

-- outside the streams
abbrev pub document : ℕ
document = 0

abbrev pub swap : ℕ
swap = 1

abbrev pub swap_stream : ℕ
swap_stream = 2

abbrev pub payer_party_reference : ℕ
payer_party_reference = 3

-- `calculationPeriodDates`
abbrev pub calculation_period_dates : ℕ
calculation_period_dates = 4

abbrev pub effective_date : ℕ
effective_date = 5

abbrev pub effective_date_adjustments : ℕ
effective_date_adjustments = 7

abbrev pub effective_date_centers_reference : ℕ
effective_date_centers_reference = 9

abbrev pub termination_date : ℕ
termination_date = 12

abbrev pub termination_date_adjustments : ℕ
termination_date_adjustments = 14

abbrev pub termination_date_centers_reference : ℕ
termination_date_centers_reference = 16

abbrev pub period_dates_adjustments : ℕ
period_dates_adjustments = 19

abbrev pub period_dates_centers_reference : ℕ
period_dates_centers_reference = 21

abbrev pub first_period_start_date : ℕ
first_period_start_date = 24

abbrev pub first_period_start_adjustments : ℕ
first_period_start_adjustments = 26

abbrev pub first_period_start_centers_reference : ℕ
first_period_start_centers_reference = 28

abbrev pub first_regular_period_start_date : ℕ
first_regular_period_start_date = 31

abbrev pub last_regular_period_end_date : ℕ
last_regular_period_end_date = 32

abbrev pub calculation_period_frequency : ℕ
calculation_period_frequency = 34

-- `paymentDates`
abbrev pub payment_dates : ℕ
payment_dates = 38

abbrev pub payment_dates_reference : ℕ
payment_dates_reference = 39

abbrev pub payment_frequency : ℕ
payment_frequency = 40

abbrev pub first_payment_date : ℕ
first_payment_date = 43

abbrev pub last_regular_payment_date : ℕ
last_regular_payment_date = 44

abbrev pub payment_days_offset : ℕ
payment_days_offset = 46

abbrev pub payment_dates_adjustments : ℕ
payment_dates_adjustments = 50

abbrev pub payment_dates_centers_reference : ℕ
payment_dates_centers_reference = 52

-- `resetDates`
abbrev pub reset_dates : ℕ
reset_dates = 55

abbrev pub reset_dates_reference : ℕ
reset_dates_reference = 56

abbrev pub fixing_dates : ℕ
fixing_dates = 58

abbrev pub fixing_dates_centers_reference : ℕ
fixing_dates_centers_reference = 63

abbrev pub fixing_dates_relative_to : ℕ
fixing_dates_relative_to = 66

abbrev pub reset_frequency : ℕ
reset_frequency = 67

abbrev pub reset_dates_adjustments : ℕ
reset_dates_adjustments = 70

abbrev pub reset_dates_centers_reference : ℕ
reset_dates_centers_reference = 72

-- `calculationPeriodAmount`
abbrev pub calculation_period_amount : ℕ
calculation_period_amount = 75

abbrev pub notional_step_date : ℕ
notional_step_date = 81

abbrev pub fixed_rate_step_date : ℕ
fixed_rate_step_date = 87

abbrev pub index_tenor : ℕ
index_tenor = 91

abbrev pub multiplier_step_date : ℕ
multiplier_step_date = 97

abbrev pub spread_step_date : ℕ
spread_step_date = 102

abbrev pub initial_rate : ℕ
initial_rate = 104

abbrev pub calculation_parameters : ℕ
calculation_parameters = 109

abbrev pub applicable_business_days : ℕ
applicable_business_days = 117

abbrev pub day_count_fraction : ℕ
day_count_fraction = 119

abbrev pub compounding_method : ℕ
compounding_method = 120

-- `stubCalculationPeriodAmount`
abbrev pub stub_amount : ℕ
stub_amount = 121

abbrev pub stub_amount_reference : ℕ
stub_amount_reference = 122

abbrev pub initial_stub : ℕ
initial_stub = 123

abbrev pub initial_stub_floating_rate : ℕ
initial_stub_floating_rate = 124

abbrev pub final_stub : ℕ
final_stub = 130

abbrev pub final_stub_floating_rate : ℕ
final_stub_floating_rate = 131

-- `principalExchanges`, and `cashflows` with one of its periods
abbrev pub principal_exchanges : ℕ
principal_exchanges = 137

abbrev pub cashflows : ℕ
cashflows = 141

abbrev pub flow_period : ℕ
flow_period = 152

-- the elements that rules and readers name, with their paths
unfoldable pub named_elements : List (ℕ × String)
named_elements =
    (document, "document")
    ∷ (swap, "swap")
    ∷ (swap_stream, "swapStream")
    ∷ (payer_party_reference, "payerPartyReference")
    ∷ (calculation_period_dates, "calculationPeriodDates")
    ∷ (effective_date, "calculationPeriodDates/effectiveDate")
    ∷ (effective_date_adjustments, "calculationPeriodDates/effectiveDate/dateAdjustments")
    ∷ (effective_date_centers_reference, "calculationPeriodDates/effectiveDate/dateAdjustments/businessCentersReference")
    ∷ (termination_date, "calculationPeriodDates/terminationDate")
    ∷ (termination_date_adjustments, "calculationPeriodDates/terminationDate/dateAdjustments")
    ∷ (termination_date_centers_reference, "calculationPeriodDates/terminationDate/dateAdjustments/businessCentersReference")
    ∷ (period_dates_adjustments, "calculationPeriodDates/calculationPeriodDatesAdjustments")
    ∷ (period_dates_centers_reference, "calculationPeriodDates/calculationPeriodDatesAdjustments/businessCentersReference")
    ∷ (first_period_start_date, "calculationPeriodDates/firstPeriodStartDate")
    ∷ (first_period_start_adjustments, "calculationPeriodDates/firstPeriodStartDate/dateAdjustments")
    ∷ (first_period_start_centers_reference, "calculationPeriodDates/firstPeriodStartDate/dateAdjustments/businessCentersReference")
    ∷ (first_regular_period_start_date, "calculationPeriodDates/firstRegularPeriodStartDate")
    ∷ (last_regular_period_end_date, "calculationPeriodDates/lastRegularPeriodEndDate")
    ∷ (calculation_period_frequency, "calculationPeriodDates/calculationPeriodFrequency")
    ∷ (payment_dates, "paymentDates")
    ∷ (payment_dates_reference, "paymentDates/calculationPeriodDatesReference")
    ∷ (payment_frequency, "paymentDates/paymentFrequency")
    ∷ (first_payment_date, "paymentDates/firstPaymentDate")
    ∷ (last_regular_payment_date, "paymentDates/lastRegularPaymentDate")
    ∷ (payment_days_offset, "paymentDates/paymentDaysOffset")
    ∷ (payment_dates_adjustments, "paymentDates/paymentDatesAdjustments")
    ∷ (payment_dates_centers_reference, "paymentDates/paymentDatesAdjustments/businessCentersReference")
    ∷ (reset_dates, "resetDates")
    ∷ (reset_dates_reference, "resetDates/calculationPeriodDatesReference")
    ∷ (fixing_dates, "resetDates/fixingDates")
    ∷ (fixing_dates_centers_reference, "resetDates/fixingDates/businessCentersReference")
    ∷ (fixing_dates_relative_to, "resetDates/fixingDates/dateRelativeTo")
    ∷ (reset_frequency, "resetDates/resetFrequency")
    ∷ (reset_dates_adjustments, "resetDates/resetDatesAdjustments")
    ∷ (reset_dates_centers_reference, "resetDates/resetDatesAdjustments/businessCentersReference")
    ∷ (calculation_period_amount, "calculationPeriodAmount")
    ∷ (notional_step_date, "calculationPeriodAmount/calculation/notionalSchedule/notionalStepSchedule/step/stepDate")
    ∷ (fixed_rate_step_date, "calculationPeriodAmount/calculation/fixedRateSchedule/step/stepDate")
    ∷ (index_tenor, "calculationPeriodAmount/calculation/floatingRateCalculation/indexTenor")
    ∷ (multiplier_step_date, "calculationPeriodAmount/calculation/floatingRateCalculation/floatingRateMultiplierSchedule/step/stepDate")
    ∷ (spread_step_date, "calculationPeriodAmount/calculation/floatingRateCalculation/spreadSchedule/step/stepDate")
    ∷ (initial_rate, "calculationPeriodAmount/calculation/floatingRateCalculation/initialRate")
    ∷ (calculation_parameters, "calculationPeriodAmount/calculation/floatingRateCalculation/calculationParameters")
    ∷ (applicable_business_days, "calculationPeriodAmount/calculation/floatingRateCalculation/calculationParameters/applicableBusinessDays")
    ∷ (day_count_fraction, "calculationPeriodAmount/calculation/dayCountFraction")
    ∷ (compounding_method, "calculationPeriodAmount/calculation/compoundingMethod")
    ∷ (stub_amount, "stubCalculationPeriodAmount")
    ∷ (stub_amount_reference, "stubCalculationPeriodAmount/calculationPeriodDatesReference")
    ∷ (initial_stub, "stubCalculationPeriodAmount/initialStub")
    ∷ (initial_stub_floating_rate, "stubCalculationPeriodAmount/initialStub/floatingRate")
    ∷ (final_stub, "stubCalculationPeriodAmount/finalStub")
    ∷ (final_stub_floating_rate, "stubCalculationPeriodAmount/finalStub/floatingRate")
    ∷ (principal_exchanges, "principalExchanges")
    ∷ (cashflows, "cashflows")
    ∷ (flow_period, "calculationPeriod")
    ∷ []
