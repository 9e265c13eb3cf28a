-- Private: no public contract rests on this file.
-- Of private functions: observed rates and reset dates.
use Rattle.std.specs.Prelude.{Option, Some, None, ℤ, ℕ}
use Rattle.irs_terms.specs.declared.amounts.FloatTerms.{FloatTerms}
use Rattle.irs_terms.specs.declared.amounts.StubRate.{StubRate}
use Rattle.irs_terms.specs.declared.amounts.StubRate.TheVariants.{Index, Fixed}
use Rattle.irs_terms.specs.declared.amounts.StubTerms.{StubTerms}
use Rattle.irs_terms.specs.declared.dates.ResetTerms.{ResetTerms}
use Rattle.irs_adjust.specs.declared.moved.NoDate.{NoDate}
use Rattle.irs_adjust.specs.declared.moved.NoDate.TheVariants as moves
use Rattle.irs_resets.specs.declared.observed.PeriodKind.{PeriodKind}
use Rattle.irs_resets.specs.declared.observed.PeriodKind.TheVariants.{InitialStub, FinalStub, FirstRegular}
use Rattle.irs_resets.specs.declared.observed.PeriodKind.TheVariants.{LaterRegular}
use Rattle.irs_resets.specs.Rates.{RateTable, RateSource, Stated, Line, rate_from}
use Rattle.irs_resets.specs.declared.dates.DateFault.{DateFault}
use Rattle.irs_resets.specs.declared.dates.DateFault.TheVariants.{NoFixing, OutOfRange}
use Rattle.irs_resets.specs.Resets.{ResetDays, IsDates}

-- ---- the observed rate of a calculation period
-- Periods count from 1.

-- ---- the same by functions

-- the source of a stub's own rate
abbrev pub own_source : StubRate → RateSource
own_source (Index index tenor) = Line index tenor
own_source (Fixed rate) = Stated rate

-- the fixing of the stream's own index and tenor
abbrev pub index_source : FloatTerms → RateSource
index_source float = Line float.index float.tenor

-- the rate that a stub is given, else that of the stream's index
abbrev pub own_or_index : Option StubRate → FloatTerms → RateSource
own_or_index None float = index_source float
own_or_index (Some given) float = own_source given

-- the rate of the initial stub
abbrev pub initial_stub_source : Option StubTerms → FloatTerms → RateSource
initial_stub_source None float = index_source float
initial_stub_source (Some stubs) float = own_or_index stubs.initial float

-- the rate of the final stub
abbrev pub final_stub_source : Option StubTerms → FloatTerms → RateSource
final_stub_source None float = index_source float
final_stub_source (Some stubs) float = own_or_index stubs.last float

-- the initial rate where it is given, else that of the stream's index
abbrev pub initial_or_index : Option ℤ → FloatTerms → RateSource
initial_or_index None float = index_source float
initial_or_index (Some rate) float = Stated rate

-- the source of the rate of a period of that kind
abbrev pub source_by : PeriodKind → FloatTerms → Option StubTerms → RateSource
source_by InitialStub float stubs = initial_stub_source stubs float
source_by FinalStub float stubs = final_stub_source stubs float
source_by FirstRegular float stubs = initial_or_index float.initial_rate float
source_by LaterRegular float stubs = index_source float

-- the observed rate of a period of that kind with the fixing date d
abbrev pub observed_rate : PeriodKind → FloatTerms → Option StubTerms → RateTable → ℤ → Option ℤ
observed_rate kind float stubs rates d = rate_from (source_by kind float stubs) rates d

-- ---- reset dates and fixing dates of the calculation periods, and how they may fail
-- Periods count from 1.

-- period i has its dates
abbrev pub HasDates : ResetTerms → ResetDays → ℕ → Type 0
HasDates t days i = (reset : ℤ) × (fixing : ℤ) × IsDates t days i reset fixing

-- what the failure of a day that is moved and adjusted is for a fixing date
abbrev pub fault_of : NoDate → DateFault
fault_of moves.NoResult = NoFixing
fault_of moves.OutOfRange = OutOfRange
