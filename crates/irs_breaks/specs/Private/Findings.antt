-- Private: no public contract rests on this file.
-- Of private functions: how findings are counted and joined.
use Rattle.std.specs.Prelude.{◌+◌, ◌≡◌, ℕ, List, Some, slice_get}
use Rattle.irs_flows.specs.FlowReading.{FlowPart}
use Rattle.irs_flows.specs.declared.flows.FlowPayment.{FlowPayment}
use Rattle.irs_breaks.specs.declared.counting.Counts.{Counts}
use Rattle.irs_breaks.specs.Findings.{Findings, joined_findings}
use Rattle.irs_breaks.specs.BreakLists.{periods_before}

-- ---- the breaks among the fields of a pair, and how its fields are counted

-- the sums of two counts
abbrev pub together : Counts → Counts → Counts
together a b = record {
  compared = a.compared + b.compared;
  unstated = a.unstated + b.unstated;
  unknown = a.unknown + b.unknown;
}

-- ---- what is found where a schedule is compared with cash flows, and how findings are joined in order

-- findings that meet P were added to others
abbrev pub Adds : (Findings → Type 0) → Findings → Findings → Type 0
Adds P old new = (more : Findings) × P more × (new ≡ joined_findings old more)

-- ---- the findings of the rows of a stream: exchanges, payments, calculation periods and resets

-- ---- payments

-- the places at which the periods of each payment of theirs begin
abbrev pub AreStarts : FlowPart → List ℕ → Type 0
AreStarts g starts = (place : ℕ) (y : FlowPayment) → slice_get g.payments place ≡ Some y
    → slice_get starts place ≡ Some (periods_before g place)
