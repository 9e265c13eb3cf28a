use Rattle.std.proofs.Common.{◌≡◌, length, All}
use Rattle.irs_base.specs.Lists.{EachNumbered}
use Rattle.irs_observed.specs.OvernightRates.{HasPrintedRate}
use Rattle.irs_observed.specs.Private.OvernightRates.{IsPrintedRow}
use Rattle.irs_observed.proofs.daily_resets.printed_resets.Given as goal

-- the rows so far are those of the resets, with the printed rates
abbrev pub invariant-loop-place : goal.invariant-loop-place
invariant-loop-place l = record {
  many : length l.printed ≡ l.place;
  each : EachNumbered (IsPrintedRow l.rows l.rates) 1 l.printed;
  size : All HasPrintedRate l.printed;
}
