use Rattle.std.proofs.Common.{◌+◌, ◌≤◌, ◌<◌, ℕ}
use Rattle.irs_observed.specs.OvernightRates.{overnight_source}
use Rattle.irs_observed.specs.Private.OvernightRates.{HasFewAfter}
use Rattle.irs_observed.proofs.overnight_rates.first_few.Given as goal

-- no period between `after` and this one has too few members
abbrev pub invariant-loop-number : goal.invariant-loop-number
invariant-loop-number g l =
    let source = overnight_source l.s l.span l.adjusted (g.G.GoodDays.days l.applicable) l.float l.parameters in
    record {
      low : l.after + 1 ≤ l.number;
      none : (i : ℕ) → i < l.number → HasFewAfter source l.after i → ⊥;
    }
