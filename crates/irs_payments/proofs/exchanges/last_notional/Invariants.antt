use Rattle.std.proofs.Common.{◌≡◌, drop}
use Rattle.irs_terms.specs.Lawful.{IsNotional}
use Rattle.irs_payments.specs.Exchanges.{last_value}
use Rattle.irs_payments.proofs.exchanges.last_notional.Given as goal

-- the value is the notional after the steps so far
abbrev pub invariant-loop-step : goal.invariant-loop-step
invariant-loop-step l = record {
  value : last_value l.value (drop l.step-index l.steps) ≡ last_value l.notional.initial l.notional.steps;
  range : IsNotional l.value;
}
