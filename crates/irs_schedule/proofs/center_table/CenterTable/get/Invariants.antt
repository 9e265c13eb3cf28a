use Rattle.std.proofs.Common.{◌≡◌, ℕ, ◌<◌, get_or, option_copied}
use Rattle.irs_schedule.specs.DaySets.{NamedCenters}
use Rattle.irs_schedule.proofs.center_table.CenterTable.get.Given as goal

-- the items before this one have other names
abbrev pub invariant-loop-days : goal.invariant-loop-days
invariant-loop-days l =
    (k : ℕ) (days : NamedCenters) → k < l.days-index → (get_or l.days-items k days).names ≡ option_copied l.names → ⊥
