use Rattle.std.proofs.Common.{◌≡◌, ℤ, subst}
use Rattle.irs_roll.specs.Rolls.{kth, OnMonths}
use Rattle.irs_roll.specs.Private.Laws.{on_by_index, roll_is_on}
use Rattle.irs_roll.proofs.month_grid.MonthGridGrid.on_grid.Goals as goal

pub returns : goal.returns
returns g c =
    let r = g.R.Roll in
    let laws = g.met.R.Roll in
    let s = c.args.self.now in
    let on : (k : ℤ) → r.day s.roll (kth s.start s.months k) ≡ c.args.d
    → OnMonths (r.rolls s.roll) s.months s.anchor c.args.d =
    λ k e. subst (OnMonths (r.rolls s.roll) s.months s.anchor) e
    (roll_is_on (r.rolls s.roll) (r.day s.roll) (laws.is s.roll) (laws.only s.roll)
    (laws.stays s.roll) s.months s.anchor s.start k s.begins) in
    rw c.is_some.ensures (on_by_index c.index.result _ _ c.index.ensures.some c.index.ensures.none on)
