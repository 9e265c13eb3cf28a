use Rattle.std.proofs.Common.{ℕ, subst, sym}
use Rattle.irs_roll.specs.Rolls.{OnMonths, IsNumbered}
use Rattle.irs_roll.proofs.month_grid.MonthGrid+DayNumber.new.Goals as goal

pub returns-clause-on : goal.returns-clause-on
returns-clause-on c = λ d. (
  λ h. subst (λ (n : ℕ). OnMonths (IsNumbered n) c.args.months c.args.anchor d) c.new.ensures ((c.of.ensures.on d).0 h),
  λ h. (c.of.ensures.on d).1
      (subst (λ (n : ℕ). OnMonths (IsNumbered n) c.args.months c.args.anchor d) (sym c.new.ensures) h),
)
