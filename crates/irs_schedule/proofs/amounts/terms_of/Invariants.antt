use Rattle.std.proofs.Common.{◌≡◌, ◌+◌, length}
use Rattle.irs_schedule.specs.Schedules.{IsPeriodTerm}
use Rattle.irs_schedule.specs.Private.Layouts.{table_dates}
use Rattle.irs_base.specs.Lists.{EachNumbered}
use Rattle.irs_schedule.proofs.amounts.terms_of.Given as goal

abbrev pub invariant-loop-number : goal.invariant-loop-number
invariant-loop-number l = record {
  count : l.fn.payment.first_period + length l.terms.items ≡ l.number;
  each : EachNumbered (IsPeriodTerm (table_dates l.s l.table)) l.fn.payment.first_period l.terms.items;
}
