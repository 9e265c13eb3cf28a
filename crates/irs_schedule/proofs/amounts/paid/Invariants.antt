use Rattle.irs_schedule.specs.Private.Layouts.{table_dates}
use Rattle.irs_schedule.proofs.PaidEntries.{EntriesSoFar}
use Rattle.irs_schedule.proofs.amounts.paid.Given as goal

abbrev pub invariant-loop-payment : goal.invariant-loop-payment
invariant-loop-payment l =
    EntriesSoFar (table_dates l.s l.table) l.payments l.payment-index l.entries
