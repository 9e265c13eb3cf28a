use Rattle.std.proofs.Common.{◌≡◌, take}
use Rattle.irs_breaks.specs.BreakLists.{payment_row_dates}
use Rattle.irs_breaks.proofs.payment_breaks.payment_dates.Given as goal

-- the dates of the payments so far
abbrev pub invariant-loop-payment : goal.invariant-loop-payment
invariant-loop-payment l = l.dates.items ≡ payment_row_dates (take l.payment-index l.payments)
