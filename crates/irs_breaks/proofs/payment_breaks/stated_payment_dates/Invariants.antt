use Rattle.std.proofs.Common.{◌≡◌, take}
use Rattle.irs_breaks.specs.BreakLists.{stated_payment_dates}
use Rattle.irs_breaks.proofs.payment_breaks.stated_payment_dates.Given as goal

-- the stated dates of the payments so far
abbrev pub invariant-loop-payment : goal.invariant-loop-payment
invariant-loop-payment l = l.dates.items ≡ stated_payment_dates (take l.payment-index l.payments)
