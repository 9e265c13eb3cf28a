use Rattle.std.proofs.Common.{◌≡◌, take}
use Rattle.irs_breaks.specs.BreakLists.{stated_exchange_dates}
use Rattle.irs_breaks.proofs.exchange_breaks.stated_exchange_dates.Given as goal

-- the stated dates of the exchanges so far
abbrev pub invariant-loop-exchange : goal.invariant-loop-exchange
invariant-loop-exchange l = l.dates.items ≡ stated_exchange_dates (take l.exchange-index l.exchanges)
