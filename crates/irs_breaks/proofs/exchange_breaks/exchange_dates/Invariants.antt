use Rattle.std.proofs.Common.{◌≡◌, take}
use Rattle.irs_breaks.specs.BreakLists.{exchange_dates}
use Rattle.irs_breaks.proofs.exchange_breaks.exchange_dates.Given as goal

-- the dates of the exchanges so far
abbrev pub invariant-loop-exchange : goal.invariant-loop-exchange
invariant-loop-exchange l = l.dates.items ≡ exchange_dates (take l.exchange-index l.exchanges)
