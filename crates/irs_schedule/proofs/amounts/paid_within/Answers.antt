use Rattle.std.proofs.Common.{◌-◌, length, arith}
use Rattle.irs_base.specs.Outcomes.{Determined}
use Rattle.irs_payments.specs.Payments.{Covers}
use Rattle.irs_schedule.specs.Schedules.{entries_of, StreamDates}
use Rattle.irs_schedule.specs.Private.Layouts.{IsTable, table_dates}
use Rattle.irs_terms.specs.Private.TermDates.{AllStepsRise}
use Rattle.irs_terms.specs.declared.results.Payment.{Payment}
use Rattle.std.specs.Prelude.{List}
use Rattle.irs_schedule.proofs.FactorLemmas.{by_amounts, by_factor}
use Rattle.irs_schedule.proofs.PaidEntries.{entries_determined}
use Rattle.irs_schedule.proofs.RateLemmas.{bounds_above}
use Rattle.irs_schedule.proofs.amounts.paid_within.Goals as goal

-- the payments over a table have one outcome
one_outcome : (d : StreamDates) (ps : List Payment) → IsTable d → AllStepsRise d.stream
    → Covers 1 ps (length d.unadjusted - 1) → Determined (entries_of d ps)
one_outcome d ps table rises covers =
    entries_determined d rises (bounds_above d.rates table.rates.bounds) table.rises table.days
    (length d.unadjusted - 1) (omega (arith, table.some, table.same_length)) ps covers

pub returns-in-None-clause-meets : goal.returns-in-None-clause-meets
returns-in-None-clause-meets c =
    let d = table_dates c.args.s.now c.args.table.now in
    by_amounts c.args.table.now.rates.now (entries_of d c.args.payments.now)
    (one_outcome d c.args.payments.now c.requires.table c.requires.rises c.requires.covers) c.in-None.ensures.none
    c.paid.result c.paid.ensures.meets

pub returns-in-Some-clause-meets : goal.returns-in-Some-clause-meets
returns-in-Some-clause-meets c =
    let d = table_dates c.args.s.now c.args.table.now in
    rw (c.first_refusal.ensures, c.passed_at.ensures)
    (by_factor c.args.table.now.rates.now (entries_of d c.args.payments.now)
    (one_outcome d c.args.payments.now c.requires.table c.requires.rises c.requires.covers) c.in-Some.place
    c.in-Some.ensures.some c.paid-entries.result c.paid-entries.ensures.meets)
