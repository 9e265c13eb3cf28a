use Rattle.std.proofs.Common.{◌-◌, arith, length, refl}
use Rattle.std.proofs.lemmas.Option.{slice_get_read}
use Rattle.irs_base.proofs.CoverLemmas.{LieAmong, covers_at}
use Rattle.irs_base.proofs.HandedAnswers.{handed_on}
use Rattle.irs_base.proofs.Outcomes.{stopped_meets}
use Rattle.irs_terms.specs.declared.results.Payment.{Payment}
use Rattle.irs_schedule.specs.Schedules.{entries_of}
use Rattle.irs_schedule.specs.Private.Layouts.{table_dates}
use Rattle.irs_schedule.proofs.PaidEntries.{all_entries, no_entries, one_more_entry, stops_at_entry}
use Rattle.irs_schedule.proofs.amounts.paid.Goals as goal

pub paid_by-requires : goal.paid_by-requires
paid_by-requires c =
    let ps = c.args.payments.now in
    let i = c.loop-payment.payment-index in
    let p = c.payment-item.result in
    let there = slice_get_read ps (length ps) i p refl c.loop-payment-test.true c.payment-item.is in
    let lies : LieAmong 1 (length c.args.table.now.unadjusted.now - 1) p.first_period p.last_period =
    covers_at (λ (q : Payment). q.first_period) (λ (q : Payment). q.last_period) 1
    (length c.args.table.now.unadjusted.now - 1) ps i p c.requires.covers there in
    record {
      lawful = c.requires.lawful;
      rises = c.requires.rises;
      table = c.requires.table;
      periods = record { from_one = lies.from; some = lies.order; to_end = omega (arith, lies.from, lies.order, lies.to) };
    }

pub loop-payment-init : goal.loop-payment-init
loop-payment-init c =
    rw (c.in_ok-entries.ensures {u = tt}) (no_entries (table_dates c.args.s.now c.args.table.now) c.args.payments.now)

pub loop-payment-preserved : goal.loop-payment-preserved
loop-payment-preserved c =
    let ps = c.args.payments.now in
    let i = c.loop-payment.payment-index in
    let p = c.payment-item.result in
    let there = slice_get_read ps (length ps) i p refl c.loop-payment-test.true c.payment-item.is in
    let entry = c.in_ok-entry.ensures {u = tt} in
    rw (c.in_ok-push.ensures {u = tt}).ok
    (one_more_entry (table_dates c.args.s.now c.args.table.now) ps i c.loop-payment.entries p there
    c.loop-payment.invariant c.in_ok-entry.entry entry.meets entry.bound)

pub returns : goal.returns
returns c =
    let d = table_dates c.args.s.now c.args.table.now in
    let made = all_entries d c.args.payments.now c.loop-payment.payment-index c.loop-payment.entries
    c.loop-payment-test.false c.loop-payment.invariant in
    record { meets = made; bounds = c.loop-payment.invariant.bounds }

pub returns-in_err-entry-clause-meets : goal.returns-in_err-entry-clause-meets
returns-in_err-entry-clause-meets c =
    let d = table_dates c.args.s.now c.args.table.now in
    let ps = c.args.payments.now in
    let i = c.loop-payment.payment-index in
    let p = c.payment-item.result in
    let there = slice_get_read ps (length ps) i p refl c.loop-payment-test.true c.payment-item.is in
    let spec = entries_of d ps in
    let e = c.in_err-entry.field-0.0 in
    stopped_meets spec c.from_residual-in_err-entry.result e c.from_residual-in_err-entry.ensures.1
    (handed_on e _ spec.Refuses (stops_at_entry d ps i c.loop-payment.entries p there c.loop-payment.invariant)
    (c.in_err-entry.ensures {u = tt}).meets)
