use Rattle.std.proofs.Common.{◌||◌}
use Rattle.irs_terms.specs.Centers.{adjusts_days, counts_days}
use Rattle.irs_rules.proofs.First.{either}
use Rattle.irs_rules.proofs.Names.{names_lawful, fixing_lawful, applicable_lawful, same_names}
use Rattle.irs_rules.proofs.known_centers.center_in_no_calendar.Goals as goal

pub unknown-of_termination-requires : goal.unknown-of_termination-requires
unknown-of_termination-requires c =
    rw c.names_by-termination.ensures
    (names_lawful (adjusts_days c.args.s.now.termination.adj.code) c.args.s.now.termination.adj.centers
    c.requires.termination.1)

pub unknown-of_payments-requires : goal.unknown-of_payments-requires
unknown-of_payments-requires c =
    rw c.names_with-payments.ensures
    (names_lawful (adjusts_days c.args.s.now.pay.adj.code
    || counts_days c.args.s.now.pay.offset) c.args.s.now.pay.adj.centers c.requires.pay.centers)

pub unknown-of_fixing-requires : goal.unknown-of_fixing-requires
unknown-of_fixing-requires c = rw c.fixing_names-fixing.ensures (fixing_lawful c.args.s.now.reset c.requires.reset)

pub unknown-of_applicable-requires : goal.unknown-of_applicable-requires
unknown-of_applicable-requires c =
    rw c.applicable_names-applicable.ensures (applicable_lawful c.args.s.now.leg c.requires.leg)

pub returns : goal.returns
returns c =
    either _ _ _ _ _ c.earlier-5.ensures
    (same_names _ _ _ _ _ c.names_by-effective.ensures c.unknown-of_effective.ensures)
    (either _ _ _ _ _ c.earlier-4.ensures
    (same_names _ _ _ _ _ c.names_by-termination.ensures c.unknown-of_termination.ensures)
    (either _ _ _ _ _ c.earlier-3.ensures (same_names _ _ _ _ _ c.names_by-periods.ensures c.unknown-of_periods.ensures)
    (either _ _ _ _ _ c.earlier-2.ensures (same_names _ _ _ _ _ c.start_names-first.ensures c.unknown-of_first.ensures)
    (either _ _ _ _ _ c.earlier-later.ensures
    (same_names _ _ _ _ _ c.names_with-payments.ensures c.unknown-of_payments.ensures)
    (either _ _ _ _ _ c.earlier-of_rates.ensures
    (same_names _ _ _ _ _ c.fixing_names-fixing.ensures c.unknown-of_fixing.ensures)
    (either _ _ _ _ _ c.earlier.ensures
    (same_names _ _ _ _ _ c.reset_names-resets.ensures c.unknown-of_resets.ensures)
    (same_names _ _ _ _ _ c.applicable_names-applicable.ensures c.unknown-of_applicable.ensures)))))))
