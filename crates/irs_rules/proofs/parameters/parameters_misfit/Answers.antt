use Rattle.irs_rules.proofs.First.{either, says}
use Rattle.irs_rules.proofs.parameters.parameters_misfit.Goals as goal

pub returns : goal.returns
returns c =
    either _ _ _ _ _ c.earlier-4.ensures (says _ _ _ _ _ c.tenor_fits.ensures c.fault_unless-tenor.ensures)
    (either _ _ _ _ _ c.earlier-3.ensures (says _ _ _ _ _ c.initial_rate_fits.ensures c.fault_unless-rate.ensures)
    (either _ _ _ _ _ c.earlier-2.ensures (says _ _ _ _ _ c.day_count_fits.ensures c.fault_unless-day_count.ensures)
    (either _ _ _ _ _ c.earlier.ensures (says _ _ _ _ _ c.initial_stub_fits.ensures c.fault_unless-initial.ensures)
    (says _ _ _ _ _ c.final_stub_fits.ensures c.fault_unless-last.ensures))))
