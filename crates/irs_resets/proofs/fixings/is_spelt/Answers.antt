use Rattle.std.proofs.Common.{sym, true≢false}
use Rattle.irs_resets.proofs.fixings.is_spelt.Goals as goal

pub returns-in-None : goal.returns-in-None
returns-in-None c = (
  λ e. absurd (true≢false (sym e)),
  λ s. absurd (c.in-None.ensures.none s.index s.slot s.rate s.spelt),
)
