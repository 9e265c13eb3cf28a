use Rattle.std.proofs.Common.{sym, ◌∙◌, true≢false}
use Rattle.irs_rules.proofs.payment_dates.first_stands.Goals as goal

-- a first date that is needed and absent breaks K16
pub returns-else-has_needed_first : goal.returns-else-has_needed_first
returns-else-has_needed_first c = (
  λ e. absurd (true≢false (sym e ∙ c.if-has_needed_first.false)),
  λ h. absurd (true≢false (sym (c.has_needed_first.ensures.1 h.needed) ∙ c.if-has_needed_first.false)),
)
