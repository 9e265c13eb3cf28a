use Rattle.std.proofs.Common.{refl}
use Rattle.irs_overnight.proofs.streams.floats.Goals as goal

pub returns-in-Some : goal.returns-in-Some
returns-in-Some c = (λ h. (c.in-Some.field-0.now, c.in-Some.ensures.some), λ h. refl)

pub returns-in-None : goal.returns-in-None
returns-in-None c = (λ h. absurd (cc), λ h. absurd (c.in-None.ensures.none h.0 h.1))
