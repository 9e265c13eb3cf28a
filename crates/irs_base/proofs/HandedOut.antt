-- Errors that a `?` hands out.
use Rattle.std.proofs.Common.{◌≡◌, Result, Ok, Err, IsErrAnd, sym, subst}
use Rattle.irs_base.specs.declared.stopped.Stopped.{Stopped}
use Rattle.irs_base.specs.Outcomes.{IfBroken, IfStopped}
use Rattle.irs_base.proofs.HandedAnswers.{handed_on}

-- what the callee says of its broken rule, as far as it follows
pub handed_out : {A F : Type 0} (r : Result A (Stopped F)) (e : Stopped F) (P Q : F → Type 0) → IsErrAnd r (λ x. x ≡ e)
    → ((f : F) → P f → Q f) → IfStopped e P → IfBroken r Q
handed_out (Ok v) e P Q is law h = tt
handed_out {F = F} (Err x) e P Q is law h = subst (λ (y : Stopped F). IfStopped y Q) (sym is) (handed_on e P Q law h)
