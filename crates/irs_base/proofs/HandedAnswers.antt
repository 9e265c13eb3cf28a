-- Answers that are handed on.
use Rattle.std.proofs.Common.{Result, Ok, Err, IfOk}
use Rattle.irs_base.specs.declared.stopped.Stopped.{Stopped}
use Rattle.irs_base.specs.declared.stopped.Stopped.TheVariants.{Broken as OfBroken, Memory as OfMemory}
use Rattle.irs_base.specs.Outcomes.{IfBroken, IfStopped}

-- at the exit of a `?`
pub handed_on : {F : Type 0} (e : Stopped F) (P Q : F → Type 0) → ((f : F) → P f → Q f) → IfStopped e P → IfStopped e Q
handed_on (OfBroken f) P Q g h = g f h
handed_on OfMemory P Q g h = tt

-- of an answer that is handed on as it is
pub handed_back : {A F : Type 0} (r : Result A (Stopped F)) (P Q : F → Type 0) → ((f : F) → P f → Q f) → IfBroken r P
    → IfBroken r Q
handed_back (Ok v) P Q g h = tt
handed_back (Err e) P Q g h = handed_on e P Q g h

-- four facts of an answer that is there, as one
pub ok_four : {X E : Type 0} (r : Result X E) (P Q R S T : X → Type 0) → ((x : X) → P x → Q x → R x → S x → T x)
    → IfOk r P → IfOk r Q → IfOk r R → IfOk r S → IfOk r T
ok_four (Ok x) P Q R S T f p q r s = f x p q r s
ok_four (Err e) P Q R S T f p q r s = tt
