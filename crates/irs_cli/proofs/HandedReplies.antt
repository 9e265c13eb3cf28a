-- Answers that are passed on.
use Rattle.std.proofs.Common.{◌≡◌, ℕ, List, Option, Some, None, Bool, true, false, Result, Ok, Err, sym, subst}
use Rattle.std.specs.Prelude.{IfNone, IsErr, IsTrue}
use Rattle.std.specs.Result.{IsErrAnd}
use Rattle.irs_answers.specs.declared.notes.NotedReply.{NotedReply}
use Rattle.irs_cli.specs.declared.refusals.Refusal.{Refusal}
use Rattle.irs_cli.specs.Private.Fetching.{IfRunAnswered, IfRunRefused}

-- an error that becomes an answer
pub answered_by : (r : Result NotedReply Refusal) (e : Refusal) (P : ℕ → List ℕ → Type 0) → IsErr r → IsErrAnd r (λ x. x ≡ e)
    → IfRunRefused e P → IfRunAnswered r P
answered_by (Ok x) e P h k p = absurd k
answered_by (Err x) e P h k p = subst (λ (y : Refusal). IfRunRefused y P) (sym k) p

-- a fact also holds where there is no answer
pub if_none : {X : Type 0} (o : Option X) (P : Type 0) → P → IfNone o P
if_none None P p = p
if_none (Some x) P p = tt

-- a fact that holds where there is no value gives another that follows from it
pub none_then : {X : Type 0} (o : Option X) (P Q : Type 0) → IfNone o P → (P → Q) → IfNone o Q
none_then None P Q p f = f p
none_then (Some x) P Q p f = tt

-- a result is one value
pub ok_same : {A E : Type 0} (r : Result A E) (x y : A) → r ≡ Ok x → r ≡ Ok y → x ≡ y
ok_same r x y h k = cc

-- a result is not a value and an error at once
pub ok_not_err : {A E : Type 0} (r : Result A E) (x : A) (e : E) → r ≡ Ok x → r ≡ Err e → ⊥
ok_not_err r x e h k = cc

-- a false test is not true
pub not_true : (b : Bool) → b ≡ false → IsTrue b → ⊥
not_true true e h = cc
not_true false e h = cc
