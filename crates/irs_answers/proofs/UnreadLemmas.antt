-- What is said of texts without a reading is passed on.
use Rattle.std.proofs.Common.{◌≡◌, Result, Ok, Err, sym, subst}
use Rattle.std.specs.Prelude.{IfOk, IsErr}
use Rattle.std.specs.Result.{IsErrAnd}
use Rattle.irs_terms.specs.declared.places.Broken.{Broken}
use Rattle.irs_base.specs.declared.stopped.Stopped.{Stopped}
use Rattle.irs_base.specs.declared.stopped.Stopped.TheVariants as stopped
use Rattle.irs_answers.specs.Forms.{SourceText, IsPlacedRefusal, IsPlacedReply}
use Rattle.irs_answers.specs.Due.{ReadFails, of_read, of_stopped}
use Rattle.irs_answers.specs.Private.Outcomes.{AllPlaced}
use Rattle.irs_answers.specs.declared.forms.ReadErr.{ReadErr}
use Rattle.irs_answers.specs.declared.forms.ReadErr.TheVariants as reading
use Rattle.irs_answers.specs.declared.refusals.Refusal.{Refusal}
use Rattle.irs_answers.specs.declared.replies.Reply.{Reply}
use Rattle.irs_answers.specs.declared.replies.Reply.TheVariants.{Refused}

-- a document that can't be read
pub read_placed : (document flows : SourceText) (e : ReadErr) → ReadFails document e → IsPlacedRefusal document flows (of_read e)
read_placed document flows (reading.Unreadable u) h = h
read_placed document flows reading.Memory h = tt

-- a broken rule is of texts that were read
pub stopped_placed : (document flows : SourceText) (e : Stopped Broken) → IsPlacedRefusal document flows (of_stopped e)
stopped_placed document flows (stopped.Broken b) = tt
stopped_placed document flows stopped.Memory = tt

-- an error that becomes a refusal
pub placed_by : (document flows : SourceText) (r : Result Reply Refusal) (e : Refusal) → IsErr r
    → IsErrAnd r (λ x. x ≡ e) → IsPlacedRefusal document flows e → AllPlaced document flows r
placed_by document flows (Ok x) e h k p = absurd k
placed_by document flows (Err x) e h k p = subst (λ (y : Refusal). IsPlacedRefusal document flows y) (sym k) p

-- the reply that a refusal is
pub reply_placed : {E : Type 0} (document flows : SourceText) (r : Result Reply E) (e : Refusal)
    → IfOk r (λ x. x ≡ Refused e) → IsPlacedRefusal document flows e → IfOk r (λ x. IsPlacedReply document flows x)
reply_placed document flows (Ok x) e k p = subst (λ (y : Reply). IsPlacedReply document flows y) (sym k) p
reply_placed document flows (Err m) e k p = tt
