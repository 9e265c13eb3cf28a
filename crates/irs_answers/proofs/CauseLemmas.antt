-- The cause of a reply is that of its status and its text.
use Rattle.std.proofs.Common.{◌≡◌, ℕ, ◌<◌, ◌==◌, Bool, true, false, Result, Ok, Err, refl, ap, arith}
use Rattle.std.specs.Prelude.{IfOk, if◌then◌else◌}
use Rattle.std.proofs.lemmas.Bool.Decides.{Decides-eqb}
use Rattle.irs_audit.specs.declared.departures.Verdict.{Verdict as Judgement}
use Rattle.irs_audit.specs.declared.departures.Verdict.TheVariants.{Yes, No}
use Rattle.irs_answers.specs.Messages.{IsCause, IsCauseOf, IsCompared, IsJudged, cause_of, cause_status, verdict_cause}
use Rattle.irs_answers.specs.Messages.{verdict_status, verdict_text, reply_status, reply_text}
use Rattle.irs_answers.specs.Private.Outcomes.{JudgedIf}
use Rattle.irs_answers.specs.declared.causes.Cause.TheVariants.{Done, Uncompared}
use Rattle.irs_answers.specs.declared.refusals.Refusal.{Refusal}
use Rattle.irs_answers.specs.declared.replies.Reply.{Reply}
use Rattle.irs_answers.specs.declared.replies.Reply.TheVariants.{Text, Rows, Breaks, Verdict, Refused}
use Rattle.irs_answers.specs.declared.tasks.Task.{Task}
use Rattle.irs_answers.specs.declared.tasks.Task.TheVariants as task

positive : (n : ℕ) → (n == 0) ≡ false → 0 < n
positive n some = grind arith

yes_holds : (rows n : ℕ) (b : Bool) → (n == 0) ≡ b
    → IsCause (if b then Done else Uncompared n) 0 (verdict_text (Yes rows n))
yes_holds rows n true zero = refl
yes_holds rows n false some = (refl, (positive n some, (rows, refl)))

-- what a verdict says is said of its status and its line
verdict_holds : (w : Judgement) → IsCause (verdict_cause w) (verdict_status w) (verdict_text w)
verdict_holds (Yes rows unfixed) = yes_holds rows unfixed (unfixed == 0) refl
verdict_holds (No d) = (refl, refl)

-- what a reply says is said of its status and its text
pub cause_holds : (r : Reply) → IsCause (cause_of r) (reply_status r) (reply_text r)
cause_holds (Text x) = refl
cause_holds (Rows s) = refl
cause_holds (Breaks x) = refl
cause_holds (Verdict w) = verdict_holds w
cause_holds (Refused e) = (refl, refl)

yes_compared : (rows n : ℕ) (b : Bool) → (n == 0) ≡ b → (if b then Done else Uncompared n) ≡ Done
    → IsCompared (verdict_text (Yes rows n))
yes_compared rows n true zero done =
    let none : n ≡ 0 = (Decides-eqb n 0).0 zero in
    (rows, ap (λ (k : ℕ). verdict_text (Yes rows k)) none)
yes_compared rows n false some done = absurd (cc)

-- where a verdict or a refusal leaves nothing to say, all amounts were compared
judged_compared : (r : Reply) → IsJudged r → cause_of r ≡ Done → IsCompared (reply_text r)
judged_compared (Text x) j done = absurd j
judged_compared (Rows s) j done = absurd j
judged_compared (Breaks x) j done = absurd j
judged_compared (Verdict (Yes rows unfixed)) j done = yes_compared rows unfixed (unfixed == 0) refl done
judged_compared (Verdict (No d)) j done = absurd (cc)
judged_compared (Refused e) j done = absurd (cc)

-- the cause of a verdict or of a refusal
pub judged_holds : (t : Task) (r : Reply) → IsJudged r → IsCauseOf t (cause_of r) (reply_status r) (reply_text r)
judged_holds t r j = record { is = cause_holds r; compared = λ _ done. judged_compared r j done }

other_holds : (t : Task) (r : Reply) → (t ≡ task.Audit → ⊥) → IsCauseOf t (cause_of r) (reply_status r) (reply_text r)
other_holds t r never = record { is = cause_holds r; compared = λ e _. absurd (never e) }

-- a verdict or a refusal has its cause
pub caused : {E : Type 0} (t : Task) (r : Result Reply E) → IfOk r IsJudged
    → IfOk r (λ x. IsCauseOf t (cause_of x) (reply_status x) (reply_text x))
caused t (Ok x) j = judged_holds t x j
caused t (Err e) j = tt

other : (t : Task) (r : Result Reply Refusal) → (t ≡ task.Audit → ⊥)
    → IfOk r (λ x. IsCauseOf t (cause_of x) (reply_status x) (reply_text x))
other t (Ok x) never = other_holds t x never
other t (Err e) never = tt

-- a reply to a task has its cause
pub caused_by : (t : Task) (r : Result Reply Refusal) → JudgedIf t r
    → IfOk r (λ x. IsCauseOf t (cause_of x) (reply_status x) (reply_text x))
caused_by task.Check r j = other task.Check r (λ e. cc)
caused_by task.Schedule r j = other task.Schedule r (λ e. cc)
caused_by task.Audit r j = caused task.Audit r j
caused_by (task.Breaks from) r j = other (task.Breaks from) r (λ e. cc)
caused_by task.Emit r j = other task.Emit r (λ e. cc)
caused_by task.EmitXml r j = other task.EmitXml r (λ e. cc)
caused_by (task.Accrue date) r j = other (task.Accrue date) r (λ e. cc)
caused_by task.Net r j = other task.Net r (λ e. cc)
caused_by (task.Observations stream) r j = other (task.Observations stream) r (λ e. cc)
caused_by (task.Overnight stream) r j = other (task.Overnight stream) r (λ e. cc)
caused_by (task.Average stream mean step) r j = other (task.Average stream mean step) r (λ e. cc)
caused_by (task.Interpolate stream side low high) r j = other (task.Interpolate stream side low high) r (λ e. cc)

-- the status of a cause is that of its reply
status_holds : (rows n : ℕ) (b : Bool) → cause_status (if b then Done else Uncompared n) ≡ 0
status_holds rows n true = refl
status_holds rows n false = refl

-- a cause has the status of its reply
pub same_status : (r : Reply) → cause_status (cause_of r) ≡ reply_status r
same_status (Text x) = refl
same_status (Rows s) = refl
same_status (Breaks x) = refl
same_status (Verdict (Yes rows unfixed)) = status_holds rows unfixed (unfixed == 0)
same_status (Verdict (No d)) = refl
same_status (Refused e) = refl

-- whatever is replied has its cause
pub any_cause : {E : Type 0} (r : Result Reply E) → IfOk r (λ x. IsCause (cause_of x) (reply_status x) (reply_text x))
any_cause (Ok x) = cause_holds x
any_cause (Err e) = tt
