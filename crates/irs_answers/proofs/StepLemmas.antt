-- The statuses of replies and refusals, and errors of the calls that become refusals.
use Rattle.std.proofs.Common.{◌≡◌, ◌<◌, ℕ, List, Option, Some, None, Result, Ok, Err, sym, subst, arith}
use Rattle.std.specs.Prelude.{IfSome, IfErr, IsErr, option_map}
use Rattle.std.specs.Result.{IsErrAnd}
use Rattle.irs_flows.specs.declared.error.FlowErr.{FlowErr}
use Rattle.irs_flows.specs.declared.error.FlowErr.TheVariants as flowing
use Rattle.irs_calendar.specs.Grammar.{spot_of, Spot}
use Rattle.irs_resets.specs.declared.fixings.FixErr.{FixErr}
use Rattle.irs_resets.specs.declared.fixings.FixErr.TheVariants as fixing
use Rattle.irs_answers.specs.declared.refusals.Refusal.{Refusal}
use Rattle.irs_answers.specs.declared.refusals.Refusal.TheVariants.{Rule, Calendars, Fixings, Flows, Memory}
use Rattle.irs_answers.specs.declared.refusals.Refusal.TheVariants.{Unreadable, UnreadableFlows}
use Rattle.irs_answers.specs.declared.replies.Reply.{Reply}
use Rattle.irs_answers.specs.declared.replies.Reply.TheVariants.{Text, Rows, Breaks, Verdict, Refused}
use Rattle.irs_audit.specs.declared.departures.Verdict.TheVariants.{Yes, No}
use Rattle.irs_answers.specs.Due.{faulty_calendar, answer_of, fixings_answer, flows_answer, Ends, MeetsTask}
use Rattle.irs_answers.specs.Due.{RefusedBy}
use Rattle.irs_answers.specs.Messages.{Answer, reply_status}
use Rattle.irs_base.specs.Outcomes.{Spec}
use Rattle.irs_answers.specs.Private.Outcomes.{IfRefused, IfAnswered, MeetsReply, IsCarriedOut}

-- ---- the status of a reply and of a refusal

-- the status of a task that is carried out is below 4
pub carried_low : (o : Reply) → IsCarriedOut o → reply_status o < 4
carried_low (Text text) h = omega arith
carried_low (Rows schedule) h = omega arith
carried_low (Breaks text) h = omega arith
carried_low (Verdict (Yes rows unfixed)) h = omega arith
carried_low (Verdict (No d)) h = omega arith
carried_low (Refused r) h = absurd h

spot_low : (o : Option Spot) → IfSome (option_map faulty_calendar o) (λ a. a.0 < 4)
spot_low None = tt
spot_low (Some s) = omega arith

fixings_low : (e : FixErr) → IfSome (fixings_answer e) (λ a. a.0 < 4)
fixings_low (fixing.Syntax line) = omega arith
fixings_low (fixing.Repeat line) = omega arith
fixings_low fixing.Memory = tt

flows_low : (e : FlowErr) → IfSome (flows_answer e) (λ a. a.0 < 4)
flows_low (flowing.Shape how place) = omega arith
flows_low flowing.Memory = tt

-- the status of a refusal is below 4
refusal_low : (r : Refusal) → IfSome (answer_of r) (λ a. a.0 < 4)
refusal_low (Unreadable u) = omega arith
refusal_low (Rule b) = omega arith
refusal_low (Calendars e) = spot_low (spot_of e)
refusal_low (Fixings e) = fixings_low e
refusal_low (UnreadableFlows u) = omega arith
refusal_low (Flows e) = flows_low e
refusal_low Memory = tt

some_ends : (o : Option Answer) (Q : Answer → Type 0) (P : ℕ → List ℕ → Type 0)
    → ((status : ℕ) (text : List ℕ) → Q (status, text) → P status text) → IfSome o (λ a. a.0 < 4) → IfSome o Q
    → IfSome o (λ a. Ends P a.0 a.1)
some_ends None Q P f low h = tt
some_ends (Some a) Q P f low h = record { due = f a.0 a.1 h; verdict = low }

-- a right refusal has what follows from it
pub refusal_ends : (r : Refusal) (Q : Answer → Type 0) (P : ℕ → List ℕ → Type 0)
    → ((status : ℕ) (text : List ℕ) → Q (status, text) → P status text) → IfSome (answer_of r) Q → IfRefused r (Ends P)
refusal_ends r Q P f h = some_ends (answer_of r) Q P f (refusal_low r) h

-- ---- errors of the calls become refusals

-- an error that becomes a refusal
pub refused_by : {A : Type 0} (r : Result A Refusal) (e : Refusal) (P : Refusal → Type 0) → IsErr r
    → IsErrAnd r (λ x. x ≡ e) → P e → IfErr r P
refused_by (Ok x) e P h k p = tt
refused_by (Err x) e P h k p = subst P (sym k) p

-- an error that becomes a right refusal
pub meets_by : {A : Type 0} (spec : Spec A Answer) (r : Result A Refusal) (e : Refusal) → IsErr r
    → IsErrAnd r (λ x. x ≡ e) → RefusedBy spec e → MeetsTask spec r
meets_by spec (Ok x) e h k p = absurd k
meets_by spec (Err x) e h k p = subst (λ (y : Refusal). RefusedBy spec y) (sym k) p

-- so does one of a reply
pub replied_by : (spec : Spec Answer Answer) (r : Result Reply Refusal) (e : Refusal) → IsErr r → IsErrAnd r (λ x. x ≡ e)
    → RefusedBy spec e → MeetsReply spec r
replied_by spec (Ok x) e h k p = absurd k
replied_by spec (Err x) e h k p = subst (λ (y : Refusal). RefusedBy spec y) (sym k) p

-- an error that becomes an answer
pub answered_by : (r : Result Reply Refusal) (e : Refusal) (P : ℕ → List ℕ → Type 0) → IsErr r → IsErrAnd r (λ x. x ≡ e)
    → IfRefused e P → IfAnswered r P
answered_by (Ok x) e P h k p = absurd k
answered_by (Err x) e P h k p = subst (λ (y : Refusal). IfRefused y P) (sym k) p
