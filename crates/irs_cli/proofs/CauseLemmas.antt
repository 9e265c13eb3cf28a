-- What a run comes to has the status of its reply, and is that of the text that was written.
use Rattle.std.proofs.Common.{◌≡◌, ℕ, List, Option, Result, Ok, Err, refl, sym, subst}
use Rattle.std.specs.Prelude.{IfOk}
use Rattle.irs_answers.proofs.CauseLemmas.{same_status}
use Rattle.irs_outside.specs.Outside.{Grew}
use Rattle.irs_cli.specs.Run.{IsCauseOfWritten, IsRunCause, run_cause_of, run_reply_status, run_reply_text, run_status}
use Rattle.irs_cli.specs.Private.Fetching.{IsUnreplied}
use Rattle.irs_cli.specs.Commands.{Words}
use Rattle.irs_cli.specs.Given.{Gives}
use Rattle.irs_cli.specs.declared.causes.RunCause.{RunCause}
use Rattle.irs_cli.specs.declared.causes.RunReply.{RunReply}
use Rattle.irs_cli.specs.declared.causes.RunReply.TheVariants.{Replied, BadWords, NoFile, TooLong}

-- a cause has the status of its reply
pub same_run_status : (r : RunReply) → run_status (run_cause_of r) ≡ run_reply_status r
same_run_status (Replied r) = same_status r.reply
same_run_status BadWords = refl
same_run_status (NoFile place) = refl
same_run_status (TooLong place) = refl

module _ (ws : Words) (gives : Gives) where
  -- the cause of a reply that was written is that of the text
  pub cause_written : (r : RunReply) (c : RunCause) (old new : Option (List ℕ)) → c ≡ run_cause_of r
      → IsRunCause ws gives (run_cause_of r) (run_reply_status r) (run_reply_text r) → Grew old new (run_reply_text r)
      → IsCauseOfWritten ws gives c old new
  cause_written r c old new is cause grew = λ _ _.
      let text = run_reply_text r in
      let status = same_run_status r in
      let of : IsRunCause ws gives (run_cause_of r) (run_status (run_cause_of r)) text =
      subst (λ (s : ℕ). IsRunCause ws gives (run_cause_of r) s text) (sym status) cause in
      (text, subst (λ (x : RunCause). IsRunCause ws gives x (run_status x) text) (sym is) of, grew)

  cause_without : (r : RunReply) → IsUnreplied r
      → IsRunCause ws gives (run_cause_of r) (run_reply_status r) (run_reply_text r)
  cause_without (Replied r) h = absurd h
  cause_without BadWords h = (refl, refl)
  cause_without (NoFile place) h = (refl, refl)
  cause_without (TooLong place) h = (refl, refl)

  -- what comes to no reply has its cause, whatever the words and the files
  pub unreplied_cause : {E : Type 0} (r : Result RunReply E) → IfOk r IsUnreplied
      → IfOk r (λ x. IsRunCause ws gives (run_cause_of x) (run_reply_status x) (run_reply_text x))
  unreplied_cause (Ok x) h = cause_without x h
  unreplied_cause (Err e) h = tt
