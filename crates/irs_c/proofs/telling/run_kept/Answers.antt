use Rattle.std.proofs.Common.{arith, ◌≡◌, inl, inr, ℕ, List, [], ◌∷◌, ◌++◌, Option, Some, None, subst, sym, ◌∙◌}
use Rattle.irs_outside.specs.Outside.{Grew}
use Rattle.irs_cli.specs.Commands.{Words, Wanted, word_texts}
use Rattle.irs_cli.specs.Run.{Due, IsCauseOfWritten, IsRunCause, run_status, NoFile, Ran, Source, Written, source}
use Rattle.irs_cli.specs.Given.{FailedAt, Gives, NotLong, ReachesFile}
use Rattle.irs_cli.specs.declared.causes.RunCause.{RunCause}
use Rattle.irs_c.specs.Each.{file_in, gives_in, AbsentAt, IsAbsent}
use Rattle.irs_c.specs.declared.given.File.{File}
use Rattle.irs_c.proofs.LentLemmas.{common_for}
use Rattle.irs_c.proofs.telling.run_kept.Goals as goal

both_parts : {fs own gs go : List File} → gs ≡ fs → go ≡ own → gs ++ go ≡ fs ++ own
both_parts e k = cc

-- what was written to an empty sink is what it keeps
kept : (ws : Words) (s : ℕ) (fs gs : List File) (before after : List ℕ) → gs ≡ fs → before ≡ []
    → (text : List ℕ) × Due ws (file_in gs) s text × Grew (Some before) (Some after) text → Due ws (file_in fs) s after
kept ws s fs gs before after same empty (text, due, grew) =
    let is : text ≡ after = grind arith in
    subst (λ (t : List ℕ). Due ws (file_in fs) s t) is (subst (λ (xs : List File). Due ws (file_in xs) s text) same due)

-- the file of the fetch that failed isn't there
reached : (gs hs : List File) (failed : Option (List ℕ)) (place : ℕ) (ws : List Wanted)
    → ((n : List ℕ) → file_in hs n ≡ file_in gs n) → ((n : List ℕ) → failed ≡ Some n → file_in hs n ≡ None)
    → ReachesFile (NotLong (file_in gs)) (FailedAt failed place) ws
    → ReachesFile (NotLong (file_in gs)) (AbsentAt (file_in gs) place) ws
reached gs hs failed place [] told none h = absurd h
reached gs hs failed place (w ∷ ws) told none (inl h) =
    inl (record { at = h.at; none = sym (told w.name) ∙ none w.name h.is_failed })
reached gs hs failed place (w ∷ ws) told none (inr h) = inr (h.0, reached gs hs failed place ws told none h.1)

absent : (ws : Words) (fs gs hs : List File) (gives : Gives) (failed : Option (List ℕ)) (faults now : ℕ)
    (before after : List ℕ) → gs ≡ fs
    → ((n : List ℕ) → file_in hs n ≡ file_in gs n) → ((n : List ℕ) → failed ≡ Some n → file_in hs n ≡ None)
    → before ≡ []
    → (text : List ℕ) × NoFile ws (source (file_in gs) gives failed faults now) text
    × Grew (Some before) (Some after) text
    → IsAbsent ws (file_in fs) after
absent ws fs gs hs gives failed faults now before after same told none empty (text, missed, grew) =
    let is : text ≡ after = grind arith in
    subst (λ (t : List ℕ). IsAbsent ws (file_in fs) t) is
    (subst (λ (xs : List File). IsAbsent ws (file_in xs) text) same
    (record {
      asked = missed.asked;
      asks = missed.asks;
      place = missed.place;
      file =
          reached gs hs failed missed.place missed.asked.files told none missed.file;
      is_text = missed.is_text;
    }))

-- what a run comes to, by an equal status
ran_as : (ws : Words) (files : Source) (out : Written) (s t : ℕ) → s ≡ t → Ran ws files out t → Ran ws files out s
ran_as ws files out s t e h = subst (λ (n : ℕ). Ran ws files out n) (sym e) h

-- the cause of what was written to an empty sink is that of what it keeps
cause_kept : (ws : Words) (fs gs : List File) (c : RunCause) (s : ℕ) (before after : List ℕ) → gs ≡ fs
    → s ≡ run_status c → before ≡ [] → (s ≡ 6 → ⊥) → (s ≡ 7 → ⊥)
    → IsCauseOfWritten ws (gives_in gs) c (Some before) (Some after) → IsRunCause ws (gives_in fs) c s after
cause_kept ws fs gs c s before after from same empty no6 no7 written =
    let (text, cause, grew) = written (λ e. no6 (same ∙ e)) (λ e. no7 (same ∙ e)) in
    let is : text ≡ after = grind arith in
    let by_files : IsRunCause ws (gives_in fs) c (run_status c) text =
    subst (λ (xs : List File). IsRunCause ws (gives_in xs) c (run_status c) text) from cause in
    subst (λ (t : List ℕ). IsRunCause ws (gives_in fs) c s t) is
    (subst (λ (n : ℕ). IsRunCause ws (gives_in fs) c n text) (sym same) by_files)

pub cause_of_run-cause-requires : goal.cause_of_run-cause-requires
cause_of_run-cause-requires c =
    common_for (word_texts c.args.words.now) c.args.files.now c.args.own.now c.new-source.result.files.now
    c.new-source.result.own.now c.args.common c.new-source.ensures.files c.new-source.ensures.own c.requires

pub returns-clause-due : goal.returns-clause-due
returns-clause-due c ne5 =
    let same = both_parts c.new-source.ensures.files c.new-source.ensures.own in
    let ran = ran_as _ _ _ _ _ c.status-status.ensures c.cause_of_run-cause.ensures.ran in
    kept _ _ _ _ _ _ same c.new-kept.ensures
    (ran.due ne5 (rw c.number.ensures at c.if-status-number.false)
    (rw c.number-else-status-number.ensures at c.if-status-number-2.false))

pub returns-clause-absent : goal.returns-clause-absent
returns-clause-absent c is5 =
    let same = both_parts c.new-source.ensures.files c.new-source.ensures.own in
    let ran = ran_as _ _ _ _ _ c.status-status.ensures c.cause_of_run-cause.ensures.ran in
    absent _ _ _ _ _ _ _ _ _ _ same c.cause_of_run-cause.ensures.told c.cause_of_run-cause.new.files.absent
    c.new-kept.ensures (ran.failed is5)

pub returns-clause-only_unlisted : goal.returns-clause-only_unlisted
returns-clause-only_unlisted c is4 =
    let ran = ran_as _ _ _ _ _ c.status-status.ensures c.cause_of_run-cause.ensures.ran in ran.only_unlisted is4

pub returns-clause-unlisted : goal.returns-clause-unlisted
returns-clause-unlisted c none =
    let ran = ran_as _ _ _ _ _ c.status-status.ensures c.cause_of_run-cause.ensures.ran in
    ran.unlisted none (rw c.number.ensures at c.if-status-number.false)
    (rw c.number-else-status-number.ensures at c.if-status-number-2.false)

pub returns-clause-cause : goal.returns-clause-cause
returns-clause-cause c =
    let same = both_parts c.new-source.ensures.files c.new-source.ensures.own in
    cause_kept _ _ _ _ _ _ _ same c.status-status.ensures c.new-kept.ensures
    (rw c.number.ensures at c.if-status-number.false)
    (rw c.number-else-status-number.ensures at c.if-status-number-2.false) c.cause_of_run-cause.ensures.cause
