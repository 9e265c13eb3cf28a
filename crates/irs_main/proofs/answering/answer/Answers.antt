use Rattle.std.proofs.Common.{[], List, ℕ, Option, ap, inr, map, refl, subst, sym, ◌∙◌}
use Rattle.std.specs.Prelude.{IsSome}
use Rattle.irs_main.specs.Shown.{shown}
use Rattle.irs_cli.specs.Commands.{word_texts}
use Rattle.irs_cli.specs.Run.{Source, Written, source, written}
use Rattle.irs_cli.specs.declared.causes.RunCause.TheVariants.{NoMemory}
use Rattle.irs_cli.proofs.RunLemmas.{memory_ran}
use Rattle.irs_main.specs.Answering.{CameTo}
use Rattle.irs_main.proofs.TellLemmas.{explained_as, said_of_plain, said_of_same}
use Rattle.irs_main.proofs.answering.answer.Goals as goal

pub returns-in-Some-clause-came : goal.returns-in-Some-clause-came
returns-in-Some-clause-came g c =
    let files = c.args.files.now in
    let faults = g.F.Files.faults files in
    let from : Source =
    source (g.F.Files.told files) (g.F.Files.gives files) (g.F.Files.failed files) faults faults in
    let out = c.args.out.now in
    let now = c.print-cause.new.out in
    let to : Written =
    written (g.S.Sink.written out) (g.S.Sink.written now) (g.S.Sink.faults out) (g.S.Sink.faults now) in
    subst (λ (asked : Option (List ℕ)). CameTo asked (word_texts c.args.words.now) from to c.print-cause.result)
    c.in-Some.ensures c.print-cause.ensures.printed

pub returns-in-Some-clause-said : goal.returns-in-Some-clause-said
returns-in-Some-clause-said g c =
    explained_as _ _ _ _ _ _ c.explain.ensures.said
    (said_of_plain [] (map shown (word_texts c.args.words.now)) _ c.print-cause.ensures.plain)

pub returns-in-Ok-clause-came : goal.returns-in-Ok-clause-came
returns-in-Ok-clause-came g c =
    let files = c.args.files.now in
    let later = c.cause_of_run-cause.new.files in
    let from : Source =
    source (g.F.Files.told files) (g.F.Files.gives files) (g.F.Files.failed later) (g.F.Files.faults files)
    (g.F.Files.faults later) in
    let out = c.args.out.now in
    let now = c.cause_of_run-cause.new.out in
    let to : Written =
    written (g.S.Sink.written out) (g.S.Sink.written now) (g.S.Sink.faults out) (g.S.Sink.faults now) in
    subst (λ (asked : Option (List ℕ)). CameTo asked (word_texts c.args.words.now) from to c.cause_of_run-cause.result)
    c.in-None.ensures (c.cause_of_run-cause.ensures.ran, c.cause_of_run-cause.ensures.cause)

pub returns-in-Ok-clause-unread : goal.returns-in-Ok-clause-unread
returns-in-Ok-clause-unread g c some = absurd (cc (subst IsSome (sym c.in-None.ensures) some))

pub returns-in-Ok-clause-said : goal.returns-in-Ok-clause-said
returns-in-Ok-clause-said g c =
    explained_as _ _ _ _ _ _ c.explain-in-Ok.ensures.said
    (said_of_same _ _ _ (ap word_texts c.deref.ensures.value ∙ c.in-Ok.ensures))

pub returns-in-Err-clause-came : goal.returns-in-Err-clause-came
returns-in-Err-clause-came g c =
    let files = c.args.files.now in
    let out = c.args.out.now in
    let faults = g.F.Files.faults files in
    let from : Source =
    source (g.F.Files.told files) (g.F.Files.gives files) (g.F.Files.failed files) faults faults in
    let to : Written =
    written (g.S.Sink.written out) (g.S.Sink.written out) (g.S.Sink.faults out) (g.S.Sink.faults out) in
    subst (λ (asked : Option (List ℕ)). CameTo asked (word_texts c.args.words.now) from to NoMemory)
    c.in-None.ensures
    (memory_ran (word_texts c.args.words.now) from (g.S.Sink.written out) (g.S.Sink.faults out), λ _ no. absurd (no refl))

pub returns-in-Err-clause-said : goal.returns-in-Err-clause-said
returns-in-Err-clause-said g c =
    explained_as _ _ _ _ _ _ c.explain-in-Err.ensures.said
    (said_of_plain [] (map shown (word_texts c.args.words.now)) _ (inr (inr refl)))
