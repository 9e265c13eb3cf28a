use Rattle.std.proofs.Common.{ℕ, refl, subst, sym, ap, ◌∙◌}
use Rattle.irs_cli.specs.Run.{run_reply_status, run_reply_text, run_status, Ran, source, written}
use Rattle.irs_cli.specs.Commands.{word_texts}
use Rattle.irs_cli.proofs.CauseLemmas.{cause_written, same_run_status}
use Rattle.irs_cli.proofs.RunLemmas.{memory_ran, put_failed_ran, put_ran}
use Rattle.irs_cli.proofs.program.cause_of_run.Goals as goal

pub returns-in-Ok-put_run_reply-clause-ran : goal.returns-in-Ok-put_run_reply-clause-ran
returns-in-Ok-put_run_reply-clause-ran g c =
    let files = c.args.files.now in
    let after = c.reply_for.new.files in
    let out = c.args.out.now in
    let put = c.put_run_reply.new.out in
    let words = word_texts c.args.words.now in
    let reply = c.in-Ok.reply in
    let from = source (g.F.Files.told files) (g.F.Files.gives files) (g.F.Files.failed after) (g.F.Files.faults files) (g.F.Files.faults after) in
    let to = written (g.S.Sink.written out) (g.S.Sink.written put) (g.S.Sink.faults out) (g.S.Sink.faults put) in
    subst (λ (status : ℕ). Ran words from to status) (sym (ap run_status c.into_cause.ensures ∙ same_run_status reply))
    (put_ran words from (run_reply_status reply) (run_reply_text reply) c.in-Ok.ensures.replies
    (g.S.Sink.written out) (g.S.Sink.written put) (g.S.Sink.faults out) (g.S.Sink.faults put)
    c.in-Ok-put_run_reply.ensures.ok c.in-Ok-put_run_reply.ensures.quiet)

pub returns-in-Ok-put_run_reply-clause-cause : goal.returns-in-Ok-put_run_reply-clause-cause
returns-in-Ok-put_run_reply-clause-cause g c =
    cause_written (word_texts c.args.words.now) (g.F.Files.gives c.args.files.now) c.in-Ok.reply c.into_cause.result
    (g.S.Sink.written c.args.out.now) (g.S.Sink.written c.put_run_reply.new.out) c.into_cause.ensures
    c.in-Ok.ensures.cause c.in-Ok-put_run_reply.ensures.ok

pub returns-in-Err-put_run_reply-clause-ran : goal.returns-in-Err-put_run_reply-clause-ran
returns-in-Err-put_run_reply-clause-ran g c =
    let files = c.args.files.now in
    let after = c.reply_for.new.files in
    let out = c.args.out.now in
    let put = c.put_run_reply.new.out in
    let words = word_texts c.args.words.now in
    let reply = c.in-Ok.reply in
    let from = source (g.F.Files.told files) (g.F.Files.gives files) (g.F.Files.failed after) (g.F.Files.faults files) (g.F.Files.faults after) in
    put_failed_ran words from (run_reply_status reply) (run_reply_text reply) c.in-Ok.ensures.replies
    (g.S.Sink.written out) (g.S.Sink.written put) (g.S.Sink.faults out) (g.S.Sink.faults put)
    c.in-Err-put_run_reply.ensures.err c.in-Err-put_run_reply.ensures.rose

pub returns-in-Err-put_run_reply-clause-cause : goal.returns-in-Err-put_run_reply-clause-cause
returns-in-Err-put_run_reply-clause-cause g c = λ no _. absurd (no refl)

pub returns-in-Err-clause-ran : goal.returns-in-Err-clause-ran
returns-in-Err-clause-ran g c =
    let files = c.args.files.now in
    let after = c.reply_for.new.files in
    let out = c.args.out.now in
    let words = word_texts c.args.words.now in
    let from = source (g.F.Files.told files) (g.F.Files.gives files) (g.F.Files.failed after) (g.F.Files.faults files) (g.F.Files.faults after) in
    memory_ran words from (g.S.Sink.written out) (g.S.Sink.faults out)

pub returns-in-Err-clause-cause : goal.returns-in-Err-clause-cause
returns-in-Err-clause-cause g c = λ _ no. absurd (no refl)
