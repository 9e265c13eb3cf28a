use Rattle.std.proofs.Common.{sym, ◌∙◌}
use Rattle.irs_cli.specs.Commands.{word_texts}
use Rattle.irs_cli.proofs.PutLemmas.{on_err}
use Rattle.irs_main.proofs.TellLemmas.{end_failed, listing_failed, listing_put, sentence_alone, sentence_failed}
use Rattle.irs_main.proofs.answering.tell.Goals as goal

pub returns-in_err-put_sentence-clause-err : goal.returns-in_err-put_sentence-clause-err
returns-in_err-put_sentence-clause-err g c =
    on_err c.from_residual.result
    (sentence_failed (word_texts c.args.words.now) c.args.cause.now c.requires
    (g.E.Sink.written c.args.errors.now) (g.E.Sink.written c.put_sentence.new.out) c.in_err-put_sentence.ensures.err)

pub returns-in_err-put-clause-err : goal.returns-in_err-put-clause-err
returns-in_err-put-clause-err g c =
    on_err c.from_residual-in_err-put.result
    (end_failed (word_texts c.args.words.now) c.args.cause.now c.requires
    (g.E.Sink.written c.args.errors.now) (g.E.Sink.written c.put_sentence.new.out) (g.E.Sink.written c.put.new.self)
    c.in_ok-put_sentence.ensures.ok c.in_err-put.ensures.err)

pub returns-in_err-put_lines-clause-err : goal.returns-in_err-put_lines-clause-err
returns-in_err-put_lines-clause-err g c =
    on_err c.from_residual-in_err-put_lines.result
    (listing_failed (word_texts c.args.words.now) c.args.cause.now c.requires
    (g.E.Sink.written c.args.errors.now) (g.E.Sink.written c.put_sentence.new.out) (g.E.Sink.written c.put.new.self)
    (g.E.Sink.written c.put_lines.new.out) c.in_ok-put_sentence.ensures.ok c.in_ok-put.ensures.ok
    (sym c.status.ensures ∙ c.if-status-number.true ∙ c.number.ensures) c.in_err-put_lines.ensures.err)

pub returns-in_ok-put_lines-clause-ok : goal.returns-in_ok-put_lines-clause-ok
returns-in_ok-put_lines-clause-ok g c =
    listing_put (word_texts c.args.words.now) c.args.cause.now c.requires
    (g.E.Sink.written c.args.errors.now) (g.E.Sink.written c.put_sentence.new.out) (g.E.Sink.written c.put.new.self)
    (g.E.Sink.written c.put_lines.new.out) c.in_ok-put_sentence.ensures.ok c.in_ok-put.ensures.ok
    (sym c.status.ensures ∙ c.if-status-number.true ∙ c.number.ensures) c.in_ok-put_lines.ensures.ok

pub returns-else-status-number-clause-ok : goal.returns-else-status-number-clause-ok
returns-else-status-number-clause-ok g c =
    sentence_alone (word_texts c.args.words.now) c.args.cause.now c.requires
    (g.E.Sink.written c.args.errors.now) (g.E.Sink.written c.put_sentence.new.out) (g.E.Sink.written c.put.new.self)
    c.in_ok-put_sentence.ensures.ok c.in_ok-put.ensures.ok
    (λ e. c.if-status-number.false (c.status.ensures ∙ e ∙ sym c.number.ensures))
