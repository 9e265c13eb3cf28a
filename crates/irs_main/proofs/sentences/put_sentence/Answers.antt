use Rattle.std.proofs.Common.{◌++◌, refl}
use Rattle.irs_cli.proofs.PutLemmas.{first_part, on_err, on_err_then, through_last_part}
use Rattle.irs_main.specs.Notes.{note_of}
use Rattle.irs_main.specs.Shown.{joined_texts}
use Rattle.irs_main.specs.Sentences.{told_texts}
use Rattle.irs_cli.specs.Commands.{word_texts}
use Rattle.irs_main.proofs.sentences.put_sentence.Goals as goal

pub returns-in_err-put_told-clause-err : goal.returns-in_err-put_told-clause-err
returns-in_err-put_told-clause-err g c =
    on_err c.from_residual.result
    (first_part (g.S.Sink.written c.args.out.now) (g.S.Sink.written c.put_told.new.out)
    (joined_texts (told_texts (word_texts c.args.words.now) c.args.cause.now)) (joined_texts (note_of c.args.cause.now))
    c.in_err-put_told.ensures.err)

pub returns-clause-err : goal.returns-clause-err
returns-clause-err g c =
    let note = joined_texts (note_of c.args.cause.now) in
    on_err_then c.put_note.result c.put_note.ensures.err
    (through_last_part (g.S.Sink.written c.args.out.now) (g.S.Sink.written c.put_told.new.out)
    (g.S.Sink.written c.put_note.new.out) note (joined_texts (told_texts (word_texts c.args.words.now) c.args.cause.now) ++ note)
    (record {
      front = joined_texts (told_texts (word_texts c.args.words.now) c.args.cause.now);
      grew = c.in_ok-put_told.ensures.ok;
      is = refl;
    }))
