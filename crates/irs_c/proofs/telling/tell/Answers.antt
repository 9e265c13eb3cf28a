use Rattle.irs_cli.specs.Commands.{word_texts}
use Rattle.irs_c.proofs.EachLemmas.{text_run}
use Rattle.irs_c.proofs.telling.tell.Goals as goal

pub returns-clause-run : goal.returns-clause-run
returns-clause-run c =
    let run = c.in_ok-status.ensures in
    text_run (word_texts c.args.words.now) _ _ _ _ run.due run.absent run.only_unlisted run.unlisted run.ok
    (record { cause = _; is = run.cause; sentence_is = c.in_ok-sentence.ensures.done })
