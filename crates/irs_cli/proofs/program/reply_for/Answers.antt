use Rattle.irs_cli.specs.Commands.{word_texts}
use Rattle.irs_cli.proofs.CauseLemmas.{unreplied_cause}
use Rattle.irs_cli.proofs.program.reply_for.Goals as goal

pub returns-in-Err-clause-cause : goal.returns-in-Err-clause-cause
returns-in-Err-clause-cause g c =
    unreplied_cause (word_texts c.args.words.now) (g.F.Files.gives c.args.files.now) c.reply.result
    c.reply.ensures.unreplied
