use Rattle.std.proofs.Common.{sym, ◌∙◌}
use Rattle.irs_cli.specs.Commands.{word_texts}
use Rattle.irs_main.proofs.TellLemmas.{nothing_said}
use Rattle.irs_main.proofs.answering.explain.Goals as goal

pub returns-else-not-is_silent-clause-said : goal.returns-else-not-is_silent-clause-said
returns-else-not-is_silent-clause-said g c =
    nothing_said (word_texts c.args.words.now) c.args.cause.now (g.E.Sink.written c.args.errors.now)
    (g.E.Sink.faults c.args.errors.now) (sym c.is_silent.ensures ∙ c.if-not-is_silent.false)
