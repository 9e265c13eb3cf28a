use Rattle.std.proofs.Common.{◌≡◌, ap, subst, ◌∙◌}
use Rattle.std.specs.Prelude.{IfOk}
use Rattle.irs_cli.specs.Commands.{Words, word_texts}
use Rattle.irs_main.specs.Sentences.{sentence_of}
use Rattle.irs_c.proofs.telling.sentence_for.Goals as goal

pub returns-clause-done : goal.returns-clause-done
returns-clause-done c =
    subst (λ (ws : Words). IfOk c.sentence_on.result (λ t. t.items ≡ sentence_of ws c.args.cause.now))
    (ap word_texts c.deref.ensures.value ∙ c.in-Ok.ensures) c.sentence_on.ensures.done
