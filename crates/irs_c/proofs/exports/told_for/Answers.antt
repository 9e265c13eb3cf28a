use Rattle.std.proofs.Common.{List, [], ◌++◌, ap, subst, ◌∙◌}
use Rattle.std.proofs.lemmas.List.{append-nil}
use Rattle.std.specs.Prelude.{IfOk}
use Rattle.irs_cli.specs.Commands.{Words, word_texts}
use Rattle.irs_c.specs.Each.{IsRun, words_in}
use Rattle.irs_c.specs.Private.Each.{outcome_by}
use Rattle.irs_c.specs.declared.given.File.{File}
use Rattle.irs_c.proofs.exports.told_for.Goals as goal

pub returns-clause-run : goal.returns-clause-run
returns-clause-run c =
    let files = c.args.files.now in
    subst (λ (fs : List File). IfOk c.tell.result (λ t. IsRun (words_in c.args.words.now) fs (outcome_by t)))
    (append-nil files)
    (subst (λ (ws : Words). IfOk c.tell.result (λ t. IsRun ws (files ++ []) (outcome_by t)))
    (ap word_texts c.deref.ensures.value ∙ c.in_ok-words.ensures.ok) c.tell.ensures.run)
