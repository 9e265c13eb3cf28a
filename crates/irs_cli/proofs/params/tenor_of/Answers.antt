use Rattle.std.proofs.Common.{sym, ◌∙◌, ap, Some}
use Rattle.irs_resets.specs.FixingFiles.{tenor_at}
use Rattle.irs_resets.proofs.TenorWords.{tenor_word}
use Rattle.irs_cli.proofs.params.tenor_of.Goals as goal

pub returns-in-Some-Some-clause-some : goal.returns-in-Some-Some-clause-some
returns-in-Some-Some-clause-some c =
    tenor_word c.args.word.now c.in-Some-Some.tenor
    (ap tenor_at (sym c.as_bytes.ensures.value) ∙ sym c.tenor.ensures ∙ c.in-Some-Some.is
    ∙ ap (λ t. Some t) c.in-Some-Some.field-0-is)
